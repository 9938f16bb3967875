-- The words of specs/Lists.antt and those of the standard library mean the same.
-- Assumes nothing.
use Prim.Native.Nat.{ℕ, zero, suc, ◌+◌}
use mathlib.Core.Path.{◌≡◌, refl, sym, ap, ◌∙◌}
use mathlib.Core.Bool.{Bool, true, false, cond}
use mathlib.Core.List.{List, [], ◌∷◌}
use native.Mathlib.Numerals.{add-one}
use native.Mathlib.Omega.{arith}
use Rattle.std.specs.Prelude.{filter, sum_by}
use Rattle.std.specs.List as std
use Rattle.std.proofs.lemmas.List.Recursion.{is_position_or_len}
use Rattle.std.proofs.lemmas.List.Sums.{sum_by-cons}
use Rattle.fit.specs.Lists.{numbers, find, select, place_of, sum, joined}

pub numbers_range : (a n : ℕ) → numbers a n ≡ std.range_with_len a n
unfolding numbers
numbers_range a zero = refl
numbers_range a (suc n) = rw (add-one a, numbers_range (suc a) n)

pub find_std : (q : ℕ → Bool) (l : List ℕ) → find q l ≡ std.find q l
unfolding find
find_std q [] = refl
find_std q (i ∷ l) = rw (find_std q l)

-- what a search of the numbers from a up finds
pub find_range : (q : ℕ → Bool) (a n : ℕ) → std.find q (std.range_with_len a n) ≡ find q (numbers a n)
find_range q a n = rw (numbers_range a n) (sym (find_std q _))

pub select_filter : {A : Type 0} (q : A → Bool) (l : List A) → select q l ≡ filter q l
unfolding select
select_filter q [] = refl
select_filter q (x ∷ l) = rw (select_filter q l)

pub place_position : {A : Type 0} (q : A → Bool) (l : List A) → place_of q l ≡ std.position_or_len q l
unfolding place_of
place_position q l = is_position_or_len (place_of q) q refl (λ x xs. step (q x) (place_of q xs)) l
  where
    step : (b : Bool) (n : ℕ) → cond b 0 (suc n) ≡ cond b 0 (1 + n)
    step true n = refl
    step false n = omega arith

pub joined_flat : (f : ℕ → List ℕ) (l : List ℕ) → joined f l ≡ std.flat_map f l
unfolding joined
joined_flat f [] = refl
joined_flat f (i ∷ l) = rw (joined_flat f l)

pub sum_std : (f : ℕ → ℕ) (l : List ℕ) → sum f l ≡ sum_by f l
unfolding sum
sum_std f [] = refl
sum_std f (i ∷ l) = ap (λ (n : ℕ). f i + n) (sum_std f l) ∙ sym (sum_by-cons f i l)
