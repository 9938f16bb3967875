-- Rule 10: the flags of the cores that have a task, as the code sets and reads them.
-- Assumes nothing.
use Prim.Native.Nat.{ℕ, suc, ◌+◌, ◌<◌}
use mathlib.Core.Path.{◌≡◌, refl, sym, ap, ◌∙◌}
use mathlib.Core.Bool.{Bool, true, false, not, cond, ◌&&◌, and-true, and-false}
use Rattle.std.specs.Prelude.{Option, None, Some}
use mathlib.Core.List.{List, [], ◌∷◌}
use native.Mathlib.Numerals.{add-one}
use native.Mathlib.Nat.{zero-add}
use native.Mathlib.Omega.{arith}
use native.Mathlib.Decide.{ℕ_discrete}
use borrow.Author.Tests.{eq-eqb, ne_eqb}
use lib.ListN.{length, get_or, set, length-set, replicate, get_or-replicate}
use lib.Seq.{get_or-set_same, get_or-set_other}
use lib.Dec.{eqb}
use Rattle.fit.specs.Lists.{numbers, find, or_else}
use Rattle.fit.proofs.Lists.{numbers_last}
use Rattle.fit.proofs.Firsts.{find_append}
use Rattle.fit.specs.Priority.{is_on}
use Rattle.checker.specs.Tests.{is_none, bare}
use Rattle.checker.proofs.Columns.{find_same}
use Rattle.checker.specs.Steps.{Used}

-- of the first i tasks
pub record Flags (core : ℕ → ℕ) (i : ℕ) (used : List Bool) : Type 0 where
  pub size : length used ≡ 256
  pub flags : (k : ℕ) → k < 256 → not (get_or used k false) ≡ bare i core k

pub flags_start : (core : ℕ → ℕ) → Flags core 0 (replicate 256 false)
unfolding bare is_none find numbers
flags_start core = record { size = refl; flags = λ k h. rw (get_or-replicate 256 k false false h) }

-- one task more
none_both : (a b : Option ℕ) → is_none (or_else a b) ≡ (is_none a && is_none b)
unfolding is_none
none_both None b = refl
none_both (Some x) b = refl

bare_next : (core : ℕ → ℕ) (i k : ℕ) → bare (suc i) core k ≡ (bare i core k && not (is_on core k i))
unfolding bare find is_none
bare_next core i k = ap is_none step ∙ none_both (find (is_on core k) (numbers 0 i)) (find (is_on core k) (i ∷ [])) ∙ ap (λ x. is_none (find (is_on core k) (numbers 0 i)) && x) (one (is_on core k i))
  where
    step : find (is_on core k) (numbers 0 (suc i)) ≡ or_else (find (is_on core k) (numbers 0 i)) (find (is_on core k) (i ∷ []))
    step = rw (numbers_last 0 i, zero-add i) (find_append (is_on core k) (numbers 0 i) (i ∷ []))

    one : (b : Bool) → is_none (cond b (Some i) None) ≡ not b
    one true = refl
    one false = refl

pub flags_turn : (core : ℕ → ℕ) (i x : ℕ) (used : List Bool) → x ≡ core i → x < 256 → Flags core i used → Flags core (i + 1) (set used x true)
unfolding is_on is_none
flags_turn core i x used e small f = record { size = length-set used x true ∙ f.size; flags = λ k h. rw (add-one i, bare_next core i k) (by k h (ℕ_discrete k x)) }
  where
    by : (k : ℕ) → k < 256 → Dec (k ≡ x) → not (get_or (set used x true) k false) ≡ (bare i core k && not (eqb (core i) k))
    by k h (yes z) = rw (z, get_or-set_same used x true false (omega (arith, f.size)), ← e, eq-eqb x x refl) (sym (and-false (bare i core x)))
    by k h (no z) = rw (get_or-set_other used x k true false z, ← e, ne_eqb x k (λ w. z (sym w)), and-true) (f.flags k h)

-- the search for a core without a task
pub same_bare : (core : ℕ → ℕ) (n c : ℕ) (used : List Bool) (o : Option ℕ) → Used n core used → c < 256 → o ≡ find (λ k. not (get_or used k false)) (numbers 0 c) → o ≡ find (bare n core) (numbers 0 c)
same_bare core n c used o u few e = e ∙ find_same _ _ 0 c (λ k a h. u.flags k (omega arith))
