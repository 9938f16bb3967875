-- An array of 64 places that is filled from the front with a list.
-- Assumes nothing.
use Prim.Native.Nat.{ℕ, suc, ◌+◌, ◌-◌, ◌≤◌, ◌<◌}
use mathlib.Core.Path.{◌≡◌, refl, sym, ap, ◌∙◌}
use mathlib.Core.List.{List, ◌∷◌, ◌++◌}
use native.Mathlib.Numerals.{add-one}
use native.Mathlib.Omega.{arith}
use lib.ListN.{length, take, set, replicate, length-set}
use lib.Seq.{length-take-le, take-suc, take_all, set_at, append_snoc}
use Rattle.fit.specs.Lists.{at, padded}

-- the first i of a list, then zeros
pub record Filled (l : List ℕ) (i : ℕ) (array : List ℕ) : Type 0 where
  pub size : length array ≡ 64
  pub same : array ≡ padded (take i l)

pub filled_start : (l : List ℕ) → Filled l 0 (replicate 64 0)
unfolding padded
filled_start l = record { size = refl; same = refl }

pub filled_turn : (l array : List ℕ) (i v : ℕ) → length l ≤ 64 → i < length l → v ≡ at l i → Filled l i array → Filled l (i + 1) (set array i v)
unfolding padded
filled_turn l array i v small h e f =
    let long : length (take i l) ≡ i = length-take-le i l (omega arith) in
    let longer : length (take (suc i) l) ≡ suc i = length-take-le (suc i) l (omega arith) in
    let left : 64 - i ≡ suc (64 - suc i) = omega arith in
    let zeros : replicate {A = ℕ} (64 - length (take i l)) 0 ≡ 0 ∷ replicate (64 - suc i) 0 = rw (long, left) in
    record {
      size = length-set array i v ∙ f.size;
      same = ap (λ t. set t i v) (f.same ∙ ap (λ t. take i l ++ t) zeros) ∙ set_at (take i l) 0 (replicate (64 - suc i) 0) v i long
          ∙ rw (add-one i, longer, take-suc l i 0 h, e) (sym (append_snoc (take i l) (at l i) (replicate (64 - suc i) 0)));
    }

pub filled_end : (l array : List ℕ) (i : ℕ) → length l ≤ i → Filled l i array → array ≡ padded l
filled_end l array i h f = f.same ∙ ap padded (take_all i l h)
