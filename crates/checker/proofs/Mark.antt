-- Rules 2 and 3: the first three bytes and the version, as the code compares them.
-- Assumes nothing.
use Prim.Native.Nat.{ℕ, ◌≤◌}
use mathlib.Core.Path.{◌≡◌, refl, sym}
use mathlib.Core.Bool.{true, false, ◌||◌, and-true}
use mathlib.Core.List.{List, [], ◌∷◌}
use native.Mathlib.Omega.{arith}
use native.Mathlib.Decide.{ℕ_discrete}
use borrow.Author.Tests.{ne_eqb}
use lib.Dec.{eqb}
use Rattle.std.specs.List.{starts_with}
use Rattle.checker.specs.Tests.{is_marked}

swapped : (a b : ℕ) → eqb a b ≡ eqb b a
swapped a b = by (ℕ_discrete a b)
  where
    by : Dec (a ≡ b) → eqb a b ≡ eqb b a
    by (yes e) = rw e
    by (no e) = rw (ne_eqb a b e, ne_eqb b a (λ q. e (sym q)))

pub marked : (s : List ℕ) → starts_with eqb s (84 ∷ 83 ∷ 72 ∷ []) ≡ is_marked s
unfolding is_marked
marked [] = refl
marked (a ∷ []) = rw (swapped 84 a)
marked (a ∷ b ∷ []) = rw (swapped 84 a, swapped 83 b)
marked (a ∷ b ∷ d ∷ s) = rw (swapped 84 a, swapped 83 b, swapped 72 d, and-true)

-- the version is one of three
pub known : (v : ℕ) → 1 ≤ v → v ≤ 3 → (eqb v 1 || (eqb v 2 || eqb v 3)) ≡ true
known v a b = grind arith

pub unknown : (v : ℕ) → (1 ≤ v → v ≤ 3 → ⊥) → (eqb v 1 || (eqb v 2 || eqb v 3)) ≡ false
unknown v h = rw (ne_eqb v 1 (λ e. h (omega arith) (omega arith)), ne_eqb v 2 (λ e. h (omega arith) (omega arith)), ne_eqb v 3 (λ e. h (omega arith) (omega arith)))
