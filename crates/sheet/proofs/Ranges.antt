-- What a range test says as a fact, both ways.
-- Assumes nothing.
use Prim.Native.Nat.{ℕ, ◌≤◌}
use mathlib.Core.Path.{◌≡◌, refl, sym}
use mathlib.Core.Bool.{Bool, true, false, ◌&&◌, ◌||◌, true≢false, false≢true}
use native.Mathlib.Omega.{arith}
use borrow.Author.Tests.{ltb-false, le-ltb, eqb-false, ne_eqb}
use lib.Dec.{ltb, eqb}
use lib.Arith.{lt_of_le-ne}
use Rattle.sheet.specs.Ranges.{out_of}

-- both halves of a conjunction that is true, and of a disjunction that is false
pub both : (a b : Bool) → (a && b) ≡ true → (a ≡ true) × (b ≡ true)
both true b e = (refl, e)
both false b e = absurd (false≢true e)

pub neither : (a b : Bool) → (a || b) ≡ false → (a ≡ false) × (b ≡ false)
neither true b e = absurd (true≢false e)
neither false b e = (refl, e)

pub in_range_lem : (m x : ℕ) → out_of m x ≡ false → (1 ≤ x) × (x ≤ m)
unfolding out_of
in_range_lem m x e =
    let n = neither (eqb x 0) (ltb m x) e in
    (lt_of_le-ne (omega arith) (λ q. eqb-false x 0 n.0 (sym q)), ltb-false m x n.1)

pub range_in : (m x : ℕ) → 1 ≤ x → x ≤ m → out_of m x ≡ false
unfolding out_of
range_in m x a b = rw (ne_eqb x 0 (omega arith)) (le-ltb m x b)
