-- A quotient rounded up, and one step of DCT down.
-- Assumes nothing.
use Prim.Native.Nat.{ℕ, ◌+◌, ◌*◌, ◌<◌}
use mathlib.Core.Path.{◌≡◌, ap, ◌∙◌}
use Rattle.std.specs.Int.{div_ceil}
use Rattle.std.proofs.lemmas.Grind.{div_ceil_times}
use native.Mathlib.Nat.{add-mul, lt_of_mul-lt-mul_right, mul_comm, le_antisymm, one-mul}
use native.Mathlib.Omega.{arith}
use Rattle.fit.specs.Rounding.{ceiling}
use Rattle.fit.proofs.Ceiling.{ceiling_least, ceiling_reaches}
use Rattle.figures.specs.Constructions.{down}

-- std's quotient rounded up is ours
pub div_ceil_is : (a b : ℕ) → 0 < b → div_ceil a b ≡ ceiling a b
div_ceil_is a b pos =
    let t = div_ceil_times a b pos in
    let less : div_ceil a b * b < (ceiling a b + 1) * b = omega (arith, t.1, ceiling_reaches a b pos, mul_comm b (ceiling a b), add-mul (ceiling a b) 1 b, one-mul b) in
    le_antisymm (let h : div_ceil a b < ceiling a b + 1 = lt_of_mul-lt-mul_right b less in omega arith) (ceiling_least a b pos (div_ceil a b) (rw (mul_comm b (div_ceil a b)) t.0))

pub down_is : (q p d c : ℕ) → 0 < d * p → c ≡ div_ceil q (d * p) → d * c ≡ down q p d
unfolding down
down_is q p d c pos e = ap (λ t. d * t) (e ∙ div_ceil_is q (d * p) pos)
