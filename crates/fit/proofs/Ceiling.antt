-- A quotient rounded up is the least number that reaches.
-- Assumes nothing.
use Prim.Native.Nat.{ℕ, zero, suc, ◌+◌, ◌-◌, ◌*◌, ◌/◌, ◌≤◌, ◌<◌}
use mathlib.Core.Path.{◌≡◌}
use native.Mathlib.Nat.{mul-one, mul-suc, mul_comm, mul_right_comm, mul-zero, mul-add, add-mul, one-mul, lt-mul-div-succ, mul-div-le, div-lt_iff_lt-mul, mul-le-mul_right, le_of_mul-le-mul_left, le_of_mul-le-mul_right, lt_of_mul-lt-mul_right, mul-pos, le_antisymm}
use native.Mathlib.Omega.{arith}
use Rattle.std.specs.Int.{div_ceil}
use Rattle.std.proofs.lemmas.Grind.{div_ceil_times}
use Rattle.fit.specs.Rounding.{ceiling}

module _ (a y : ℕ) (pos : 0 < y) where
  pub ceiling_reaches : a ≤ y * ceiling a y
  unfolding ceiling
  ceiling_reaches = omega (arith, lt-mul-div-succ (a + y - 1) pos, mul-add y ((a + y - 1) / y) 1, mul-one y)

  pub ceiling_least : (k : ℕ) → a ≤ y * k → ceiling a y ≤ k
  unfolding ceiling
  ceiling_least k h =
      let less : a + y - 1 < (k + 1) * y = omega (arith, add-mul k 1 y, one-mul y, mul_comm y k) in
      let r : (a + y - 1) / y < k + 1 = (div-lt_iff_lt-mul pos).1 less in
      omega arith

  -- a whole quotient stays as it is
  pub ceiling_whole : (k : ℕ) → a ≡ y * k → ceiling a y ≡ k
  ceiling_whole k e = le_antisymm (ceiling_least k (omega arith)) (le_of_mul-le-mul_left (omega (arith, ceiling_reaches)) pos)

  -- one less does not reach
  pub ceiling_before : (k : ℕ) → 0 < a → ceiling a y ≡ suc k → y * k < a
  unfolding ceiling
  ceiling_before k posa e =
      let h : y * suc k ≤ a + y - 1 = rw (← e) (mul-div-le (a + y - 1) y) in
      omega (arith, mul-suc y k)

  pub ceiling_positive : 0 < a → 0 < ceiling a y
  ceiling_positive posa = by (ceiling a y) ceiling_reaches
    where
      by : (c : ℕ) → a ≤ y * c → 0 < c
      by zero h = absurd (omega (arith, mul-zero y))
      by (suc c) h = omega arith

-- both sides may be scaled
pub ceiling_scale : (a y z : ℕ) → 0 < y → 0 < z → ceiling (a * z) (y * z) ≡ ceiling a y
ceiling_scale a y z pos posz =
    let up : a * z ≤ y * z * ceiling a y = rw (mul_right_comm y z (ceiling a y)) (mul-le-mul_right z (ceiling_reaches a y pos)) in
    let C : ℕ = ceiling (a * z) (y * z) in
    let down : a * z ≤ y * C * z = rw (mul_right_comm y C z) (ceiling_reaches (a * z) (y * z) (mul-pos pos posz)) in
    le_antisymm (ceiling_least (a * z) (y * z) (mul-pos pos posz) (ceiling a y) up) (ceiling_least a y pos C (le_of_mul-le-mul_right down posz))

-- std's word for it
pub div_ceil_is : (a y : ℕ) → 0 < y → div_ceil a y ≡ ceiling a y
div_ceil_is a y pos =
    let t = div_ceil_times a y pos in
    let less : div_ceil a y * y < (ceiling a y + 1) * y = omega (arith, t.1, ceiling_reaches a y pos, mul_comm y (ceiling a y), add-mul (ceiling a y) 1 y, one-mul y) in
    le_antisymm (let h : div_ceil a y < ceiling a y + 1 = lt_of_mul-lt-mul_right y less in omega arith) (ceiling_least a y pos (div_ceil a y) (rw (mul_comm y (div_ceil a y)) t.0))
