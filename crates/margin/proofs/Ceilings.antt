-- t / p rounded up, at one more t, within one period, and as the demand of a window counts it.
-- Assumes nothing.
use Prim.Native.Nat.{ℕ, ◌+◌, ◌*◌, ◌-◌, ◌/◌, ◌≤◌, ◌<◌}
use mathlib.Core.Path.{◌≡◌}
use native.Mathlib.Nat.{mul-suc, mul-one, add-div_right, le_antisymm, lt_of_mul-lt-mul_left}
use native.Mathlib.Omega.{arith}
use Rattle.fit.specs.Rounding.{ceiling}
use Rattle.fit.proofs.Ceiling.{ceiling_reaches, ceiling_least, ceiling_positive}

module _ (p : ℕ) (pos : 0 < p) where
  -- it does not fall
  pub ceiling_mono : (a b : ℕ) → a ≤ b → ceiling a p ≤ ceiling b p
  ceiling_mono a b h = ceiling_least a p pos (ceiling b p) (omega (arith, ceiling_reaches b p pos))

  -- no tick needs no release, and up to one period needs one
  pub ceiling_zero : ceiling 0 p ≡ 0
  ceiling_zero = omega (arith, ceiling_least 0 p pos 0 (omega arith))

  pub ceiling_one : (t : ℕ) → 1 ≤ t → t ≤ p → ceiling t p ≡ 1
  ceiling_one t h k = le_antisymm (ceiling_least t p pos 1 (omega (arith, mul-one p))) (ceiling_positive t p pos h)

  -- one tick more: the releases so far reach it, or one more is due
  pub ceiling_same : (t : ℕ) → t < p * ceiling t p → ceiling (t + 1) p ≡ ceiling t p
  ceiling_same t h = le_antisymm (ceiling_least (t + 1) p pos (ceiling t p) (omega arith)) (ceiling_mono t (t + 1) (omega arith))

  pub ceiling_more : (t : ℕ) → p * ceiling t p ≡ t → ceiling (t + 1) p ≡ ceiling t p + 1
  ceiling_more t h =
      let up : ceiling (t + 1) p ≤ ceiling t p + 1 = ceiling_least (t + 1) p pos (ceiling t p + 1) (omega (arith, mul-suc p (ceiling t p))) in
      let down : ceiling t p < ceiling (t + 1) p = lt_of_mul-lt-mul_left p (omega (arith, ceiling_reaches (t + 1) p pos)) in
      omega arith

  -- the releases that a window of w ticks can hold
  pub ceiling_window : (w : ℕ) → 1 ≤ w → (w - 1) / p + 1 ≡ ceiling w p
  unfolding ceiling
  ceiling_window w h =
      let e : w + p - 1 ≡ w - 1 + p = omega arith in
      rw (e, add-div_right (w - 1) {k = p} pos) (omega arith)
