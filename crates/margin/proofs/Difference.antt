-- The difference of two naturals as a signed number: its cases, its sign, that it falls as more is taken, and that the code computes it.
-- Assumes nothing.
use Prim.Native.Nat.{ℕ, zero, suc, ◌-◌, ◌≤◌, ◌<◌}
use mathlib.Core.Path.{◌≡◌, refl, ap}
use mathlib.Core.Bool.{Bool, true, false, cond}
use native.Mathlib.Omega.{arith}
use lib.Dec.{ltb, le→leb}
use lib.IntN.{pos, negsuc, sub_ℕ, ◌-ℤ◌}
use lib.Signed.{◌≤ℤ◌}
use borrow.Author.Tests.{ltb-true, ltb-false, le-ltb, lt-ltb}

-- a - b by cases
pub minus_cases : (a b : ℕ) → pos a -ℤ pos b ≡ sub_ℕ a b
minus_cases a zero = rw (le-ltb a 0 (omega arith)) (ap pos (omega arith))
minus_cases a (suc b) = refl

-- zero or more where b is at most a, below zero where it is not
pub minus_positive : (a b : ℕ) → b ≤ a → pos 0 ≤ℤ (pos a -ℤ pos b)
minus_positive a b h = rw (minus_cases a b, le-ltb a b h) (record { le = le→leb 0 (a - b) (omega arith) })

pub minus_negative : (a b : ℕ) → a < b → pos 0 ≤ℤ (pos a -ℤ pos b) → ⊥
minus_negative a b h k = (rw (minus_cases a b, lt-ltb a b h) at k).le

-- the more is taken, the less is left
pub minus_falls : (a b c : ℕ) → b ≤ c → (pos a -ℤ pos c) ≤ℤ (pos a -ℤ pos b)
minus_falls a b c h = rw (minus_cases a b, minus_cases a c) (by (ltb a b) (ltb a c) refl refl)
  where
    by : (x y : Bool) → ltb a b ≡ x → ltb a c ≡ y → cond y (negsuc (c - suc a)) (pos (a - c)) ≤ℤ cond x (negsuc (b - suc a)) (pos (a - b))
    by true true e f = record { le = le→leb (b - suc a) (c - suc a) (omega arith) }
    by true false e f = absurd (omega (arith, ltb-true a b e, ltb-false a c f))
    by false true e f = record { le = tt }
    by false false e f = record { le = le→leb (a - c) (a - b) (omega arith) }
