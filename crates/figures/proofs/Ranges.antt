-- The ranges of the periods that the code reads.
-- Assumes nothing.
use Prim.Native.Nat.{ℕ, ◌≤◌, ◌<◌}
use mathlib.Core.Path.{◌≡◌}
use mathlib.Core.Bool.{true}
use mathlib.Core.List.{List}
use native.Mathlib.Omega.{arith}
use lib.ListN.{length}
use Rattle.fit.specs.Lists.{at}
use Rattle.figures.specs.Meaning.{SortedPeriods}
use Rattle.figures.specs.Passing.{sorted_periods}
use Rattle.figures.proofs.Sound.{sorted_test, sorted_at}

-- at most 64 periods in priority order, and the place of one of them
pub record Ready (ps : List ℕ) (i : ℕ) : Type 0 where
  pub size : length ps ≤ 64
  pub order : sorted_periods 1 ps ≡ true
  pub inside : i < length ps

pub ready : (ps : List ℕ) (i : ℕ) → length ps ≤ 64 → sorted_periods 1 ps ≡ true → i < length ps → Ready ps i
ready ps i h e k = record { size = h; order = e; inside = k }

module _ (ps : List ℕ) (c : ℕ) (r : Ready ps c) where
  pub periods : SortedPeriods 1 ps
  periods = sorted_test 1 ps r.order

  -- 1 to 60,000: at any place, at the first, at the pivot's
  pub period_low : (x i : ℕ) → i < length ps → x ≡ at ps i → 1 ≤ x
  period_low x i h e = rw e (sorted_at 1 ps periods i h).0

  pub period_high : (x i : ℕ) → i < length ps → x ≡ at ps i → x ≤ 60000
  period_high x i h e = rw e (sorted_at 1 ps periods i h).1

  pub first_low : (x : ℕ) → x ≡ at ps 0 → 1 ≤ x
  first_low x e = period_low x 0 (omega (arith, r.inside)) e

  pub first_high : (x : ℕ) → x ≡ at ps 0 → x ≤ 60000
  first_high x e = period_high x 0 (omega (arith, r.inside)) e

  pub pivot_low : (x : ℕ) → x ≡ at ps c → 1 ≤ x
  pivot_low x e = period_low x c r.inside e

  pub pivot_high : (x : ℕ) → x ≡ at ps c → x ≤ 60000
  pivot_high x e = period_high x c r.inside e

pub ruleset ranges = (ready, period_low, period_high, first_low, first_high, pivot_low, pivot_high)
