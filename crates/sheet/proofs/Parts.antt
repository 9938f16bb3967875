-- What stands in a part of a list is what stands in the list, as far behind the part's start.
-- Assumes nothing.
use Prim.Native.Nat.{ℕ, ◌+◌, ◌*◌, ◌≤◌, ◌<◌}
use mathlib.Core.Path.{◌≡◌, refl, ap, ◌∙◌}
use mathlib.Core.Bool.{Bool, true, false}
use mathlib.Core.List.{List}
use native.Mathlib.Nat.{add-zero}
use native.Mathlib.Omega.{arith}
use lib.ListN.{take, drop, get_or}
use lib.Seq.{get_or-take, get_or-drop}
use Rattle.sheet.specs.Numbers.{word, long}
use Rattle.sheet.specs.Records.{period_at, budget_at, number_at, factor_at, pivot_at, divisor_at}
use Rattle.sheet.specs.Views.{stroke_of_position}

-- the part of a list that begins at `at` and has `size` bytes, or fewer where the list ends
module _ (s : List ℕ) (at size : ℕ) where
  pub byte_part : (o : ℕ) → o < size → get_or (take size (drop at s)) o 0 ≡ get_or s (at + o) 0
  byte_part o h = get_or-take size (drop at s) o 0 h ∙ get_or-drop at s o 0

  pub word_part : (o : ℕ) → o + 1 < size → word (take size (drop at s)) o ≡ word s (at + o)
  unfolding word
  word_part o h =
      let next : at + (o + 1) ≡ at + o + 1 = omega arith in
      rw (byte_part o (omega arith), byte_part (o + 1) h, next)

  pub long_part : (o : ℕ) → o + 3 < size → long (take size (drop at s)) o ≡ long s (at + o)
  unfolding long
  long_part o h =
      let next : at + (o + 2) ≡ at + o + 2 = omega arith in
      rw (word_part o (omega arith), word_part (o + 2) (omega arith), next)

-- the first record of the part that begins at task record j is that record
module _ (tasks : List ℕ) (j size : ℕ) where
  pub period_part : 2 ≤ size → period_at (take size (drop (10 * j) tasks)) 0 ≡ period_at tasks j
  period_part h = word_part tasks (10 * j) size 0 (omega arith) ∙ ap (word tasks) (add-zero (10 * j))

  pub budget_part : 4 ≤ size → budget_at (take size (drop (10 * j) tasks)) 0 ≡ budget_at tasks j
  budget_part h = word_part tasks (10 * j) size 2 (omega arith)

  pub number_part : 5 ≤ size → number_at (take size (drop (10 * j) tasks)) 0 ≡ number_at tasks j
  number_part h = byte_part tasks (10 * j) size 4 (omega arith)

  pub stroke_part : (stroked : Bool) → 6 ≤ size → stroke_of_position stroked (take size (drop (10 * j) tasks)) 0 ≡ stroke_of_position stroked tasks j
  stroke_part true h = byte_part tasks (10 * j) size 5 (omega arith)
  stroke_part false h = refl

  pub factor_part : 10 ≤ size → factor_at (take size (drop (10 * j) tasks)) 0 ≡ factor_at tasks j
  factor_part h = long_part tasks (10 * j) size 6 (omega arith)

-- the same of core record k
module _ (cores : List ℕ) (k size : ℕ) where
  pub pivot_part : 2 ≤ size → pivot_at (take size (drop (8 * k) cores)) 0 ≡ pivot_at cores k
  pivot_part h = word_part cores (8 * k) size 0 (omega arith) ∙ ap (word cores) (add-zero (8 * k))

  pub divisor_part : 8 ≤ size → divisor_at (take size (drop (8 * k) cores)) 0 ≡ divisor_at cores k
  divisor_part h = long_part cores (8 * k) size 4 (omega arith)
