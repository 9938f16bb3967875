-- The fields of a written record read back.
-- Assumes nothing.
use Prim.Native.Nat.{ℕ, ◌≤◌, ◌<◌}
use mathlib.Core.Path.{◌≡◌}
use native.Mathlib.Omega.{arith}
use Rattle.sheet.specs.Numbers.{word, long}
use Rattle.planner.specs.Sheet.{two, four, task_record, core_record}

-- the fields of a record
module _ (p e k m : ℕ) where
  pub task_period : p < 65536 → word (task_record p e k m) 0 ≡ p
  unfolding word task_record two four
  task_period h = omega arith

  pub task_budget : e < 65536 → word (task_record p e k m) 2 ≡ e
  unfolding word task_record two four
  task_budget h = omega arith

  pub task_factor : m ≤ 120000 → long (task_record p e k m) 6 ≡ m
  unfolding long word task_record two four
  task_factor h = omega arith

pub core_pivot : (q d : ℕ) → q < 65536 → word (core_record q d) 0 ≡ q
unfolding word core_record two four
core_pivot q d h = omega arith

pub core_divisor : (q d : ℕ) → d ≤ 120000 → long (core_record q d) 4 ≡ d
unfolding long word core_record two four
core_divisor q d h = omega arith
