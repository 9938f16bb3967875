-- What a release, a finish and a tick do to one task (docs/SHEET.md, section 6).
use Rattle.std.specs.Prelude.{ℕ, ◌+◌, ◌-◌, min, Bool, cond, ltb, eqb}
use Rattle.timing.specs.declared.Task.{Task}

-- a task is pending while its job has ticks left
unfoldable pub pending : Task → Bool
pending t = ltb 0 t.left

-- 18 Early: the age is below the period
unfoldable pub early : Task → Bool
early t = ltb t.age t.period

-- the task has number j
unfoldable pub named : ℕ → Task → Bool
named j t = eqb t.number j

-- the task with age a and l ticks left
unfoldable pub with_job : Task → ℕ → ℕ → Task
with_job t a l = record { period = t.period; budget = t.budget; age = a; left = l; number = t.number; stroke = t.stroke }

-- a release: the age is 0 and the job has the whole budget left; a task that is early or pending stays as it is
unfoldable pub released : Task → Task
released t = cond (early t) t (cond (pending t) t (with_job t 0 t.budget))

-- a finish: the job has no ticks left, and the age stays; a task that is not pending stays as it is
unfoldable pub finished : Task → Task
finished t = cond (pending t) (with_job t t.age 0) t

-- the tick goes to the task: its job has one tick less left
unfoldable pub used : Task → Task
used t = with_job t t.age (t.left - 1)

-- a tick passes: the age is one more, up to the period
unfoldable pub older : Task → Task
older t = with_job t (min (t.age + 1) t.period) t.left
