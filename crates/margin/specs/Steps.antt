-- What the code's own steps ask and give; no public contract speaks of it.
use Rattle.std.specs.Prelude.{ℕ, ◌+◌, ◌*◌, ◌≤◌, List, sum_by}
use Rattle.fit.specs.Rounding.{ceiling}
use Rattle.margin.specs.declared.Task.{Task}

-- task j of a list with these periods and budgets
abbrev pub task_at : (ℕ → ℕ) → (ℕ → ℕ) → ℕ → Task
task_at p e j = record { period = p j; budget = e j }

-- periods and budgets in range
pub record IsInRange (task : Task) : Type 0 where
  pub period_min : 1 ≤ task.period
  pub period_max : task.period ≤ 60000
  pub budget_max : task.budget ≤ task.period

-- what a task asks for in t ticks
abbrev pub asked : ℕ → Task → ℕ
asked t task = task.budget * ceiling t task.period

-- the demand of a task with budget b below these
abbrev pub demand_below : List Task → ℕ → ℕ → ℕ
demand_below tasks b t = b + sum_by (asked t) tasks
