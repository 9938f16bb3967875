-- Rules 7 to 11 apart from rules 12 to 14, and what the latter mean together (docs/SHEET.md, section 3): every core's tasks are an
-- accelerated simply periodic set.
use Rattle.std.specs.Prelude.{ℕ, ◌≤◌, ◌<◌, ◌≡◌}
use Rattle.sheet.specs.Records.{Figures}
use Rattle.fit.specs.Periodic.{AcceleratedSet, BlockedSet, Rising}
use Rattle.fit.specs.Cores.{order_on}
use Rattle.checker.specs.Accepted.{TasksInRange}

-- rules 7 to 11 and 25: the tasks' own figures are in range, every core has a task, and M, Q and D are in range
pub record FiguresInRange (f : Figures) : Type 0 where
  pub tasks : TasksInRange f
  pub not_bare : (k : ℕ) → k < f.cores → (i : ℕ) × (i < f.tasks) × (f.core i ≡ k)
  pub factor : (i : ℕ) → i < f.tasks → (1 ≤ f.factor i) × (f.factor i ≤ 120000)
  pub pivot : (k : ℕ) → k < f.cores → (1 ≤ f.pivot k) × (f.pivot k ≤ 60000)
  pub divisor : (k : ℕ) → k < f.cores → (1 ≤ f.divisor k) × (f.divisor k ≤ 120000)

-- the tasks of every core are an accelerated simply periodic set, also with what a task below each may hold the core for, and their
-- accelerated periods do not fall in priority order
unfoldable pub CoresAccelerated : Figures → Type 0
CoresAccelerated f =
    (k : ℕ) → k < f.cores → AcceleratedSet f.period f.budget f.factor (f.pivot k) (f.divisor k) (order_on f k)
    × BlockedSet f.budget f.stroke f.factor (f.pivot k) (f.divisor k) (order_on f k)
    × Rising f.factor (f.pivot k) (f.divisor k) (order_on f k)
