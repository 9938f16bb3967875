-- What the code's own steps ask and give; no public contract speaks of it.
use Rattle.std.specs.Prelude.{ℕ, ◌≤◌, ◌<◌, List, ◌++◌, ◌≡◌, Bool, false, not, ◌||◌, get_or}
use Rattle.sheet.specs.Table.{Row}
use Rattle.fit.specs.Priority.{Above}
use Rattle.std.specs.Prelude.{Option, None, Some}
use Rattle.sheet.specs.Ranges.{bad_period, bad_budget, bad_stroke}
use Rattle.sheet.specs.Records.{Figures}
use Rattle.std.specs.Prelude.{Result, Ok, Err}
use Rattle.sheet.specs.declared.Refusal.TheVariants.{Chain}
use Rattle.sheet.specs.declared.Rejection.{Rejection}
use Rattle.checker.specs.Rules.{task_rows, core_rows}
use Rattle.checker.specs.Tests.{bad_core, bare, bad_factor, stretched_at}

-- an array of flags, true exactly for the cores that have one of the n tasks
pub record Used (n : ℕ) (core : ℕ → ℕ) (used : List Bool) : Type 0 where
  pub flags : (k : ℕ) → k < 256 → not (get_or used k false) ≡ bare n core k

-- rules 13 and 14 at a core: its chain is broken at a task, or is whole, and then the core is over or not
unfoldable pub judged : Option ℕ → Bool → Result Bool (Rejection ℕ)
judged None over = Ok over
judged (Some i) over = Err (record { word = Chain; place = i })

-- task i keeps rules 7, 8, 25, 9, 11 and 12
unfoldable pub sound_at : Figures → ℕ → Bool
sound_at f i =
    not ((bad_period f.period i || (bad_budget f.period f.budget i || bad_stroke f.budget f.stroke i) || (bad_core f.cores f.core i || bad_factor f.factor i)) || stretched_at f i)

-- rules 7 to 12, 23 and 25 of the table
unfoldable pub early_rows : Bool → Figures → List Row
early_rows misordered f = task_rows misordered f ++ core_rows f

-- the positions stand core by core, and in priority order on each, so that they need no sort
pub record Sorted (f : Figures) : Type 0 where
  pub cores : (i j : ℕ) → i < j → j < f.tasks → f.core i ≤ f.core j
  pub above : (i j : ℕ) → i < j → j < f.tasks → f.core i ≡ f.core j → Above f.period i j

-- what rules 13 and 14 need of the figures: at most 64 tasks, on cores of one byte, and every M above 0
pub record InRange (f : Figures) : Type 0 where
  pub count : f.tasks ≤ 64
  pub cores : (i : ℕ) → i < f.tasks → f.core i < 256
  pub factors : (i : ℕ) → i < f.tasks → 0 < f.factor i
