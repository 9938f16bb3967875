-- The form of a state, whose breach is 21 Foreign, and the fresh state (docs/SHEET.md, section 6).
use Rattle.std.specs.Prelude.{◌≤◌, ◌≡◌, List, length}
use Rattle.fit.specs.Lists.{Each, EachPair}
use Rattle.fit.specs.Priority.{Higher}
use Rattle.timing.specs.declared.Task.{Task}

-- a task's own fields: its number at most 63, period 1 to 60,000, budget 1 to the period, age at most the period, ticks left at most the
-- budget, stroke length 1 to the budget
pub record Sound (t : Task) : Type 0 where
  pub number_max : t.number ≤ 63
  pub period_min : 1 ≤ t.period
  pub period_max : t.period ≤ 60000
  pub budget_min : 1 ≤ t.budget
  pub budget_max : t.budget ≤ t.period
  pub age_max : t.age ≤ t.period
  pub left_max : t.left ≤ t.budget
  pub stroke_min : 1 ≤ t.stroke
  pub stroke_max : t.stroke ≤ t.budget

-- two tasks have different numbers
unfoldable pub Distinct : Task → Task → Type 0
Distinct t u = t.number ≡ u.number → ⊥

-- task t has priority over task u
unfoldable pub Above : Task → Task → Type 0
Above t u = Higher t.period t.number u.period u.number

-- the form of a state's tasks: at most 64, each sound, no number twice, in priority order
pub record Form (s : List Task) : Type 0 where
  pub count : length s ≤ 64
  pub sound : Each Sound s
  pub distinct : EachPair Distinct s
  pub ordered : EachPair Above s

-- a fresh task: its age is its period, and its job has no ticks left
pub record Fresh (t : Task) : Type 0 where
  pub age : t.age ≡ t.period
  pub left : t.left ≡ 0
