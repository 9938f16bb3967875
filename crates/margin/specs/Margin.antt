-- The margin of a task: how many ticks its jobs have to spare, in the worst case (docs/SHEET.md, section 11).
-- p and e are the period and the budget by task number. The list names the tasks that share a core, in any order.
use Rattle.std.specs.Prelude.{ℕ, ◌+◌, ◌*◌, Bool, List, leb, ℤ, pos, ◌-ℤ◌}
use Rattle.std.specs.Prelude.{Option, None, Some}
use Rattle.fit.specs.Lists.{numbers, find, sum, select}
use Rattle.fit.specs.Rounding.{ceiling}
use Rattle.fit.specs.Priority.{above}

-- the tasks of a list that have priority over task i
unfoldable pub tasks_above : (ℕ → ℕ) → List ℕ → ℕ → List ℕ
tasks_above p l i = select (λ j. above p j i) l

-- what task j asks for in t ticks: its budget times (t / p rounded up)
unfoldable pub request : (ℕ → ℕ) → (ℕ → ℕ) → ℕ → ℕ → ℕ
request p e t j = e j * ceiling t (p j)

-- the demand of task i at t: its own budget and, for each task above it, what that task asks for in t ticks
unfoldable pub demand : (ℕ → ℕ) → (ℕ → ℕ) → List ℕ → ℕ → ℕ → ℕ
demand p e l i t = e i + sum (request p e t) (tasks_above p l i)

-- the demand d at t is at most t
unfoldable pub met : (ℕ → ℕ) → ℕ → Bool
met d t = leb (d t) t

-- the smallest t from 1 to p at which the demand is at most t
unfoldable pub smallest : (ℕ → ℕ) → ℕ → Option ℕ
smallest d p = find (met d) (numbers 1 p)

-- a signed number: the period p minus that t, or minus the demand at the period where there is none
unfoldable pub margin_from : ℕ → ℕ → Option ℕ → ℤ
margin_from p d None = pos p -ℤ pos d
margin_from p d (Some t) = pos p -ℤ pos t

-- the margin of task i among the tasks of a list
unfoldable pub margin : (ℕ → ℕ) → (ℕ → ℕ) → List ℕ → ℕ → ℤ
margin p e l i = margin_from (p i) (demand p e l i (p i)) (smallest (demand p e l i) (p i))
