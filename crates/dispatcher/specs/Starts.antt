-- The two starts, from a sheet and from a job list (docs/SHEET.md, sections 6 and 14). A refused start hands back the state without tasks.
use Rattle.std.specs.Prelude.{ℕ, ◌-◌, ◌≡◌, cond, List, [], ◌++◌, map, length, replicate, ltb}
use Rattle.std.specs.Prelude.{Option, None, Some}
use Rattle.sheet.specs.Table.{Refused, scan}
use Rattle.sheet.specs.Views.{figures}
use Rattle.fit.specs.declared.By.TheVariants.{Period}
use Rattle.fit.specs.Ring.{order_by}
use Rattle.fit.specs.Lists.{Each}
use Rattle.fit.specs.Cores.{order_on}
use Rattle.jobs.specs.Jobs.{job_count, job_period, job_budget, list_rows}
use Rattle.timing.specs.declared.Task.{Task}
use Rattle.timing.specs.Calls.{Call, release, finish, tick, Answer, accepted, idle, refused, no_stroke, entry, log, run}
use Rattle.timing.specs.Serving.{no_task}
use Rattle.timing.specs.Form.{Fresh}
use Rattle.state.specs.declared.Core.{Core}
use Rattle.state.specs.declared.Step.{Step}
use Rattle.state.specs.Operations.{answer_of, ask, step}
use Rattle.state.specs.State.{tasks_of, stroke_in, InForm}
use Rattle.checker.specs.Verdict as verdict

-- a task with its age equal to its period and nothing left
abbrev pub fresh_task : (p e q i : ℕ) → Task
fresh_task p e q i = record { period = p; budget = e; age = p; left = 0; number = i; stroke = q }

-- the listed tasks, fresh, with p, e and stroke length q by task number
unfoldable pub fresh_tasks : (p e q : ℕ → ℕ) → List ℕ → List Task
fresh_tasks p e q l = map (λ i. fresh_task (p i) (e i) (q i) i) l

-- the state that has these tasks and zeros past them, and in which no stroke lasts
unfoldable pub state_of : List Task → Core
state_of l = record { count = length l; tasks = l ++ replicate (64 - length l) no_task; stroke_task = 0; stroke_left = 0 }

-- what a start of core k of a sheet answers: the refusal of the sheet (1 to 14, 23 and 25), then 9 with place 0 where there is no such core
unfoldable pub sheet_answer : verdict.Outcome → ℕ → Answer
sheet_answer (verdict.accepted n c) k = cond (ltb k c) accepted (refused 9 0)
sheet_answer (verdict.refused w p) k = refused w p

-- the tasks of core k of a sheet in priority order, fresh
unfoldable pub sheet_tasks : List ℕ → ℕ → List Task
sheet_tasks s k = fresh_tasks (figures s).period (figures s).budget (figures s).stroke (order_on (figures s) k)

-- the state that is handed back: of the core's tasks where the start is accepted, else without tasks
unfoldable pub sheet_state : verdict.Outcome → List ℕ → ℕ → Core
sheet_state (verdict.accepted n c) s k = state_of (cond (ltb k c) (sheet_tasks s k) [])
sheet_state (verdict.refused w p) s k = state_of []

-- what a start from sheet s and core k promises: its answer, and every field of the state that it hands back
pub record SheetStart (s : List ℕ) (k : ℕ) (r : Step) : Type 0 where
  pub answer : answer_of r.answer ≡ sheet_answer (verdict.verdict s) k
  pub core : r.core ≡ sheet_state (verdict.verdict s) s k

-- what a start from a job list answers: the refusal of the list (5, 4, 7, 8), if any
unfoldable pub list_answer : Option Refused → Answer
list_answer None = accepted
list_answer (Some r) = refused r.number r.place

-- the state that is handed back: of the listed tasks in priority order, numbered by their places in the list, with strokes of one tick,
-- where the start is accepted, else without tasks
unfoldable pub list_state : Option Refused → List ℕ → Core
list_state None l = state_of (fresh_tasks (job_period l) (job_budget l) (λ i. 1) (order_by Period (job_period l) (job_count l)))
list_state (Some r) l = state_of []

-- what a start from a job list promises; there is no core limit, for which 0 stands
pub record ListStart (l : List ℕ) (r : Step) : Type 0 where
  pub answer : answer_of r.answer ≡ list_answer (scan (list_rows 0 l))
  pub core : r.core ≡ list_state (scan (list_rows 0 l)) l

-- what the state of an accepted start of either kind is: it has 64 places, is in form, every task is fresh, and no stroke lasts
pub record FreshCore (s : Core) : Type 0 where
  pub places : length s.tasks ≡ 64
  pub form : InForm s
  pub fresh : Each Fresh (tasks_of s)
  pub free : stroke_in s ≡ no_stroke

-- what a call on a state without tasks answers: 17 to a release or a finish, and every tick is idle
unfoldable pub without_tasks : Call → Answer
without_tasks (release j) = refused 17 0
without_tasks (finish j) = refused 17 0
without_tasks tick = idle

-- what the state of a refused start of either kind is: in form, answering every list of calls as above, and changed by none
pub record Taskless (s : Core) : Type 0 where
  pub form : InForm s
  pub answers : (cs : List Call) → log ask step s cs ≡ map (λ c. entry c (without_tasks c)) cs
  pub kept : (cs : List Call) → run step s cs ≡ s
