-- The state of a core and its form, whose breach is 21 Foreign (docs/SHEET.md, sections 6 and 14).
use Rattle.std.specs.Prelude.{◌-◌, ◌≤◌, Bool, true, false, cond, not, ◌&&◌, ◌||◌, List, [], ◌∷◌, ◌++◌, take, drop, ltb, leb, eqb}
use Rattle.fit.specs.Priority.{higher}
use Rattle.timing.specs.declared.Task.{Task}
use Rattle.timing.specs.Calls.{Stroke, State}
use Rattle.timing.specs.Strokes.{StateForm}
use Rattle.state.specs.declared.Core.{Core}

-- the tasks of a state: its first `count` places, in priority order
abbrev pub tasks_of : Core → List Task
tasks_of s = take s.count s.tasks

-- the stroke that lasts
abbrev pub stroke_in : Core → Stroke
stroke_in s = record { task = s.stroke_task; left = s.stroke_left }

-- a state as timing's definitions have it
abbrev pub state_in : Core → State
state_in s = record { tasks = tasks_of s; stroke = stroke_in s }

-- the state with other tasks and another stroke; what stands past the tasks stays as it was
unfoldable pub with_state : Core → State → Core
with_state s u =
    record { count = s.count; tasks = u.tasks ++ drop s.count s.tasks; stroke_task = u.stroke.task; stroke_left = u.stroke.left }

-- A state is in form: it has at most 64 tasks, and it is in timing's `StateForm`, that is, each task's fields are in range, no number stands
-- twice, the tasks are in priority order, and the stroke that lasts is that of a pending task.
pub record InForm (s : Core) : Type 0 where
  pub count : s.count ≤ 64
  pub form : StateForm (state_in s)

-- The same as a test, from here on. A task's own fields are in range:
abbrev pub sound : Task → Bool
sound t =
    leb t.number 63 && (leb 1 t.period && (leb t.period 60000 && (leb 1 t.budget && (leb t.budget t.period && (leb t.age t.period && (leb t.left t.budget && (leb 1 t.stroke && leb t.stroke t.budget)))))))

-- two tasks have different numbers
unfoldable pub distinct : Task → Task → Bool
distinct t u = not (eqb t.number u.number)

-- task t has priority over task u
unfoldable pub above : Task → Task → Bool
above t u = higher t.period t.number u.period u.number

-- every task passes
unfoldable pub each : (Task → Bool) → List Task → Bool
each q [] = true
each q (t ∷ s) = q t && each q s

-- every task passes with every task after it
unfoldable pub each_pair : (Task → Task → Bool) → List Task → Bool
each_pair q [] = true
each_pair q (t ∷ s) = each (q t) s && each_pair q s

-- one of the tasks passes
unfoldable pub any : (Task → Bool) → List Task → Bool
any q [] = false
any q (t ∷ s) = q t || any q s

-- a stroke is of task t: it has its number, the task is pending, and the stroke has no more ticks left than its length less one, nor than
-- the job
unfoldable pub stroke_is : Stroke → Task → Bool
stroke_is k t = eqb t.number k.task && (ltb 0 t.left && (leb k.left (t.stroke - 1) && leb k.left t.left))

-- a stroke with ticks left is that of a task, and one without has number 0
unfoldable pub stroke_sound : Stroke → List Task → Bool
stroke_sound k s = cond (eqb k.left 0) (eqb k.task 0) (any (stroke_is k) s)

-- 21 Foreign: there are more than 64 tasks, a task's field is out of range, a number stands twice, the tasks are not in priority order, or
-- the stroke is none of theirs
unfoldable pub foreign : Core → Bool
foreign s =
    ltb 64 s.count
    || not (each sound (tasks_of s) && (each_pair distinct (tasks_of s) && (each_pair above (tasks_of s) && stroke_sound (stroke_in s) (tasks_of s))))
