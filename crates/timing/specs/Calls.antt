-- Calls on a core, their answers, the state that each hands back, and the log of a list of calls (docs/SHEET.md, sections 6, 7 and 14).
-- A core's state is here the list of its tasks in priority order and the stroke that lasts.
use Rattle.std.specs.Prelude.{ℕ, zero, suc, ◌-◌, min, Bool, cond, ◌&&◌, List, [], ◌∷◌, map, eqb}
use Rattle.timing.specs.declared.Task.{Task}
use Rattle.timing.specs.Tasks.{pending, early, named, released, finished, used, older}

-- the calls: a release or a finish of a number, and a tick
pub data Call : Type 0 where
  release : ℕ → Call
  finish : ℕ → Call
  tick : Call

-- the answers: a release or a finish is accepted, a tick goes to a task's number or is idle, a call is refused with a number and a place
pub data Answer : Type 0 where
  accepted : Answer
  served : ℕ → Answer
  idle : Answer
  refused : ℕ → ℕ → Answer

-- a release of a task that is there: 18 Early, then 19 Late, else accepted
unfoldable pub release_answer : Task → Answer
release_answer t = cond (early t) (refused 18 t.number) (cond (pending t) (refused 19 t.number) accepted)

-- a finish of a task that is there: 20 Quiet where nothing is pending, else accepted
unfoldable pub finish_answer : Task → Answer
finish_answer t = cond (pending t) accepted (refused 20 t.number)

-- a tick that goes to a task is answered with its number
abbrev pub tick_answer : Task → Answer
tick_answer t = served t.number

-- what f gives for the first task that passes a test, or d where none passes
unfoldable pub of_first : {A : Type 0} → (Task → Bool) → (Task → A) → A → List Task → A
of_first q f d [] = d
of_first q f d (t ∷ s) = cond (q t) (f t) (of_first q f d s)

-- the list with its first task that passes a test changed
unfoldable pub modify : (Task → Bool) → (Task → Task) → List Task → List Task
modify q f [] = []
modify q f (t ∷ s) = cond (q t) (f t ∷ s) (t ∷ modify q f s)

-- what a call answers where a tick goes to the first task that passes q: a release or finish goes to the task with the number, 17 Unlisted
-- where there is none; a tick is idle where none passes
unfoldable pub answer_by : (Task → Bool) → Call → List Task → Answer
answer_by q (release j) s = of_first (named j) release_answer (refused 17 0) s
answer_by q (finish j) s = of_first (named j) finish_answer (refused 17 0) s
answer_by q tick s = of_first q tick_answer idle s

-- the tasks that a call hands back: a release or finish changes the task with the number; a tick takes one tick from the first task that
-- passes q, and then every age rises
unfoldable pub next_by : (Task → Bool) → Call → List Task → List Task
next_by q (release j) s = modify (named j) released s
next_by q (finish j) s = modify (named j) finished s
next_by q tick s = map older (modify q used s)

-- a stroke: the number of its task and the ticks left to it
pub record Stroke : Type 0 where
  pub task : ℕ
  pub left : ℕ

-- no stroke lasts: both are 0
abbrev pub no_stroke : Stroke
no_stroke = record { task = 0; left = 0 }

-- the stroke of task j with r ticks left, none where r is 0
abbrev pub stroke_of : ℕ → ℕ → Stroke
stroke_of j zero = no_stroke
stroke_of j (suc r) = record { task = j; left = suc r }

-- whom a tick may go to: a pending task, and while a stroke of task j has ticks left, that one
abbrev pub turn_at : (j r : ℕ) → Task → Bool
turn_at j zero t = pending t
turn_at j (suc r) t = named j t && pending t

abbrev pub turn : Stroke → Task → Bool
turn k = turn_at k.task k.left

-- the ticks, this one counted, of the stroke in which a task has its tick: the r that are left where a stroke lasts, else a stroke begins
-- with its length or what is left of the job, if that is less
abbrev pub stroke_ticks : ℕ → Task → ℕ
stroke_ticks zero t = min t.stroke t.left
stroke_ticks (suc r) t = suc r

-- the stroke after a tick of a task
abbrev pub stroke_ticked : Stroke → Task → Stroke
stroke_ticked k t = stroke_of t.number (stroke_ticks k.left t - 1)

-- the stroke after a finish of a task: it ends with its own job
abbrev pub stroke_finished : Stroke → Task → Stroke
stroke_finished k t = cond (pending t && eqb k.task t.number) no_stroke k

-- a core's state: its tasks in priority order, and the stroke that lasts
pub record State : Type 0 where
  pub tasks : List Task
  pub stroke : Stroke

-- the stroke that a call hands back: a release changes none, nor does a finish or a tick that goes to no task
unfoldable pub next_stroke : Call → State → Stroke
next_stroke (release j) s = s.stroke
next_stroke (finish j) s = of_first (named j) (stroke_finished s.stroke) s.stroke s.tasks
next_stroke tick s = of_first (turn s.stroke) (stroke_ticked s.stroke) s.stroke s.tasks

-- what a call answers, and the state that it hands back
unfoldable pub answer : Call → State → Answer
answer c s = answer_by (turn s.stroke) c s.tasks

unfoldable pub next : Call → State → State
next c s = record { tasks = next_by (turn s.stroke) c s.tasks; stroke = next_stroke c s }

-- one line of a log
pub data Entry : Type 0 where
  entry : Call → Answer → Entry

-- the calls of a log
unfoldable pub calls : List Entry → List Call
calls [] = []
calls (entry c a ∷ l) = c ∷ calls l

-- the log of a list of calls on any machine: each call gets the state that the call before it handed back
unfoldable pub log : {S : Type 0} → (Call → S → Answer) → (Call → S → S) → S → List Call → List Entry
log ask step s [] = []
log ask step s (c ∷ cs) = entry c (ask c s) ∷ log ask step (step c s) cs

-- the state after a list of calls
unfoldable pub run : {S : Type 0} → (Call → S → S) → S → List Call → S
run step s [] = s
run step s (c ∷ cs) = run step (step c s) cs
