-- What the code's own steps ask and give; no public contract speaks of it.
use Rattle.std.specs.Prelude.{ℕ, ◌+◌, ◌-◌, ◌*◌, ◌/◌, ◌%◌, ◌^◌, min, Bool, cond, ◌&&◌, ◌||◌, set, ltb, leb, eqb}
use Rattle.std.specs.Int.Bits.{bit_or}
use Rattle.std.specs.Int.Count.{ones}
use Rattle.sheet.specs.declared.Refusal.TheVariants.{Foreign, Unlisted}
use Rattle.std.specs.List.{position}
use Rattle.std.specs.Option.{ok_or}
use Rattle.timing.specs.declared.Task.{Task}
use Rattle.timing.specs.Tasks.{named}
use Rattle.timing.specs.Calls.{Stroke}
use Rattle.state.specs.declared.Core.{Core}
use Rattle.state.specs.declared.form.Pass.{Pass}
use Rattle.std.specs.Prelude.{Result, Ok, Err}
use Rattle.sheet.specs.declared.Rejection.{Rejection}
use Rattle.state.specs.declared.Step.{Step}
use Rattle.state.specs.declared.Reply.TheVariants.{Accepted}
use Rattle.state.specs.State.{tasks_of, foreign}

-- a number that rises with the priority order of sound tasks
abbrev pub rank : Task → ℕ
rank t = t.period * 64 + t.number

-- the most ticks that a stroke of a task may have left
abbrev pub most_left : Task → ℕ
most_left t = min (t.stroke - 1) t.left

-- A pass over a state's tasks shows whether its form is broken. Task by task: its rank is not above that of the task before, or its stroke
-- length, budget, age or ticks left are out of range; a stroke length of 1 to the budget leaves no budget of 0.
abbrev pub breaks : ℕ → Task → Bool
breaks last t =
    leb (rank t) last || ltb t.stroke 1 || ltb t.budget t.stroke || ltb t.period t.budget || ltb t.period t.age || ltb t.budget t.left

-- the pass before the first task, in a state whose stroke has number j and r ticks left
abbrev pub begun : (j r : ℕ) → Pass
begun j r = record { own = j; left = r; last = 0; numbers = 0; seen = 0; place = 64; most = 0 }

-- a task is that of the stroke
abbrev pub is_own : Pass → Task → Bool
is_own p t = ltb 0 p.left && eqb t.number p.own

-- the pass after one task more, at place i
abbrev pub after : ℕ → Pass → Task → Pass
after i p t =
    record { own = p.own; left = p.left; last = rank t; numbers = bit_or p.numbers t.number; seen = bit_or p.seen (2 ^ (t.number % 64)); place = cond (is_own p t) i p.place; most = cond (is_own p t) (most_left t) p.most }

-- at its end: a number is above 63, the last period above 60,000, there are fewer numbers than tasks, or the stroke has more ticks left than
-- its task allows, or none and yet a number
abbrev pub ends_foreign : Pass → ℕ → Bool
ends_foreign p n =
    ltb 63 p.numbers || ltb 60000 (p.last / 64) || ltb (ones p.seen) n || ltb p.most p.left || (eqb p.left 0 && ltb 0 p.own)

-- the place of the task with a number: 21, then 17, else where it stands
unfoldable pub spot : Core → ℕ → Result ℕ (Rejection ℕ)
spot s j =
    cond (foreign s) (Err (record { word = Foreign; place = 0 })) (ok_or (position (named j) (tasks_of s)) (record { word = Unlisted; place = 0 }))

-- the state with another task at a place, and with another stroke
abbrev pub changed : Core → ℕ → Task → Core
changed s i t = record { count = s.count; tasks = set s.tasks i t; stroke_task = s.stroke_task; stroke_left = s.stroke_left }

abbrev pub with_stroke : Core → Stroke → Core
with_stroke s k = record { count = s.count; tasks = s.tasks; stroke_task = k.task; stroke_left = k.left }

-- an accepted call hands the state back with a task changed
abbrev pub acceptance : Core → ℕ → Task → Step
acceptance s i t = record { answer = Ok Accepted; core = changed s i t }
