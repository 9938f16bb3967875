-- Release, finish and tick of a state (docs/SHEET.md, sections 6 and 14); each looks first whether the state is foreign.
use Rattle.std.specs.Prelude.{ℕ, ◌≡◌, false, cond}
use Rattle.sheet.specs.Refusals.{number_of}
use Rattle.timing.specs.Calls.{Call, Answer, accepted, served, idle, refused, answer, next}
use Rattle.timing.specs.Strokes.{TickGoes}
use Rattle.state.specs.declared.Core.{Core}
use Rattle.state.specs.declared.Step.{Step}
use Rattle.std.specs.Prelude.{Result, Ok, Err}
use Rattle.sheet.specs.declared.Rejection.{Rejection}
use Rattle.state.specs.declared.Reply.{Reply}
use Rattle.state.specs.declared.Reply.TheVariants.{Accepted, Served, Idle}
use Rattle.state.specs.State.{state_in, with_state, foreign}

-- the code's answer as an answer of the definitions: a word stands for its number
abbrev pub answer_of : Result Reply (Rejection ℕ) → Answer
answer_of (Ok Accepted) = accepted
answer_of (Ok (Served j)) = served j
answer_of (Ok Idle) = idle
answer_of (Err r) = refused (number_of r.word) r.place

-- a call that is refused, and hands back this state
abbrev pub refusal : Core → Rejection ℕ → Step
refusal s r = record { answer = Err r; core = s }

-- what a call on a state answers: 21 with place 0 where the state breaks its own form, else what timing's state answers
unfoldable pub ask : Call → Core → Answer
ask c s = cond (foreign s) (refused 21 0) (answer c (state_in s))

-- the state that a call hands back: as given where it breaks its own form, else with its tasks and stroke changed
unfoldable pub step : Call → Core → Core
step c s = cond (foreign s) s (with_state s (next c (state_in s)))

-- what an operation promises: its answer, and every field of the state that it hands back
pub record Operation (c : Call) (s : Core) (r : Step) : Type 0 where
  pub answer : answer_of r.answer ≡ ask c s
  pub core : r.core ≡ step c s

-- a refused call hands the state back as given
pub record Unaltered (s : Core) (r : Step) : Type 0 where
  pub kept : (n p : ℕ) → answer_of r.answer ≡ refused n p → r.core ≡ s

-- whom a tick of a state in form goes to: inside a stroke to its task, outside to the first pending task by priority; it is idle only where
-- nothing is pending
pub record Serves (s : Core) (r : Step) : Type 0 where
  pub goes : foreign s ≡ false → TickGoes (state_in s) (answer_of r.answer)
