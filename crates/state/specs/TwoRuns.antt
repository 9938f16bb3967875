-- The law of two runs from a state.
use Rattle.std.specs.Prelude.{ℕ, ◌≡◌}
use Rattle.fit.specs.Lists.{Each}
use Rattle.timing.specs.TwoRuns.{up_to, concerns, SameFor}
use Rattle.state.specs.declared.Core.{Core}
use Rattle.state.specs.State.{tasks_of}
use Rattle.state.specs.Operations.{ask, step}

-- What holds of a state whose strokes are all of one tick, for the task at each place i and those above it: two runs with the same ticks and
-- the same calls on them, in the same sequence, give them the same ticks and the same answers, whatever is done to the other tasks.
pub record Apart (s : Core) : Type 0 where
  pub below : Each (λ t. t.stroke ≡ 1) (tasks_of s) → (i : ℕ) → SameFor ask step (concerns (up_to (tasks_of s) i)) (up_to (tasks_of s) i) s
