use Prim.Native.Nat.{ℕ, ◌<◌}
use mathlib.Core.Path.{◌≡◌}
use Rattle.timing.specs.declared.Task.{Task}
use Rattle.dispatcher.proofs.Starting.{Filled}
use Rattle.dispatcher.proofs.fill.Given as goal

abbrev pub invariant-loop-i : goal.invariant-loop-i
invariant-loop-i g l = (t : ℕ → Task) → ((j : ℕ) (u : Task) → j < 256 → goal.F-post g l.task j u → u ≡ t j) → Filled t l.j-items l.i l.core
