use Rattle.state.proofs.Pass.{PassedIn}
use Rattle.state.proofs.Core.is_foreign.Given as goal

abbrev pub invariant-loop-i : goal.invariant-loop-i
invariant-loop-i l = PassedIn l.self l.tasks l.i l.pass
