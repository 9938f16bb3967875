use Rattle.state.proofs.Ticking.{Ticking}
use Rattle.state.proofs.Core.tick.Given as goal

abbrev pub invariant-loop-i : goal.invariant-loop-i
invariant-loop-i l = Ticking l.self l.i l.next l.pending l.pass
