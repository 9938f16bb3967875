use Rattle.fit.specs.Lists.{at}
use Rattle.checker.proofs.Bare.{Flags}
use Rattle.checker.proofs.early.used_cores.Given as goal

abbrev pub invariant-loop-i : goal.invariant-loop-i
invariant-loop-i l = Flags (at l.on) l.i l.used
