use Prim.Native.Nat.{min}
use Rattle.fit.specs.Lists.{at}
use Rattle.mover.proofs.Gathering.{Gathered}
use Rattle.mover.proofs.core_by_core.Given as goal

abbrev pub invariant-loop-k : goal.invariant-loop-k
invariant-loop-k l = Gathered (at l.periods) (at l.on) (min l.n 64) l.list l.k l.at l.counts
