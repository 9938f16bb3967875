use Rattle.planner.proofs.Fitting.{Walked}
use Rattle.planner.proofs.sets.Jobs.walk.Given as goal

abbrev pub invariant-loop-i : goal.invariant-loop-i
invariant-loop-i l = Walked l.self.list.now l.limit l.tasks l.i-index l.a
