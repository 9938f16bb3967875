use Rattle.figures.proofs.DctLoops.{DownLoop}
use Rattle.figures.proofs.TaskSet.divisors.Given as goal

abbrev pub invariant-loop-i : goal.invariant-loop-i
invariant-loop-i l = DownLoop l.self.periods.now l.pivot l.q l.list l.d l.i
