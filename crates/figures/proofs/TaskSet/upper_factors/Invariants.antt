use Rattle.figures.proofs.DctLoops.{UpperLoop}
use Rattle.figures.proofs.TaskSet.upper_factors.Given as goal

abbrev pub invariant-loop-i : goal.invariant-loop-i
invariant-loop-i l = UpperLoop l.self.periods.now l.pivot l.d l.q l.factors l.m l.i
