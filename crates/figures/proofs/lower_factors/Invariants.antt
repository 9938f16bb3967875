use Rattle.figures.proofs.DctLoops.{LowerLoop}
use Rattle.figures.proofs.lower_factors.Given as goal

abbrev pub invariant-loop-i : goal.invariant-loop-i
invariant-loop-i l = LowerLoop l.divisors l.pivot l.d l.factors l.i
