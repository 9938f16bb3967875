use Rattle.figures.specs.Constructions.{sr}
use Rattle.fit.proofs.Filling.{Filled}
use Rattle.figures.proofs.SrLoop.{SrLoop}
use Rattle.figures.proofs.TaskSet.sr.Given as goal

abbrev pub invariant-loop-i : goal.invariant-loop-i
invariant-loop-i l = SrLoop l.base.number l.self.periods.now l.pivot l.q l.d l.power l.i × Filled (sr l.base.number l.self.periods.now l.pivot).factors l.i l.factors
