use Rattle.figures.proofs.LoadLoop.{LoadLoop}
use Rattle.figures.proofs.TaskSet.passes.Given as goal

abbrev pub invariant-loop-i : goal.invariant-loop-i
invariant-loop-i l = LoadLoop l.self.budgets.now l.f.factors l.f.divisor l.last l.limit l.total l.i
