use Rattle.figures.proofs.SrLoop.{SrLoop}
use Rattle.figures.proofs.SrFeasible.{SrLoad}
use Rattle.figures.proofs.TaskSet.is_sr_feasible.Given as goal

abbrev pub invariant-loop-i : goal.invariant-loop-i
invariant-loop-i l =
    SrLoop l.base.number l.self.periods.now l.pivot l.q l.d l.power l.i
    × SrLoad l.base.number l.self.periods.now l.self.budgets.now l.pivot l.q l.d l.last l.full l.total l.i
