use Rattle.sheet.specs.Views.{figures_by}
use Rattle.checker.proofs.OnePass.{Passing}
use Rattle.checker.proofs.fits.judge.Given as goal

abbrev pub invariant-loop-task : goal.invariant-loop-task
invariant-loop-task l = Passing (figures_by l.r).budget (figures_by l.r).stroke (figures_by l.r).factor l.pivot l.divisor l.list l.load l.last l.room l.task-index
