use Rattle.checker.proofs.Spares.{task_none, task_start, tasks_left, task_end, spare_err, spare_ok}
use Rattle.checker.proofs.frame.task_spares.Goals as goal

pub returns-then-stroked : goal.returns-then-stroked
returns-then-stroked c = search task_none

pub loop-i-init : goal.loop-i-init
loop-i-init c = search task_start

pub returns-in_err-spare : goal.returns-in_err-spare
returns-in_err-spare c = spare_err _ _ _ _ (tasks_left _ _ _ _ _ c.loop-i-test.true c.from.ensures c.loop-i.invariant) _ c.spare.ensures _ _ c.in_err-spare.was c.from_residual.ensures.1

pub loop-i-preserved : goal.loop-i-preserved
loop-i-preserved c = spare_ok _ _ _ _ (tasks_left _ _ _ _ _ c.loop-i-test.true c.from.ensures c.loop-i.invariant) _ c.spare.ensures _ c.in_ok-spare.was

pub returns : goal.returns
returns c = task_end _ _ _ _ c.loop-i-test.false c.loop-i.invariant
