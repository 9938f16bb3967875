use Rattle.std.proofs.Common.{rules}
use Rattle.fit.proofs.Laying.{lay_start, lay_end}
use Rattle.planner.proofs.Writing.{task_turn}
use Rattle.planner.proofs.sets.Jobs.put_tasks.Goals as goal

pub loop-i-init : goal.loop-i-init
loop-i-init c = search (lay_start, rules)

pub loop-i-preserved : goal.loop-i-preserved
loop-i-preserved c = task_turn _ _ _ _ _ _ _ _ (rw c.count-i-end.ensures at c.loop-i-test.true) c.requires c.loop-i.invariant _ _ _ c.from-j.ensures c.period.ensures c.budget.ensures c.put_task.ensures

pub returns : goal.returns
returns c = search (lay_end, rules)
