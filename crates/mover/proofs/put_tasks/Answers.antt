use Rattle.std.proofs.Common.{rules}
use Rattle.fit.proofs.Laying.{lay_start, lay_end}
use Rattle.mover.proofs.Records.{task_turn}
use Rattle.mover.proofs.put_tasks.Goals as goal

pub loop-i-init : goal.loop-i-init
loop-i-init c = lay_start _ _ _

pub loop-i-preserved : goal.loop-i-preserved
loop-i-preserved c = task_turn _ _ _ _ _ _ _ (search rules) c.requires.1 c.loop-i.invariant _ c.put_task.ensures

pub returns : goal.returns
returns c = lay_end _ _ _ _ _ _ _ (search rules) (search rules) c.loop-i.invariant
