use Rattle.fit.proofs.Laying.{lay_start, lay_end}
use Rattle.mover.proofs.Records.{core_turn}
use Rattle.mover.proofs.put_cores.Goals as goal

pub loop-k-init : goal.loop-k-init
loop-k-init c = lay_start _ _ _

pub loop-k-preserved : goal.loop-k-preserved
loop-k-preserved c = core_turn _ _ _ _ _ _ _ c.loop-k-test.true c.requires.1 c.offset-at.ensures.0 c.loop-k.invariant _ (rw c.from.ensures at c.put_core.ensures)

pub returns : goal.returns
returns c = search lay_end
