use Rattle.std.proofs.Common.{rules}
use Rattle.mover.proofs.Gathering.{gather_start, gather_rises, gather_fits, gather_turn, gather_end}
use Rattle.mover.proofs.core_by_core.Goals as goal

pub loop-k-init : goal.loop-k-init
loop-k-init c = gather_start _ _ _ _ c.by_core-list.ensures

pub overflow_sub-counts : goal.overflow_sub-counts
overflow_sub-counts c = search (gather_rises, rules)

pub overflow_cast-counts : goal.overflow_cast-counts
overflow_cast-counts c = search (gather_fits, rules)

pub loop-k-preserved : goal.loop-k-preserved
loop-k-preserved c = rw c.from.ensures (gather_turn _ _ _ _ _ _ _ _ _ c.loop-k-test.true c.requires c.loop-k.invariant c.end_on-end.ensures)

pub returns : goal.returns
returns c = gather_end _ _ _ _ _ _ _ _ _ _ c.loop-k.auto.k-end c.loop-k-test.false c.loop-k.invariant c.copy_from_slice.ensures.after
