use Rattle.fit.specs.Lists.{over}
use Rattle.planner.specs.Sheet.{two, four, core_record}
use Rattle.planner.proofs.Writing.{high_byte}
use Rattle.planner.proofs.writer.put_core.Goals as goal

pub returns : goal.returns
unfolding over two four core_record
returns c = rw (c.copy_from_slice.ensures.after, c.to_le_bytes.ensures, c.to_le_bytes-2.ensures, high_byte)
