use Rattle.fit.specs.Lists.{over}
use Rattle.planner.specs.Sheet.{two, four, task_record}
use Rattle.planner.proofs.Writing.{high_byte}
use Rattle.planner.proofs.writer.put_task.Goals as goal

pub returns : goal.returns
unfolding over two four task_record
returns c = rw (c.copy_from_slice.ensures.after, c.to_le_bytes.ensures, c.to_le_bytes-2.ensures, c.to_le_bytes-3.ensures, high_byte)
