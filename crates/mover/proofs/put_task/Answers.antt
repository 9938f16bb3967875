use Rattle.std.proofs.Common.{rules}
use Rattle.mover.proofs.Records.{task_bytes_lem}
use Rattle.mover.proofs.put_task.Goals as goal

pub returns : goal.returns
returns c = search (task_bytes_lem, rules)
