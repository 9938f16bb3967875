use Rattle.std.proofs.Common.{rules}
use Rattle.mover.proofs.Records.{core_bytes_lem}
use Rattle.mover.proofs.put_core.Goals as goal

pub returns : goal.returns
returns c = search (core_bytes_lem, rules)
