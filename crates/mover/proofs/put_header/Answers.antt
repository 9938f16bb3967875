use native.Mathlib.Omega.{arith}
use lib.ListN.{length-set}
use Rattle.mover.proofs.Records.{header_bytes}
use Rattle.mover.proofs.put_header.Goals as goal

pub bounds-part-4 : goal.bounds-part-4
bounds-part-4 c = simp length-set (omega arith)

pub returns : goal.returns
returns c = search header_bytes
