use Rattle.mover.proofs.Writing.{sheet_length, sheet_written}
use Rattle.mover.proofs.write_sheet.Goals as goal

pub returns : goal.returns
returns c = λ y arranged. (
  rw (c.from.ensures, c.from-2.ensures) (sheet_length _ _ _ _ y c.requires.1 arranged),
  rw c.from.ensures (sheet_written c.args.sheet.now _ _ c.args.arrangement y c.requires.1 arranged _ _ _ _ c.requires.0 c.put_header.ensures c.put_tasks.ensures (rw c.from.ensures at c.put_cores.ensures)),
)
