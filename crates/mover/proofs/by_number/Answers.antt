use Rattle.mover.proofs.Arranging.{number_arranged}
use Rattle.mover.proofs.by_number.Goals as goal

pub returns : goal.returns
returns c = number_arranged c.args.sheet.now _ _ c.requires.0 _ _ _ c.requires.1 c.positions_of-from.ensures (rw c.from-at.ensures at c.cores_of-on.ensures) c.look_up-byte4.ensures
