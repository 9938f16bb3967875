use Rattle.mover.proofs.Arranging.{core_arranged}
use Rattle.mover.proofs.by_core.Goals as goal

pub returns : goal.returns
returns c = search core_arranged
