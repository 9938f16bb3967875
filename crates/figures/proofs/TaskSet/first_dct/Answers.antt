use Rattle.figures.specs.Constructions.{dct}
use Rattle.figures.proofs.Rounds.{found_inside, found_some, found_none}
use Rattle.figures.proofs.TaskSet.first_dct.Goals as goal

pub returns-in_err-pivot : goal.returns-in_err-pivot
returns-in_err-pivot c = rw c.from_residual.ensures (found_none _ _ _ (c.in_err-pivot.ensures))

pub dct-requires : goal.dct-requires
dct-requires c = found_inside dct _ _ _ c.in_ok-pivot.ensures

pub returns : goal.returns
returns c = found_some _ _ _ _ _ c.in_ok-pivot.ensures c.dct.ensures
