use Rattle.figures.specs.Constructions.{sr}
use Rattle.figures.proofs.Rounds.{found_inside, found_some, found_none}
use Rattle.figures.proofs.TaskSet.first_sr.Goals as goal

pub returns-in_err-pivot : goal.returns-in_err-pivot
returns-in_err-pivot c = rw c.from_residual.ensures (found_none _ _ _ (c.in_err-pivot.ensures))

pub sr-requires : goal.sr-requires
sr-requires c = found_inside (sr c.args.base.number) _ _ _ c.in_ok-pivot.ensures

pub returns : goal.returns
returns c = found_some _ _ _ _ _ c.in_ok-pivot.ensures c.sr.ensures
