use Rattle.std.proofs.Common.{rules}
use Rattle.figures.proofs.Climbs.{reach_less, reach_turn, reach_end}
use Rattle.figures.proofs.Base.least_power.Goals as goal

pub loop-reach-smaller : goal.loop-reach-smaller
loop-reach-smaller c = search (reach_less, rules)

pub loop-reach-preserved : goal.loop-reach-preserved
loop-reach-preserved c = search (reach_turn, rules)

pub returns : goal.returns
returns c = search (reach_end, rules)
