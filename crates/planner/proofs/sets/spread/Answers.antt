use Rattle.std.proofs.Common.{rules}
use Rattle.planner.proofs.Gathering.{spread_on, spread_end}
use Rattle.planner.proofs.sets.spread.Goals as goal

pub loop-place-preserved : goal.loop-place-preserved
loop-place-preserved c = search (spread_on, rules)

pub returns : goal.returns
returns c = search (spread_end, rules)
