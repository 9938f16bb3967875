use Rattle.std.proofs.Common.{rules}
use Rattle.figures.proofs.DctLoops.{lower_start, lower_turn, lower_end}
use Rattle.figures.proofs.lower_factors.Goals as goal

pub loop-i-init : goal.loop-i-init
loop-i-init c = search (lower_start, rules)

pub loop-i-preserved : goal.loop-i-preserved
loop-i-preserved c = search (lower_turn, rules)

pub returns-2 : goal.returns-2
returns-2 c = search (lower_end, rules)
