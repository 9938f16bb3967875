use Rattle.std.proofs.Common.{rules}
use Rattle.figures.proofs.Ranges.{ranges}
use Rattle.figures.proofs.DctLoops.{upper_start, upper_divisor, upper_low, upper_high, upper_fits, upper_turn, upper_end}
use Rattle.figures.proofs.TaskSet.upper_factors.Goals as goal

pub loop-i-init : goal.loop-i-init
loop-i-init c = search (upper_start, ranges, rules)

pub up_step-m-requires : goal.up_step-m-requires
up_step-m-requires c =
    (search (ranges, rules), search (ranges, rules), search (ranges, rules), search (upper_divisor, rules), search (upper_low, rules), search (upper_high, rules))

pub overflow_cast-factors : goal.overflow_cast-factors
overflow_cast-factors c = search (upper_fits, rules)

pub loop-i-preserved : goal.loop-i-preserved
loop-i-preserved c = search (upper_turn, rules)

pub returns : goal.returns
returns c = search (upper_end, rules)
