use Rattle.std.proofs.Common.{rules}
use Rattle.figures.proofs.Ranges.{ranges}
use Rattle.figures.proofs.DctLoops.{down_start, divisor_high, down_low, down_high, down_fits, down_turn, down_end}
use Rattle.figures.proofs.TaskSet.divisors.Goals as goal

pub loop-i-init : goal.loop-i-init
loop-i-init c = search (down_start, ranges, rules)

pub down_step-d-requires : goal.down_step-d-requires
down_step-d-requires c =
    (search (ranges, rules), search (ranges, rules), search (down_low, rules), search (down_high, rules), search rules, search (divisor_high, rules))

pub overflow_cast-list : goal.overflow_cast-list
overflow_cast-list c = search (down_fits, rules)

pub loop-i-preserved : goal.loop-i-preserved
loop-i-preserved c = search (down_turn, rules)

pub returns : goal.returns
returns c = search (down_end, rules)
