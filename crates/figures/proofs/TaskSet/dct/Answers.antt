use Rattle.std.proofs.Common.{rules}
use Rattle.figures.proofs.Ranges.{ranges}
use Rattle.figures.proofs.DctLoops.{dct_positive, dct_divisor, dct_lower, dct_end}
use Rattle.figures.proofs.TaskSet.dct.Goals as goal

pub lower_factors-requires : goal.lower_factors-requires
lower_factors-requires c = (search (ranges, rules), search (dct_positive, ranges, rules))

pub upper_factors-requires : goal.upper_factors-requires
upper_factors-requires c = (search rules, rw c.from.ensures (search (dct_divisor, ranges, rules)), search (dct_lower, ranges, rules))

pub returns : goal.returns
returns c = search (dct_end, ranges, rules)
