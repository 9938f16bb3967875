use Rattle.std.proofs.Common.{rules}
use Rattle.figures.proofs.Ranges.{ranges}
use Rattle.fit.proofs.Filling.{filled_start}
use Rattle.figures.proofs.SrLoop.{sr_start, divisor_fits, pivot_positive, limit_small, limit_fits, power_fits, factor_fits, sr_turn, store_turn, store_end}
use Rattle.figures.proofs.TaskSet.sr.Goals as goal

pub least_power-d-requires : goal.least_power-d-requires
least_power-d-requires c = search (ranges, rules)

pub loop-i-init : goal.loop-i-init
loop-i-init c = (search (sr_start, ranges, rules), filled_start _)

pub overflow_mul-from : goal.overflow_mul-from
overflow_mul-from c = search (limit_fits, rules)

pub largest_power-power-requires : goal.largest_power-power-requires
largest_power-power-requires c =
    (search (pivot_positive, rules), search (limit_small, rules), search (power_fits, rules), search rules)

pub overflow_cast-factors : goal.overflow_cast-factors
overflow_cast-factors c = search (factor_fits, rules)

pub loop-i-preserved : goal.loop-i-preserved
loop-i-preserved c =
    let s = c.loop-i.invariant.0 in
    let h = c.loop-i-test.true in (
      sr_turn _ _ _ _ _ _ _ s _ h c.from-in-loop-i.ensures _ c.largest_power-power.ensures,
      store_turn _ _ _ _ _ _ _ s _ h c.from-in-loop-i.ensures _ c.largest_power-power.ensures _ c.loop-i.invariant.1,
    )

pub overflow_cast-result : goal.overflow_cast-result
overflow_cast-result c = search (divisor_fits, rules)

pub returns : goal.returns
returns c = search (store_end, rules)
