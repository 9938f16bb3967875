use Rattle.std.proofs.Common.{rules, refl}
use Rattle.figures.proofs.Ranges.{ranges}
use Rattle.figures.proofs.SrLoop.{sr_start, pivot_positive, limit_small, power_fits, factor_fits, sr_turn}
use Rattle.figures.proofs.SrFeasible.{one_power, last_small, last_product, last_fits, skip_last, load_begin, last_most, factor_low, load_on, load_broken, load_done}
use Rattle.figures.proofs.TaskSet.is_sr_feasible.Goals as goal

pub least_power-d-requires : goal.least_power-d-requires
least_power-d-requires c = search (ranges, rules)

pub overflow_mul-from : goal.overflow_mul-from
overflow_mul-from c = search (last_product, ranges, rules)

pub largest_power-last-requires : goal.largest_power-last-requires
largest_power-last-requires c = (search (ranges, rules), search (last_small, ranges, rules), search (last_fits, ranges, rules), search (one_power, rules))

pub returns-then-last-gt120000 : goal.returns-then-last-gt120000
returns-then-last-gt120000 c = search (skip_last, ranges, rules)

pub loop-i-init : goal.loop-i-init
loop-i-init c = (search (sr_start, ranges, rules), search (load_begin, ranges, rules))

pub largest_power-power-requires : goal.largest_power-power-requires
largest_power-power-requires c = (search (pivot_positive, rules), search (limit_small, rules), search (power_fits, rules), search rules)

pub overflow_cast-power : goal.overflow_cast-power
overflow_cast-power c = search (factor_fits, rules)

pub share-total-requires : goal.share-total-requires
share-total-requires c =
    let (s, t) = c.loop-i.invariant in
    (t.usable.divisor, last_most _ _ _ _ _ _ _ _ _ _ _ s t, factor_low _ _ _ _ _ _ _ _ _ _ _ s t _ c.loop-i-test.true c.from-in-loop-i.ensures _ c.largest_power-power.ensures)

pub returns-then-full-total : goal.returns-then-full-total
returns-then-full-total c =
    let (s, t) = c.loop-i.invariant in
    load_broken _ _ _ _ _ _ _ _ _ _ _ s t _ c.loop-i-test.true c.from-in-loop-i.ensures _ c.largest_power-power.ensures _ _ refl c.share-total.ensures.0 c.if-full-total.true

pub loop-i-preserved : goal.loop-i-preserved
loop-i-preserved c =
    let (s, t) = c.loop-i.invariant in
    let h = c.loop-i-test.true in
    let x = c.from-in-loop-i.ensures in
    let v = c.largest_power-power.ensures in
    (sr_turn _ _ _ _ _ _ _ s _ h x _ v, load_on _ _ _ _ _ _ _ _ _ _ _ s t _ h x _ v _ _ refl c.share-total.ensures.0 c.if-full-total.false)

pub returns : goal.returns
returns c = search (load_done, rules)
