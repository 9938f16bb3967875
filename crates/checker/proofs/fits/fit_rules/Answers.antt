use mathlib.Core.Path.{refl}
use native.Mathlib.Omega.{arith}
use Rattle.std.proofs.Common.{rules}
use Rattle.order.proofs.Cutting.{cut_start}
use Rattle.checker.specs.Rules.{fit_rows}
use Rattle.checker.proofs.Judging.{part_rises, part_next, part_held, part_judged, fit_start, fit_broken, fit_turn, fit_end}
use Rattle.checker.proofs.fits.fit_rules.Goals as goal

pub order_of-list-requires : goal.order_of-list-requires
order_of-list-requires c = (c.requires.1, c.requires.2)

pub loop-k-init : goal.loop-k-init
loop-k-init c = record { from = search (cut_start, rules); within = search rules; passed = fit_start _ _ }

pub slice_bounds-judge-count : goal.slice_bounds-judge-count
slice_bounds-judge-count c = (part_rises _ _ _ _ c.requires.1 (omega (arith, c.loop-k-test.true)) c.order_of-list.ensures c.loop-k.invariant.from _ c.end_on-to.ensures).0

pub slice_bounds-judge-start : goal.slice_bounds-judge-start
slice_bounds-judge-start c = (part_rises _ _ _ _ c.requires.1 (omega (arith, c.loop-k-test.true)) c.order_of-list.ensures c.loop-k.invariant.from _ c.end_on-to.ensures).0

pub slice_bounds-judge-end : goal.slice_bounds-judge-end
slice_bounds-judge-end c = (part_rises _ _ _ _ c.requires.1 (omega (arith, c.loop-k-test.true)) c.order_of-list.ensures c.loop-k.invariant.from _ c.end_on-to.ensures).1

pub judge-requires : goal.judge-requires
judge-requires c = part_held _ _ _ _ c.requires.1 (omega (arith, c.loop-k-test.true)) c.order_of-list.ensures c.loop-k.invariant.from _ c.requires.0 _ c.end_on-to.ensures

pub returns-in_err-over : goal.returns-in_err-over
unfolding fit_rows
returns-in_err-over c = fit_broken _ _ _ _ _ c.loop-k-test.true c.loop-k.invariant.passed (part_judged _ _ _ _ c.requires.1 (omega (arith, c.loop-k-test.true)) c.order_of-list.ensures c.loop-k.invariant.from _ _ _ _ c.end_on-to.ensures refl refl c.judge.ensures) _ _ c.from_residual.ensures.1 c.in_err-over.was _

pub loop-k-preserved : goal.loop-k-preserved
loop-k-preserved c = record {
  from = part_next _ _ _ _ c.requires.1 (omega (arith, c.loop-k-test.true)) c.order_of-list.ensures c.loop-k.invariant.from _ c.end_on-to.ensures;
  within = (part_rises _ _ _ _ c.requires.1 (omega (arith, c.loop-k-test.true)) c.order_of-list.ensures c.loop-k.invariant.from _ c.end_on-to.ensures).2;
  passed = fit_turn _ _ _ _ _ c.loop-k-test.true c.loop-k.invariant.passed (part_judged _ _ _ _ c.requires.1 (omega (arith, c.loop-k-test.true)) c.order_of-list.ensures c.loop-k.invariant.from _ _ _ _ c.end_on-to.ensures refl refl c.judge.ensures) _ _ c.in_ok-over.was (search rules);
}

pub returns : goal.returns
unfolding fit_rows
returns c = fit_end _ _ _ _ _ c.loop-k-test.false c.loop-k.invariant.passed c.refuse_core.ensures
