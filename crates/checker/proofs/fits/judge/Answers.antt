use native.Mathlib.Omega.{arith}
use Rattle.std.proofs.Common.{rules}
use mathlib.Core.Path.{refl}
use Rattle.checker.proofs.Reading.{factor_held, budget_held, stroke_held}
use Rattle.checker.proofs.OnePass.{pass_start, pass_break, pass_fits, pass_stroke, pass_over, pass_turn, pass_end, factors_above, strokes_short, record_inside}
use Rattle.checker.proofs.fits.judge.Goals as goal

pub loop-task-init : goal.loop-task-init
loop-task-init c = pass_start _ _ _ _ _ _ (strokes_short c.args.r.now.stroked c.args.r.now.tasks.now _ c.args.list.now c.task_records-tasks.ensures (λ i. omega (arith, c.type_inv.tasks i))) (search rules)

pub slice_bounds-record-end : goal.slice_bounds-record-end
slice_bounds-record-end c = rw c.task_records-tasks.ensures (record_inside c.args.r.now.tasks.now c.args.list.now c.requires c.loop-task.task-index _ c.loop-task-test.true c.offset-at.ensures.0)

pub returns-then-times-last : goal.returns-then-times-last
returns-then-times-last c = rw (c.at.ensures, c.from.ensures, ← c.pivot-pivot.ensures, ← c.divisor-divisor.ensures) (pass_break _ _ _ _ _ _ _ _ _ _ c.loop-task-test.true (factors_above c.args.r.now.tasks.now c.args.list.now c.requires) c.loop-task.invariant _ _ (factor_held _ _ _ _ _ c.task_records-tasks.ensures c.offset-at.ensures.0 c.factor-m.ensures) refl c.if-times-last.true)

pub returns-then-room-held : goal.returns-then-room-held
returns-then-room-held c = rw (← c.pivot-pivot.ensures, ← c.divisor-divisor.ensures) (pass_stroke _ _ _ _ _ _ _ _ _ _ c.loop-task-test.true (factors_above c.args.r.now.tasks.now c.args.list.now c.requires) c.loop-task.invariant _ _ (factor_held _ _ _ _ _ c.task_records-tasks.ensures c.offset-at.ensures.0 c.factor-m.ensures) refl _ _ (stroke_held _ _ _ _ _ c.task_records-tasks.ensures c.offset-at.ensures.0 c.args.r.now.stroked c.stroke.ensures) c.held.ensures _ c.if-room-held.true c.judge_over.ensures)

pub level_sum-sum-requires : goal.level_sum-sum-requires
level_sum-sum-requires c = pass_fits _ _ _ _ _ _ _ _ _ _ c.loop-task-test.true (factors_above c.args.r.now.tasks.now c.args.list.now c.requires) c.loop-task.invariant _ _ (factor_held _ _ _ _ _ c.task_records-tasks.ensures c.offset-at.ensures.0 c.factor-m.ensures) refl (search rules)

pub returns-then-full-sum : goal.returns-then-full-sum
returns-then-full-sum c = rw (← c.pivot-pivot.ensures, ← c.divisor-divisor.ensures) (pass_over _ _ _ _ _ _ _ _ _ _ c.loop-task-test.true (factors_above c.args.r.now.tasks.now c.args.list.now c.requires) c.loop-task.invariant _ _ (factor_held _ _ _ _ _ c.task_records-tasks.ensures c.offset-at.ensures.0 c.factor-m.ensures) refl _ _ (stroke_held _ _ _ _ _ c.task_records-tasks.ensures c.offset-at.ensures.0 c.args.r.now.stroked c.stroke.ensures) c.held.ensures _ _ _ (budget_held _ _ _ _ _ c.task_records-tasks.ensures c.offset-at.ensures.0 c.budget.ensures) c.level_sum-sum.ensures c.product-full.ensures _ c.if-full-sum.true c.judge_over-then-full-sum.ensures)

pub loop-task-preserved : goal.loop-task-preserved
loop-task-preserved c = pass_turn _ _ _ _ _ _ _ _ _ _ c.loop-task-test.true (factors_above c.args.r.now.tasks.now c.args.list.now c.requires) c.loop-task.invariant _ _ (factor_held _ _ _ _ _ c.task_records-tasks.ensures c.offset-at.ensures.0 c.factor-m.ensures) refl _ _ (stroke_held _ _ _ _ _ c.task_records-tasks.ensures c.offset-at.ensures.0 c.args.r.now.stroked c.stroke.ensures) c.held.ensures _ _ _ (budget_held _ _ _ _ _ c.task_records-tasks.ensures c.offset-at.ensures.0 c.budget.ensures) c.level_sum-sum.ensures c.product-full.ensures _ c.if-times-last.false c.if-room-held.false c.if-full-sum.false (search rules) (search rules)

pub returns : goal.returns
returns c = rw (← c.pivot-pivot.ensures, ← c.divisor-divisor.ensures) (pass_end _ _ _ _ _ _ _ _ _ _ c.loop-task-test.false (factors_above c.args.r.now.tasks.now c.args.list.now c.requires) c.loop-task.invariant)
