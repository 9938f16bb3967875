use Rattle.std.proofs.Common.{arith, ◌∙◌}
use Rattle.planner.proofs.Planning.{err_is, refused_outcome, refused_output, room_enough, count_few, count_fits, limit_few, start_inside, in_priority, unfit_outcome, unfit_output, assigned_all, fit_outcome, fit_output, fit_accepted, fit_placed, fit_unplaced}
use Rattle.planner.proofs.plan.Goals as goal

pub returns-in_err-check_call-clause-result_value : goal.returns-in_err-check_call-clause-result_value
returns-in_err-check_call-clause-result_value c = rw (err_is _ _ c.from_residual.ensures.1) (refused_outcome _ _ _ _ _ c.in_err-check_call.ensures)

pub returns-in_err-check_call-clause-out_after : goal.returns-in_err-check_call-clause-out_after
returns-in_err-check_call-clause-out_after c = refused_output _ _ _ _ _ c.in_err-check_call.ensures

pub overflow_cast-jobs : goal.overflow_cast-jobs
overflow_cast-jobs c = omega (arith, count_fits _ _ _ _ c.in_ok-check_call.ensures)

pub invariant_of-jobs : goal.invariant_of-jobs
invariant_of-jobs c =
    let clear = c.in_ok-check_call.ensures in
    record { few = count_few _ _ _ _ clear; tasks = c.as_slice.ensures ∙ in_priority _ _ _ _ clear _ c.in_order-order.ensures.tasks }

pub overflow_cast-limit : goal.overflow_cast-limit
overflow_cast-limit c = omega (arith, limit_few _ _ _ _ c.in_ok-check_call.ensures)

pub first_fit-requires : goal.first_fit-requires
first_fit-requires c = (limit_few _ _ _ _ c.in_ok-check_call.ensures, start_inside _ _ _ _ c.in_ok-check_call.ensures)

pub returns-in_err-assignment-clause-result_value : goal.returns-in_err-assignment-clause-result_value
returns-in_err-assignment-clause-result_value c =
    let (unplaced, word) = fit_unplaced _ _ c.in_err-assignment.ensures in
    rw (err_is _ _ c.from_residual-in_err-assignment.ensures.1, word) (unfit_outcome _ _ _ _ c.in_ok-check_call.ensures _ unplaced)

pub returns-in_err-assignment-clause-out_after : goal.returns-in_err-assignment-clause-out_after
returns-in_err-assignment-clause-out_after c =
    unfit_output _ _ _ _ c.in_ok-check_call.ensures _ (fit_unplaced _ _ c.in_err-assignment.ensures).0

pub write_sheet-length-requires : goal.write_sheet-length-requires
write_sheet-length-requires c =
    let clear = c.in_ok-check_call.ensures in
    (room_enough _ _ _ _ clear, assigned_all _ _ _ _ clear _ (fit_placed _ _ c.in_ok-assignment.ensures))

pub returns-clause-result_value : goal.returns-clause-result_value
returns-clause-result_value c =
    let w = c.write_sheet-length.ensures in
    rw c.count.ensures (fit_outcome _ _ _ _ c.in_ok-check_call.ensures _ (fit_placed _ _ c.in_ok-assignment.ensures) _ _ w.0 w.1)

pub returns-clause-out_after : goal.returns-clause-out_after
returns-clause-out_after c =
    let w = c.write_sheet-length.ensures in
    fit_output _ _ _ _ c.in_ok-check_call.ensures _ (fit_placed _ _ c.in_ok-assignment.ensures) _ _ w.0 w.1

pub returns-clause-accepting : goal.returns-clause-accepting
returns-clause-accepting c =
    let w = c.write_sheet-length.ensures in
    rw c.count.ensures (fit_accepted _ _ _ _ c.in_ok-check_call.ensures _ (fit_placed _ _ c.in_ok-assignment.ensures) _ _ w.0 w.1)
