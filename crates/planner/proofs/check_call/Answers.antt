use Rattle.std.proofs.Common.{arith}
use Rattle.sheet.proofs.Scans.{scan_first}
use Rattle.checker.proofs.Tables.{handed}
use Rattle.planner.specs.Plan.{call_rows}
use Rattle.planner.proofs.Calls.{list_fits, call_start, call_tight, call_clear}
use Rattle.planner.proofs.check_call.Goals as goal

pub returns-in_err-check_list : goal.returns-in_err-check_list
unfolding call_rows
returns-in_err-check_list c = handed _ _ _ c.from_residual.ensures.1 (scan_first _ _ _ c.in_err-check_list.ensures)

pub overflow_cast-jobs : goal.overflow_cast-jobs
overflow_cast-jobs c = omega (arith, list_fits _ _ c.in_ok-check_list.ensures)

pub returns-then-is_bad_start : goal.returns-then-is_bad_start
returns-then-is_bad_start c = rw c.at.ensures (call_start _ _ c.in_ok-check_list.ensures _ _ _ c.is_bad_start.ensures c.if-is_bad_start.true)

pub returns-then-room-lt712 : goal.returns-then-room-lt712
returns-then-room-lt712 c = rw c.at-then-room-lt712.ensures (call_tight _ _ c.in_ok-check_list.ensures _ _ _ c.is_bad_start.ensures c.if-is_bad_start.false c.if-room-lt712.true)

pub returns : goal.returns
returns c = call_clear _ _ c.in_ok-check_list.ensures _ _ _ c.is_bad_start.ensures c.if-is_bad_start.false c.if-room-lt712.false
