-- The sheet lies within its buffer.
use Rattle.std.proofs.Common.{rules}
use Rattle.planner.proofs.Inside.{sheet_inside, sheet_front}
use Rattle.plan.proofs.plan_jobs.Goals as goal

pub slice_bounds-sheet-end : goal.slice_bounds-sheet-end
slice_bounds-sheet-end g c = rw c.from.ensures (search (sheet_inside, rules))

pub slice_bounds-write_all-end : goal.slice_bounds-write_all-end
slice_bounds-write_all-end g c = rw c.from.ensures (search (sheet_front, rules))
