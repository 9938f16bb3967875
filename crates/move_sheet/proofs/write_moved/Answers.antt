-- The moved sheet lies within its buffer.
use Rattle.std.proofs.Common.{rules}
use Rattle.mover.proofs.Inside.{moved_inside, moved_front}
use Rattle.move_sheet.proofs.write_moved.Goals as goal

pub slice_bounds-out-end : goal.slice_bounds-out-end
slice_bounds-out-end g c = rw c.from.ensures (search (moved_inside, rules))

pub slice_bounds-write_all-end : goal.slice_bounds-write_all-end
slice_bounds-write_all-end g c = rw c.from.ensures (search (moved_front, rules))
