-- The moved sheet lies within its buffer.
use Rattle.std.proofs.Common.{rules}
use Rattle.mover.proofs.Inside.{moved_inside, moved_front}
use Rattle.cards.proofs.print_moved.Goals as goal

pub slice_bounds-out-end : goal.slice_bounds-out-end
slice_bounds-out-end g c = rw c.from-end.ensures (search (moved_inside, rules))

pub slice_bounds-eq-end : goal.slice_bounds-eq-end
slice_bounds-eq-end g c = rw c.from-end.ensures (search (moved_front, rules))
