use Rattle.std.proofs.Common.{ap, ◌∙◌}
use Rattle.fit.proofs.Sorting.{ordered_few}
use Rattle.planner.specs.Steps.{fitted}
use Rattle.planner.proofs.Planning.{sorted_long, ring_walked}
use Rattle.planner.proofs.sets.Jobs.first_fit.Goals as goal

pub turned-requires : goal.turned-requires
turned-requires c =
    let sorted = c.in_order-ring.ensures in
    rw c.as_slice.ensures (rw (sorted_long _ _ _ _ c.count.ensures c.args.self.now.few sorted.tasks) c.requires.1, ordered_few _ _ sorted)

pub returns : goal.returns
returns c =
    (rw c.as_slice-2.ensures.value at c.walk.ensures)
    ∙ ap fitted (ring_walked _ _ _ c.count.ensures c.args.self.now.few c.in_order-ring.ensures.tasks _ _ _ (rw c.as_slice.ensures at c.turned.ensures))
