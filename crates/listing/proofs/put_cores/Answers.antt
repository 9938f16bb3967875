use Rattle.std.proofs.Common.{rules}
use Rattle.listing.proofs.Figures.{begins_first, begins_next, part_rises, part_inside, part_order}
use Rattle.listing.proofs.Lines.{lines_start, lines_turn}
use Rattle.listing.proofs.put_cores.Goals as goal

pub loop-k-init : goal.loop-k-init
loop-k-init c = record { lines = search (lines_start, rules); begins = search (begins_first, rules) }

pub slice_bounds-put_core-count : goal.slice_bounds-put_core-count
slice_bounds-put_core-count c = search (part_rises, rules)

pub slice_bounds-put_core-start : goal.slice_bounds-put_core-start
slice_bounds-put_core-start c = search (part_rises, rules)

pub slice_bounds-put_core-end : goal.slice_bounds-put_core-end
slice_bounds-put_core-end c = search (part_inside, rules)

pub put_core-at-requires : goal.put_core-at-requires
put_core-at-requires c = (search rules, part_order _ _ _ _ _ _ c.loop-k.invariant.begins c.end_on-end.ensures (search rules) (search rules) (search rules) (search rules), search rules, search rules, search rules)

pub loop-k-preserved : goal.loop-k-preserved
loop-k-preserved c =
    record { lines = lines_turn _ _ _ _ _ _ _ _ _ c.put_core-at.ensures c.loop-k.invariant.lines; begins = begins_next _ _ _ _ _ _ c.loop-k.invariant.begins c.end_on-end.ensures (search rules) (search rules) }
