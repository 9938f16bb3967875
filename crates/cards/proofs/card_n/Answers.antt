-- The task records of a plan lie within the output.
use Rattle.std.proofs.Common.{rules}
use Rattle.planner.proofs.Inside.{tasks_inside}
use Rattle.cards.proofs.card_n.Goals as goal

pub print_sheet-requires : goal.print_sheet-requires
print_sheet-requires g c = search (tasks_inside, rules)
