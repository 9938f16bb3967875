-- The sheet of a plan lies within the output.
use Rattle.std.proofs.Common.{rules}
use Rattle.planner.proofs.Inside.{sheet_inside, sheet_front, tasks_inside}
use Rattle.cards.proofs.plan_card.Goals as goal

pub print_rates-requires : goal.print_rates-requires
print_rates-requires g c = search (tasks_inside, rules)

pub returns-in-Ok : goal.returns-in-Ok
returns-in-Ok g c = rw c.from.ensures (search (sheet_inside, rules), search (sheet_front, rules))
