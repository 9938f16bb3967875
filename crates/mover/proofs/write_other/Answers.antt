use Rattle.std.proofs.Common.{rules}
use Rattle.mover.proofs.Arranging.{told, number_moved, core_moved}
use Rattle.mover.proofs.write_other.Goals as goal

pub by_number-arrangement-requires : goal.by_number-arrangement-requires
by_number-arrangement-requires c = (search rules, search (told, rules))

pub returns-then-is_grouped : goal.returns-then-is_grouped
returns-then-is_grouped c = number_moved _ _ _ _ _ _ _ c.write_sheet.ensures (search (told, rules)) (search rules)

pub by_core-arrangement-requires : goal.by_core-arrangement-requires
by_core-arrangement-requires c = (search rules, search (told, rules))

pub returns : goal.returns
returns c = core_moved _ _ _ _ _ _ _ c.write_sheet-2.ensures (search (told, rules)) (search rules)
