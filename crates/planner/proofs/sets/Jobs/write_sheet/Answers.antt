use Rattle.std.proofs.Common.{rules}
use Rattle.planner.proofs.Writing.{sheet_length, sheet_written}
use Rattle.planner.proofs.sets.Jobs.write_sheet.Goals as goal

pub returns : goal.returns
returns c = (search (sheet_length, rules), search (sheet_written, rules))
