use Rattle.std.proofs.Common.{rules}
use Rattle.fit.proofs.Sorting.{sorted_column}
use Rattle.jobs.proofs.in_order.Goals as goal

pub returns : goal.returns
returns c = search (sorted_column, rules)
