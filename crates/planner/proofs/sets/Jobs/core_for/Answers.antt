use Rattle.std.proofs.Common.{rules}
use Rattle.planner.proofs.Fitting.{core_found}
use Rattle.planner.proofs.sets.Jobs.core_for.Goals as goal

pub returns : goal.returns
returns c = search (core_found, rules)
