use Rattle.std.proofs.Common.{rules}
use Rattle.planner.proofs.Fitting.{taken}
use Rattle.planner.proofs.sets.Jobs.takes.Goals as goal

pub returns : goal.returns
returns c = search (taken, rules)
