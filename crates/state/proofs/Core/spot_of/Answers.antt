use Rattle.std.proofs.Common.{rules}
use Rattle.state.proofs.Outcomes.{count_max}
use Rattle.state.proofs.Core.spot_of.Goals as goal

pub shared_ref_as_front-first_named : goal.shared_ref_as_front-first_named
shared_ref_as_front-first_named c = search (count_max, rules)
