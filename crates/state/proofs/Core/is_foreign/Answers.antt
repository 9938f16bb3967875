use Rattle.std.proofs.Common.{rules}
use Rattle.state.proofs.Pass.{passed_begun, pass_turn, pass_breaks, pass_told, too_many}
use Rattle.state.proofs.Core.is_foreign.Goals as goal

pub returns-in_default : goal.returns-in_default
returns-in_default c = search (too_many, rules)

pub loop-i-init : goal.loop-i-init
loop-i-init c = passed_begun _ _ _ (search rules) (search rules) (search rules) (search rules)

pub returns-then-breaks : goal.returns-then-breaks
returns-then-breaks c = search (pass_breaks, rules)

pub loop-i-preserved : goal.loop-i-preserved
loop-i-preserved c = search (pass_turn, rules)

pub returns : goal.returns
returns c = search (pass_told, rules)
