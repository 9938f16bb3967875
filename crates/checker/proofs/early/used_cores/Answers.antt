use Rattle.std.proofs.Common.{rules}
use Rattle.checker.proofs.Bare.{flags_start, flags_turn}
use Rattle.checker.proofs.early.used_cores.Goals as goal

pub loop-i-init : goal.loop-i-init
loop-i-init c = flags_start _

pub loop-i-preserved : goal.loop-i-preserved
loop-i-preserved c = flags_turn _ _ _ _ (search rules) (search rules) c.loop-i.invariant
