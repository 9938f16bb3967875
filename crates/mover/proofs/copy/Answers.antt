use Rattle.std.proofs.Common.{rules}
use mathlib.Core.Path.{◌∙◌}
use Rattle.mover.proofs.Records.{copy_start, copy_turn, copy_end, copied_part}
use Rattle.mover.proofs.copy.Goals as goal

pub returns-in-Some : goal.returns-in-Some
returns-in-Some c = copied_part _ _ _ _ _ c.in-Some.ensures.lookup.0.1 (c.copy_from_slice.ensures.after ∙ c.in-Some.ensures.lookup.0.2)

pub loop-i-init : goal.loop-i-init
loop-i-init c = copy_start _ _ _

pub loop-i-preserved : goal.loop-i-preserved
loop-i-preserved c = search (copy_turn, rules)

pub returns : goal.returns
returns c = search copy_end
