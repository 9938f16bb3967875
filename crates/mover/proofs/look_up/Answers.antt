use Rattle.std.proofs.Common.{rules}
use Rattle.fit.proofs.Sorting.{fill_start, fill_turn, fill_end}
use Rattle.mover.proofs.Arranging.{found_at}
use Rattle.mover.proofs.look_up.Goals as goal

pub loop-i-init : goal.loop-i-init
loop-i-init c = search (fill_start, rules)

pub loop-i-preserved : goal.loop-i-preserved
loop-i-preserved c = search (fill_turn, found_at, rules)

pub returns : goal.returns
returns c = search (fill_end, rules)
