use Rattle.std.proofs.Common.{rules}
use Rattle.fit.proofs.Laying.{lay_start, lay_end}
use Rattle.planner.proofs.Writing.{core_turn}
use Rattle.planner.proofs.writer.put_cores.Goals as goal

pub loop-k-init : goal.loop-k-init
loop-k-init c = search (lay_start, rules)

pub loop-k-preserved : goal.loop-k-preserved
loop-k-preserved c = search (core_turn, rules)

pub returns : goal.returns
returns c = search (lay_end, rules)
