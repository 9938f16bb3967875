use Rattle.std.proofs.Common.{◌+◌, ◌-◌}
use Rattle.margin.proofs.Search.{Unmet}
use Rattle.margin.proofs.ticks_needed.Given as goal

abbrev pub invariant-loop-t : goal.invariant-loop-t
invariant-loop-t l = Unmet l.higher l.task.budget l.t

abbrev pub decreases-loop-t : goal.decreases-loop-t
decreases-loop-t l = l.period + 1 - l.t
