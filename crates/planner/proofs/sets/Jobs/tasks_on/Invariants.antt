use Rattle.std.proofs.Common.{◌≡◌, take}
use Rattle.fit.specs.Lists.{select, at}
use Rattle.fit.specs.Priority.{is_on}
use Rattle.planner.proofs.sets.Jobs.tasks_on.Given as goal

abbrev pub invariant-loop-i : goal.invariant-loop-i
invariant-loop-i l = l.tasks.items ≡ select (is_on (at l.a.core) l.k) (take l.i-index l.self.order.now)
