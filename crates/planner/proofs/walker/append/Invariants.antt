use Rattle.std.proofs.Common.{◌≡◌, ◌++◌, take}
use Rattle.planner.proofs.walker.append.Given as goal

abbrev pub invariant-loop-i : goal.invariant-loop-i
invariant-loop-i l = l.order.items ≡ l.initial.order.items ++ take l.i-index l.part
