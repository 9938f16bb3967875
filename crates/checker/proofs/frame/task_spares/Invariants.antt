use Prim.Native.Nat.{◌-◌, ◌*◌}
use mathlib.Core.Bool.{false}
use Rattle.checker.specs.Tests.{task_spares}
use Rattle.checker.proofs.Spares.{To}
use Rattle.checker.proofs.frame.task_spares.Given as goal

abbrev pub invariant-loop-i : goal.invariant-loop-i
invariant-loop-i l = To l.records (task_spares l.stroked 0 l.n) (task_spares false (10 * l.i) (l.n - l.i))
