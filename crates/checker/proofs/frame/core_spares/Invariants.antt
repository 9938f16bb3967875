use Prim.Native.Nat.{◌+◌, ◌-◌, ◌*◌}
use Rattle.checker.specs.Tests.{core_spares}
use Rattle.checker.proofs.Spares.{To}
use Rattle.checker.proofs.frame.core_spares.Given as goal

abbrev pub invariant-loop-k : goal.invariant-loop-k
invariant-loop-k l = To l.records (core_spares l.grouped (10 * l.n) l.c) (core_spares l.grouped (10 * l.n + 8 * l.k) (l.c - l.k))
