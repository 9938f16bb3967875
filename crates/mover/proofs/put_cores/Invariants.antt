use Prim.Native.Nat.{◌*◌}
use Rattle.fit.proofs.Laying.{Laid}
use Rattle.mover.specs.Steps.{core_bytes}
use Rattle.mover.proofs.put_cores.Given as goal

abbrev pub invariant-loop-k : goal.invariant-loop-k
invariant-loop-k l = Laid (core_bytes l.cores l.counts) 8 l.initial.part l.k (8 * l.k) l.part
