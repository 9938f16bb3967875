use Prim.Native.Nat.{◌*◌}
use Rattle.fit.proofs.Laying.{Laid}
use Rattle.mover.specs.Steps.{task_bytes}
use Rattle.mover.proofs.put_tasks.Given as goal

abbrev pub invariant-loop-i : goal.invariant-loop-i
invariant-loop-i l = Laid (task_bytes l.tasks l.from l.byte4) 10 l.initial.part l.i (10 * l.i) l.part
