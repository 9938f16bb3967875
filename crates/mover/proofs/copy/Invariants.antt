use Rattle.mover.proofs.Records.{Copied}
use Rattle.mover.proofs.copy.Given as goal

abbrev pub invariant-loop-i : goal.invariant-loop-i
invariant-loop-i l = Copied l.from l.a l.initial.part l.i l.part
