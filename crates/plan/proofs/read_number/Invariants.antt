use Rattle.plan.proofs.Numbers.{Reading}
use Rattle.plan.proofs.read_number.Given as goal

abbrev pub invariant-loop-byte : goal.invariant-loop-byte
invariant-loop-byte l = Reading l.text l.number l.byte-index
