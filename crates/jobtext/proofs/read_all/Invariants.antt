use Rattle.jobtext.proofs.Texts.{Reading}
use Rattle.jobtext.proofs.read_all.Given as goal

abbrev pub invariant-loop-byte : goal.invariant-loop-byte
invariant-loop-byte l = Reading l.room l.text l.state l.byte-index
