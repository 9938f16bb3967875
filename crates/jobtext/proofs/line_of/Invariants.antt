use Rattle.jobtext.proofs.Texts.{Seeking}
use Rattle.jobtext.proofs.line_of.Given as goal

abbrev pub invariant-loop-byte : goal.invariant-loop-byte
invariant-loop-byte l = Seeking l.job l.text l.state l.byte-index
