use Rattle.std.proofs.Common.{rules}
use Rattle.checker.specs.Tests.{bad_version}
use Rattle.checker.proofs.Mark.{known, unknown}
use Rattle.checker.proofs.frame.is_other_version.Goals.{in-1-to-3, in_default, in_default-2}
use Rattle.checker.proofs.frame.is_other_version.Goals as goal

pub returns : goal.returns
unfolding bad_version
returns c = elim c.if-matches.branch [ in-1-to-3 w ↦ rw (w.matches-is, ← c.read_word.ensures, known c.read_word.result (search rules) (search rules)) | in_default w ↦ rw (w.matches-is, ← c.read_word.ensures, unknown c.read_word.result (λ a b. absurd (search rules))) | in_default-2 w ↦ rw (w.matches-is, ← c.read_word.ensures, unknown c.read_word.result (λ a b. absurd (search rules))) ]
