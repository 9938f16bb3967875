use Rattle.sheet.specs.Table.{scan}
use Rattle.fit.specs.Lists.{find}
use Rattle.checker.specs.Rules.{offset}
use Rattle.checker.proofs.Spares.{set_byte, clear_byte}
use Rattle.checker.proofs.frame.spare.Goals as goal

pub returns-then-byte-ne0 : goal.returns-then-byte-ne0
unfolding scan find offset
returns-then-byte-ne0 c = rw (c.at.ensures, set_byte _ _ _ c.byte.ensures c.if-byte-ne0.true)

pub returns : goal.returns
unfolding scan find offset
returns c = rw (clear_byte _ _ _ c.byte.ensures c.if-byte-ne0.false)
