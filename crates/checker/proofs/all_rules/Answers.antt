use Rattle.std.proofs.Common.{arith}
use Rattle.sheet.proofs.Scans.{part_skip}
use Rattle.checker.specs.Rules.{rules}
use Rattle.checker.proofs.Acceptance.{frame_kept}
use Rattle.checker.proofs.Tables.{part_err}
use Rattle.checker.proofs.all_rules.Goals as goal

pub returns-in_err-framing : goal.returns-in_err-framing
unfolding rules
returns-in_err-framing c = part_err _ c.from_residual.ensures.1 c.in_err-framing.was _ _ c.framing.ensures

pub spare_rules-requires : goal.spare_rules-requires
spare_rules-requires c = omega (arith, (frame_kept _ c.in_ok-framing.ensures).size)

pub returns-in_err-spare_rules : goal.returns-in_err-spare_rules
unfolding rules
returns-in_err-spare_rules c = part_skip _ _ _ _ _ c.framing.ensures c.in_ok-framing.was (part_err _ c.from_residual-in_err-spare_rules.ensures.1 c.in_err-spare_rules.was _ _ c.spare_rules.ensures)

pub record_rules-requires : goal.record_rules-requires
record_rules-requires c = frame_kept _ c.in_ok-framing.ensures

pub returns : goal.returns
unfolding rules
returns c = part_skip _ _ _ _ _ c.framing.ensures c.in_ok-framing.was (part_skip _ _ _ _ _ c.spare_rules.ensures c.in_ok-spare_rules.was c.record_rules.ensures)
