use Rattle.checker.specs.Verdict.{verdict, outcome}
use Rattle.checker.proofs.Tables.{answered}
use Rattle.checker.proofs.check.Goals as goal

pub returns-in_err-all_rules : goal.returns-in_err-all_rules
unfolding verdict outcome
returns-in_err-all_rules c = answered _ _ c.from_residual.ensures.1 (rw (← c.in_err-all_rules.ensures))

pub returns : goal.returns
unfolding verdict outcome
returns c = rw (← c.in_ok-all_rules.ensures, c.byte.ensures, c.byte-2.ensures)
