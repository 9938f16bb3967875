use mathlib.Core.Path.{◌∙◌}
use Rattle.std.proofs.Common.{rules}
use Rattle.checker.specs.Rules.{core_rows}
use Rattle.sheet.proofs.Scans.{scan_skip}
use Rattle.checker.proofs.Sound.{factors_clear, stretch_clear, behind}
use Rattle.checker.proofs.Tables.{first_of, core_err, core_ok, core_end}
use Rattle.checker.proofs.early.bare_rules.Goals as goal

pub returns-in_err-refuse_core : goal.returns-in_err-refuse_core
unfolding core_rows
returns-in_err-refuse_core c = core_err _ c.from_residual.ensures.1 c.in_err-refuse_core.was _ _ _ _ c.refuse_core.ensures c.first_bare.ensures

pub returns : goal.returns
unfolding core_rows
returns c =
    core_ok c.in_ok-refuse_core.was _ _ _ _ _ c.refuse_core.ensures c.first_bare.ensures
    (scan_skip 11 _ _ _ (factors_clear _ c.requires) (core_end _ _ _ _ c.refuse_core-2.ensures (first_of _ _ _ _ _ c.find.ensures.ran (λ x b p k. search rules)) ∙ behind 11 12 _ _ (stretch_clear _ c.requires)))
