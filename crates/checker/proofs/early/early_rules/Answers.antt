use mathlib.Core.Path.{refl}
use Rattle.sheet.proofs.Scans.{part_skip}
use Rattle.checker.specs.Steps.{early_rows}
use Rattle.checker.proofs.Sound.{to_order, past_order}
use Rattle.checker.proofs.Tables.{whole_err, whole_ok, part_err}
use Rattle.checker.proofs.early.early_rules.Goals as goal

pub returns-in_err-refuse_if : goal.returns-in_err-refuse_if
returns-in_err-refuse_if c = to_order _ (c.all_sound.ensures c.if-all_sound.true) _ _ (whole_err _ c.from_residual.ensures.1 c.in_err-refuse_if.was _ _ _ _ c.refuse_if.ensures refl)

pub bare_rules-requires : goal.bare_rules-requires
bare_rules-requires c = c.all_sound.ensures c.if-all_sound.true

pub returns-then-all_sound : goal.returns-then-all_sound
returns-then-all_sound c =
    let all = c.all_sound.ensures c.if-all_sound.true in
    to_order _ all _ _ (whole_ok c.in_ok-refuse_if.was _ _ _ _ _ c.refuse_if.ensures refl (past_order _ all _ c.bare_rules.ensures))

pub returns-in_err-task_rules : goal.returns-in_err-task_rules
unfolding early_rows
returns-in_err-task_rules c = part_err _ c.from_residual-in_err-task_rules.ensures.1 c.in_err-task_rules.was _ _ c.task_rules.ensures

pub returns : goal.returns
unfolding early_rows
returns c = part_skip _ _ _ _ _ c.task_rules.ensures c.in_ok-task_rules.was c.core_rules.ensures
