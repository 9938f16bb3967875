use mathlib.Core.Path.{◌∙◌}
use Rattle.std.proofs.Common.{arith}
use Rattle.sheet.proofs.Scans.{part_skip}
use Rattle.checker.proofs.Parts.{held_rows, held_ready}
use Rattle.checker.proofs.Tables.{part_err}
use Rattle.checker.proofs.record_rules.Goals.{then-grouped, else-grouped}
use Rattle.checker.proofs.record_rules.Goals as goal

pub returns-in_err-early_rules : goal.returns-in_err-early_rules
returns-in_err-early_rules c = part_err _ c.from_residual.ensures.1 c.in_err-early_rules.was _ _ c.early_rules.ensures ∙ held_rows c.args.sheet.now c.requires (λ i. omega (arith, c.type_inv.sheet i)) _ _ _ _ _ c.is_grouped-grouped.ensures c.is_stroked.ensures c.byte-n.ensures c.from.ensures c.byte-c.ensures _ c.cores_of-on.ensures _ (elim c.if-grouped.branch [ then-grouped w ↦ w.misordered-is ∙ rw (w.if-grouped.true, w.is_misordered-misordered.ensures) | else-grouped w ↦ w.misordered-is ∙ rw w.if-grouped.false ])

pub fit_rules-requires : goal.fit_rules-requires
fit_rules-requires c = held_ready c.args.sheet.now c.requires (λ i. omega (arith, c.type_inv.sheet i)) _ _ _ _ _ c.is_grouped-grouped.ensures c.is_stroked.ensures c.byte-n.ensures c.from.ensures c.byte-c.ensures _ c.cores_of-on.ensures _ (elim c.if-grouped.branch [ then-grouped w ↦ w.misordered-is ∙ rw (w.if-grouped.true, w.is_misordered-misordered.ensures) | else-grouped w ↦ w.misordered-is ∙ rw w.if-grouped.false ]) c.in_ok-early_rules.ensures

pub returns : goal.returns
returns c = part_skip _ _ _ _ _ c.early_rules.ensures c.in_ok-early_rules.was c.fit_rules.ensures ∙ held_rows c.args.sheet.now c.requires (λ i. omega (arith, c.type_inv.sheet i)) _ _ _ _ _ c.is_grouped-grouped.ensures c.is_stroked.ensures c.byte-n.ensures c.from.ensures c.byte-c.ensures _ c.cores_of-on.ensures _ (elim c.if-grouped.branch [ then-grouped w ↦ w.misordered-is ∙ rw (w.if-grouped.true, w.is_misordered-misordered.ensures) | else-grouped w ↦ w.misordered-is ∙ rw w.if-grouped.false ])
