use Rattle.sheet.proofs.Scans.{scan_hit, scan_skip}
use Rattle.fit.proofs.Lists.{part}
use Rattle.checker.specs.Rules.{spare_rows}
use Rattle.checker.proofs.Spares.{header_hit, header_clear}
use Rattle.checker.proofs.Tables.{row_err, row_ok, row_end}
use Rattle.checker.proofs.frame.spare_rules.Goals as goal

pub returns-then-byte-ne0 : goal.returns-then-byte-ne0
unfolding spare_rows
returns-then-byte-ne0 c = rw c.at.ensures (scan_hit 6 7 _ _ (header_hit _ _ c.byte.ensures c.if-byte-ne0.true))

pub returns-in_err-task_spares : goal.returns-in_err-task_spares
unfolding spare_rows
returns-in_err-task_spares c =
    scan_skip 6 _ _ _ (header_clear _ _ c.byte.ensures c.if-byte-ne0.false)
    (row_err _ c.from_residual.ensures.1 c.in_err-task_spares.was _ _ _ _ c.task_spares.ensures (rw (part c.args.sheet.now 8, c.byte-n.ensures, c.is_stroked.ensures)))

pub returns : goal.returns
unfolding spare_rows
returns c =
    scan_skip 6 _ _ _ (header_clear _ _ c.byte.ensures c.if-byte-ne0.false)
    (row_ok c.in_ok-task_spares.was _ _ _ _ _ c.task_spares.ensures (rw (part c.args.sheet.now 8, c.byte-n.ensures, c.is_stroked.ensures))
    (row_end _ _ _ _ c.core_spares.ensures (rw (part c.args.sheet.now 8, c.byte-n.ensures, c.byte-c.ensures, c.is_grouped.ensures))))
