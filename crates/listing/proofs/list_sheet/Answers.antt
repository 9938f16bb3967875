use Rattle.listing.proofs.Sheets.{tight_out, refused_out, accepted_out}
use Rattle.listing.proofs.list_sheet.Goals as goal
use Rattle.listing.proofs.list_sheet.Goals.{in-Err, in-Ok}

pub returns-then-out-lt8192-clause-listed : goal.returns-then-out-lt8192-clause-listed
returns-then-out-lt8192-clause-listed c = rw c.at.ensures (tight_out _ _ c.if-out-lt8192.true)

pub returns-clause-listed : goal.returns-clause-listed
returns-clause-listed c =
    elim c.match-check.branch [
      | in-Err w ↦ rw (w.out-is, w.length-is) (refused_out _ _ _ _ _ c.if-out-lt8192.false c.check.ensures _ _ w.in-Err.is w.from.ensures w.put_refused-length.ensures)
      | in-Ok w ↦ rw (w.out-is, w.length-is) (accepted_out _ _ _ _ _ c.if-out-lt8192.false c.check.ensures _ w.in-Ok.is w.put_sheet-length.ensures)
    ]
