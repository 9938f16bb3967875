use Rattle.listing.proofs.Writing.{capped_join}
use Rattle.listing.proofs.Lines.{core_line_lem}
use Rattle.listing.proofs.put_core.Goals as goal

pub returns : goal.returns
returns c =
    let fields = capped_join c.put_field.ensures (capped_join c.put_field-next-3.ensures (capped_join c.put_field-next-2.ensures c.put_field-next.ensures)) in
    core_line_lem _ _ _ _ _ _ _ _ _ _ (rw (c.from.ensures, c.from-2.ensures) at fields) c.pivot.ensures c.divisor.ensures c.load_of-load.ensures
