use Rattle.listing.specs.Listing.{header_line}
use Rattle.listing.proofs.Writing.{capped_join}
use Rattle.listing.proofs.put_header.Goals as goal

pub returns : goal.returns
unfolding header_line
returns c = rw (c.from.ensures, c.from-2.ensures, c.from-3.ensures) at (capped_join c.put_field.ensures (capped_join c.put_field-next-2.ensures c.put_field-next.ensures))
