use Rattle.listing.specs.Listing.{refused_line}
use Rattle.listing.proofs.Writing.{capped_join}
use Rattle.listing.proofs.put_refused.Goals as goal

pub returns : goal.returns
unfolding refused_line
returns c = rw (c.from.ensures, c.from-2.ensures) at (capped_join c.put_field.ensures c.put_field-next.ensures)
