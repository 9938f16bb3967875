use Rattle.listing.proofs.Figures.{no_break, full_positive, load_full, full_range, load_found}
use Rattle.listing.proofs.load_of.Goals as goal

pub returns-in_default : goal.returns-in_default
returns-in_default c = absurd (no_break _ _ _ _ c.requires.0 c.requires.2 c.requires.3 c.requires.1 c.chain_of.ensures _ c.in_default.is)

pub in_thousandths-requires : goal.in_thousandths-requires
in_thousandths-requires c = (search full_positive, search load_full, search full_range)

pub returns : goal.returns
returns c = search load_found
