use Rattle.checker.proofs.Judging.{order_standing, order_ranked}
use Rattle.std.proofs.Common.{rules}
use Rattle.checker.proofs.fits.order_of.Goals as goal

pub returns-then-sorted : goal.returns-then-sorted
returns-then-sorted c = order_standing _ _ c.requires.0 (c.requires.1 c.if-sorted.true) c.standing.ensures

pub returns : goal.returns
returns c = search (order_ranked, rules)
