use native.Mathlib.Omega.{arith}
use Rattle.listing.proofs.Decimals.{number_room, number_one, number_fits, number_inside, number_put}
use Rattle.listing.proofs.put_number.Goals as goal

pub bounds-out-at : goal.bounds-out-at
bounds-out-at c = number_room _ _ _ c.requires

pub returns-then-x-lt10 : goal.returns-then-x-lt10
returns-then-x-lt10 c = number_one _ _ _ _ c.if-x-lt10.true (omega arith) (number_room _ _ _ c.requires)

pub write_digits-requires : goal.write_digits-requires
write_digits-requires c =
    (number_fits _ _ _ _ _ _ (omega (arith, c.if-x-lt10.false)) c.ilog10.ensures.power_le c.ilog10.ensures.next_power_gt c.ranges.x c.from.ensures c.requires, number_inside _ _ _ _ _ _ (omega (arith, c.if-x-lt10.false)) c.ilog10.ensures.power_le c.ilog10.ensures.next_power_gt c.ranges.x c.from.ensures c.requires)

pub returns : goal.returns
returns c = number_put _ _ _ _ _ _ (omega (arith, c.if-x-lt10.false)) c.ilog10.ensures.power_le c.ilog10.ensures.next_power_gt c.ranges.x c.from.ensures c.requires _ _ c.write_digits.ensures.start c.write_digits.ensures.written c.write_digits.ensures.before
