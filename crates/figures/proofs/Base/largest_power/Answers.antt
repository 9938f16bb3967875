use Rattle.std.proofs.Common.{rules, arith}
use Rattle.figures.proofs.Climbs.{climb_less, climb_turn, climb_end}
use Rattle.figures.proofs.Base.largest_power.Goals as goal

pub loop-next-smaller : goal.loop-next-smaller
loop-next-smaller c = climb_less _ _ _ _ c.args.self.low c.args.self.high c.requires.0 c.requires.1 _ c.loop-next.invariant (omega arith)

pub loop-next-preserved : goal.loop-next-preserved
loop-next-preserved c = climb_turn _ _ _ _ c.args.self.low c.args.self.high c.requires.0 c.requires.1 _ c.loop-next.invariant (omega arith)

pub returns : goal.returns
returns c = search (climb_end, rules)
