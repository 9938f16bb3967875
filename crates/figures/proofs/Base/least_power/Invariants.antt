use Prim.Native.Nat.{◌-◌}
use Rattle.figures.proofs.Climbs.{Reach}
use Rattle.figures.proofs.Base.least_power.Given as goal

abbrev pub invariant-loop-reach : goal.invariant-loop-reach
invariant-loop-reach l = Reach l.self.number l.q l.p l.power l.reach

abbrev pub decreases-loop-reach : goal.decreases-loop-reach
decreases-loop-reach l = l.q - l.reach
