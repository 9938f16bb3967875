use Prim.Native.Nat.{suc, ◌-◌}
use Rattle.figures.proofs.Climbs.{Climb}
use Rattle.figures.proofs.Base.largest_power.Given as goal

abbrev pub invariant-loop-next : goal.invariant-loop-next
invariant-loop-next l = Climb l.self.number l.q l.limit l.power l.next

abbrev pub decreases-loop-next : goal.decreases-loop-next
decreases-loop-next l = suc l.limit - l.next
