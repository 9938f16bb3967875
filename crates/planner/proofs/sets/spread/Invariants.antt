use Rattle.std.proofs.Common.{◌≡◌, drop}
use Rattle.planner.specs.Steps.{spread}
use Rattle.planner.proofs.sets.spread.Given as goal

abbrev pub invariant-loop-place : goal.invariant-loop-place
invariant-loop-place l = spread l.own l.list 0 l.initial.factors ≡ spread l.own (drop l.place l.list) l.place l.factors
