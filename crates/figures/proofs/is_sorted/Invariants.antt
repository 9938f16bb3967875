use Rattle.std.proofs.Common.{◌≡◌, drop}
use Rattle.figures.specs.Passing.{sorted_periods}
use Rattle.figures.proofs.is_sorted.Given as goal

abbrev pub invariant-loop-p : goal.invariant-loop-p
invariant-loop-p l = sorted_periods 1 l.periods ≡ sorted_periods l.before (drop l.p-index l.periods)
