use Rattle.planner.proofs.Rating.{Rating}
use Rattle.planner.proofs.sets.Jobs.rates_of.Given as goal

abbrev pub invariant-loop-k : goal.invariant-loop-k
invariant-loop-k l = Rating l.self.list.now l.a.core l.k l.cores l.factors
