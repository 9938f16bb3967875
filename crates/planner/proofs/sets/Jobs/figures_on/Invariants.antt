use Rattle.std.proofs.Common.{◌≡◌, map, take}
use Rattle.jobs.specs.Jobs.{job_period, job_budget}
use Rattle.planner.proofs.sets.Jobs.figures_on.Given as goal

abbrev pub invariant-loop-i : goal.invariant-loop-i
invariant-loop-i l =
    (l.periods.items ≡ map (job_period l.self.list.now) (take l.i-index l.i-items)) × (l.budgets.items ≡ map (job_budget l.self.list.now) (take l.i-index l.i-items))
