use Rattle.std.proofs.Common.{◌≡◌, ◌≤◌, length, take}
use Rattle.std.specs.Prelude.{map}
use Rattle.fit.specs.Lists.{numbers}
use Rattle.jobs.specs.Jobs.{job_period, job_budget}
use Rattle.margin.specs.Margin.{tasks_above}
use Rattle.margin.specs.Steps.{task_at}
use Rattle.margin.proofs.tasks_above.Given as goal

abbrev pub invariant-loop-j : goal.invariant-loop-j
invariant-loop-j l = record {
  items : take l.count l.higher.tasks ≡ map (task_at (job_period l.list) (job_budget l.list)) (tasks_above (job_period l.list) (numbers 0 l.j) l.i);
  room : l.count ≤ l.j;
  size : length l.higher.tasks ≡ 64;
}
