use Rattle.std.proofs.Common.{◌≡◌, ◌+◌, ◌*◌, ◌≤◌, take}
use Rattle.std.specs.Prelude.{sum_by}
use Rattle.margin.specs.Steps.{asked}
use Rattle.margin.proofs.demand_at.Given as goal

abbrev pub invariant-loop-task : goal.invariant-loop-task
invariant-loop-task l = record {
  sum : l.total ≡ l.budget + sum_by (asked l.t) (take l.task-index l.higher);
  bound : l.total ≤ 65535 + 120000 * l.task-index;
}
