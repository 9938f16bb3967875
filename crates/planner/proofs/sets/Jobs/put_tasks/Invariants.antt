use Rattle.std.proofs.Common.{◌*◌}
use Rattle.fit.proofs.Laying.{Laid}
use Rattle.planner.specs.Steps.{task_bytes}
use Rattle.planner.proofs.sets.Jobs.put_tasks.Given as goal

abbrev pub invariant-loop-i : goal.invariant-loop-i
invariant-loop-i l = Laid (task_bytes l.self.list.now l.a.core l.factors) 10 l.initial.part l.i (10 * l.i) l.part
