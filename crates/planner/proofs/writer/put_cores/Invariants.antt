use Rattle.std.proofs.Common.{◌*◌}
use Rattle.fit.proofs.Laying.{Laid}
use Rattle.planner.specs.Steps.{core_bytes}
use Rattle.planner.proofs.writer.put_cores.Given as goal

abbrev pub invariant-loop-k : goal.invariant-loop-k
invariant-loop-k l = Laid (core_bytes l.cores) 8 l.initial.part l.k (8 * l.k) l.part
