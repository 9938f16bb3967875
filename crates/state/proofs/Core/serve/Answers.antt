use Rattle.std.proofs.Common.{rules}
use Rattle.timing.specs.Tasks.{used, with_job}
use Rattle.state.proofs.Outcomes.{number_none, number_some, stroke_written}
use Rattle.state.proofs.Core.serve.Goals.{then-left-eq0, else-left-eq0}
use Rattle.state.proofs.Core.serve.Goals as goal

pub returns-clause-state : goal.returns-clause-state
unfolding used with_job
returns-clause-state c = stroke_written c.args.self.now c.args.at _ _ c.if-left-eq0.task c.ticks_after-left.ensures (elim c.if-left-eq0.branch [ then-left-eq0 w ↦ search (number_none, rules) | else-left-eq0 w ↦ search (number_some, rules) ])
