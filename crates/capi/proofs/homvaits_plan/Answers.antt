use Rattle.capi.proofs.Planned.{runs_on_time}
use Rattle.capi.proofs.homvaits_plan.Goals as goal

pub returns-clause-on_time : goal.returns-clause-on_time
returns-clause-on_time c = runs_on_time c.plan.result _ _ _ _ _ _ c.into.ensures c.plan.ensures.result_value c.plan.ensures.out_after c.plan.ensures.accepting
