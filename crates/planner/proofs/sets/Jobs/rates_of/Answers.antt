use Rattle.std.proofs.Common.{rules, ◌∙◌}
use Rattle.planner.proofs.Fitting.{prioritized}
use Rattle.planner.proofs.Rating.{figures_or, rate_start, rate_turn, rate_end}
use Rattle.planner.proofs.sets.Jobs.rates_of.Goals as goal

pub loop-k-init : goal.loop-k-init
loop-k-init c = search (rate_start, rules)

pub loop-k-preserved : goal.loop-k-preserved
loop-k-preserved c =
    let t = c.args.self.now in
    rw c.from.ensures
    (rate_turn _ _ _ _ _ _ _ _ (prioritized _ _ t.few t.tasks) c.requires c.loop-k-test.true c.loop-k.invariant (c.as_slice.ensures.value ∙ c.tasks_on-tasks.ensures) ((rw c.figures_on.ensures at c.unwrap_or-figures.ensures) ∙ figures_or _) _ c.spread.ensures)

pub returns : goal.returns
returns c = search (rate_end, rules)
