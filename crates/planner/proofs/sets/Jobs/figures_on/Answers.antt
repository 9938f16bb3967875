use Rattle.std.proofs.Common.{◌∙◌}
use Rattle.planner.proofs.Fitting.{prioritized, figures_found}
use Rattle.planner.proofs.sets.Jobs.figures_on.Goals as goal

pub returns : goal.returns
returns c =
    let t = c.args.self.now in
    figures_found _ _ _ _ _ _ _ _ _ (prioritized _ _ t.few t.tasks) (c.as_slice-i-items.ensures.value ∙ c.tasks_on-tasks.ensures) c.loop-i-test.false c.loop-i.invariant.0 c.loop-i.invariant.1 (rw (c.as_slice.ensures.value, c.as_slice-2.ensures.value) at c.first_passing.ensures)
