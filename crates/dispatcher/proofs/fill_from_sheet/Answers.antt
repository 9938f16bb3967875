use Rattle.std.proofs.Common.{rules, ap, drop, ◌*◌}
use mathlib.Core.Path.{◌∙◌}
use Rattle.fit.proofs.Lists.{part}
use Rattle.sheet.specs.Records.{period_at, budget_at}
use Rattle.sheet.specs.Views.{stroke_of_position, number_of_position}
use Rattle.dispatcher.specs.Starts.{fresh_task}
use Rattle.dispatcher.specs.Steps.{fresh_by}
use Rattle.dispatcher.proofs.Starting.{fresh_core}
use Rattle.dispatcher.proofs.fill_from_sheet.Goals as goal

pub returns : goal.returns
unfolding fresh_by
returns c =
    let r = c.args.records.now in
    fresh_core c.args.grouped c.args.stroked r _ _ _ _ c.args.n c.args.c c.args.k _ (search rules) (part r _ ∙ ap (λ m. drop (10 * m) r) c.from.ensures) c.cores_of-on.ensures c.periods_of-periods.ensures c.on_core-order.ensures.tasks (c.fill.ensures (λ j. fresh_task (period_at r j) (budget_at r j) (stroke_of_position c.args.stroked r j) (number_of_position c.args.grouped r j)) (λ j u l k. search rules))
