use Rattle.std.proofs.Common.{rules, arith}
use Rattle.std.proofs.lemmas.Int.{ints}
use Rattle.margin.proofs.Results.{above_ranged, above_margin, period_most}
use Rattle.margin.proofs.margin_of.Goals as goal

pub ticks_needed-needed-requires : goal.ticks_needed-needed-requires
ticks_needed-needed-requires c =
    let higher = c.tasks_above-higher.ensures in
    (above_ranged _ _ _ c.requires.0 c.requires.1 _ higher.tasks, search rules, period_most _ _ _ c.requires.0 c.requires.1 _ higher.tasks _ c.at-task.ensures c.requires.2)

pub returns : goal.returns
returns c =
    above_margin _ _ _ c.requires.0 c.requires.1 _ c.tasks_above-higher.ensures.tasks _ _ c.ticks_needed-needed.result c.at-task.ensures (omega (arith, ints)) c.ticks_needed-needed.ensures.0
