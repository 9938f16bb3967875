use Rattle.std.proofs.Common.{rules, arith}
use Rattle.fit.specs.Lists.{numbers, select}
use Rattle.margin.specs.Margin.{tasks_above}
use Rattle.margin.proofs.Gather.{gather_more, count_within}
use Rattle.margin.proofs.tasks_above.Goals as goal

pub loop-j-init : goal.loop-j-init
unfolding tasks_above numbers select
loop-j-init c = search rules

pub loop-j-preserved : goal.loop-j-preserved
loop-j-preserved c =
    let kept = c.loop-j.invariant in
    record {
      items = gather_more _ _ _ _ _ _ c.period-own.ensures c.at-task.ensures _ c.is_above.ensures _ c.from-count.ensures _ _ (omega (arith, kept.size, kept.room, c.loop-j-test.true, c.requires)) kept.items;
      room = omega (arith, kept.room, c.from-count.ensures, count_within c.is_above.result);
      size = search rules;
    }
