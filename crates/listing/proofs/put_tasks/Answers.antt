use Rattle.std.proofs.Common.{rules}
use Rattle.sheet.specs.Views.{figures_by}
use Rattle.fit.specs.Lists.{at}
use Rattle.listing.proofs.Lines.{lines_start, tasks_turn}
use Rattle.listing.proofs.put_tasks.Goals as goal

pub loop-i-init : goal.loop-i-init
loop-i-init c = search (lines_start, rules)

pub loop-i-preserved : goal.loop-i-preserved
loop-i-preserved c =
    let position = rw c.from.ensures at c.byte-j.ensures in
    tasks_turn (figures_by c.args.r.now) (at c.args.positions.now) _ _ _ _ _ _ _ _ _ position c.put_task-at.ensures c.loop-i.invariant
