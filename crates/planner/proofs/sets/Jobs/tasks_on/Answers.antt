use Rattle.std.proofs.Common.{rules}
use Rattle.planner.proofs.Gathering.{select_room}
use Rattle.planner.proofs.Fitting.{prioritized, prioritized_few}
use Rattle.planner.proofs.sets.Jobs.tasks_on.Goals as goal

pub push-requires : goal.push-requires
push-requires c =
    let p = prioritized _ _ c.args.self.now.few c.args.self.now.tasks in
    (search rules, rw c.loop-i.invariant (select_room _ _ _ _ c.loop-i-test.true (prioritized_few _ _ p)))
