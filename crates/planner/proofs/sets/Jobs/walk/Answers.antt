use Rattle.std.proofs.Common.{rules, ap, sym}
use Rattle.planner.specs.Steps.{fitted}
use Rattle.planner.proofs.Fitting.{walk_start, walk_stop, walk_turn, walk_end}
use Rattle.planner.proofs.sets.Jobs.walk.Goals as goal

pub loop-i-init : goal.loop-i-init
loop-i-init c = search (walk_start, rules)

pub returns-in_default : goal.returns-in_default
returns-in_default c = rw (walk_stop _ _ _ _ _ c.loop-i.invariant c.loop-i-test.true c.in_default.ensures) (rw (c.at.ensures, c.from.ensures))

pub loop-i-preserved : goal.loop-i-preserved
loop-i-preserved c = walk_turn _ _ _ _ _ c.loop-i.invariant c.loop-i-test.true _ _ c.in-Some.ensures c.with-a.ensures

pub returns : goal.returns
returns c = sym (ap fitted (walk_end _ _ _ _ _ c.loop-i.invariant c.loop-i-test.false))
