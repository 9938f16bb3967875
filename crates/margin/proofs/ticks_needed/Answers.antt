use Rattle.std.proofs.Common.{◌≡◌, arith}
use Rattle.margin.proofs.Search.{search_turn, search_hit, search_end}
use Rattle.margin.proofs.ticks_needed.Goals as goal

pub returns-then-demand-t : goal.returns-then-demand-t
returns-then-demand-t c = (search_hit _ _ _ c.loop-t.invariant _ _ _ (omega arith) c.demand_at-demand.ensures.0 (omega arith), omega arith)

pub loop-t-preserved : goal.loop-t-preserved
loop-t-preserved c = search_turn _ _ _ c.loop-t.invariant _ c.requires.0 c.demand_at-demand.ensures.0 (omega arith)

pub returns : goal.returns
returns c =
    let e = c.demand_at.ensures.0 in
    let p : c.from-period.result ≡ c.args.task.period = c.from-period.ensures in
    (search_end _ _ _ c.loop-t.invariant _ _ (omega arith) (rw p at e), c.demand_at.ensures.1)
