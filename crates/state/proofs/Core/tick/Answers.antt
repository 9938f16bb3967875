use Rattle.std.proofs.Common.{rules}
use Rattle.state.proofs.Logs.{serves}
use Rattle.state.proofs.Outcomes.{op_foreign}
use Rattle.state.proofs.Pass.{more_than_64}
use Rattle.state.proofs.Ticking.{Chosen, inside, outside, ticking_start, ticking_turn, ticking_breaks, ticking_foreign, ticking_idles, ticking_left, ticking_serves}
use Rattle.state.proofs.Core.tick.Goals.{then-self-gt0, else-self-gt0}
use Rattle.state.proofs.Core.tick.Goals as goal

pub returns-then-self-gt64-clause-operation : goal.returns-then-self-gt64-clause-operation
returns-then-self-gt64-clause-operation c = op_foreign _ _ c.at.result _ (search (more_than_64, rules)) (search rules) (search rules)

pub returns-then-self-gt64-clause-serves : goal.returns-then-self-gt64-clause-serves
returns-then-self-gt64-clause-serves c = serves _ _ (returns-then-self-gt64-clause-operation c)

pub loop-i-init : goal.loop-i-init
loop-i-init c = ticking_start _ _ (search rules) (search rules) (search rules)

pub returns-then-breaks-clause-operation : goal.returns-then-breaks-clause-operation
returns-then-breaks-clause-operation c = op_foreign _ _ c.at-then-breaks.result _ (ticking_breaks _ _ _ _ c.loop-i.pass c.loop-i-test.true c.loop-i.invariant c.breaks.result (search rules) (search rules)) (search rules) (search rules)

pub returns-then-breaks-clause-serves : goal.returns-then-breaks-clause-serves
returns-then-breaks-clause-serves c = serves _ _ (returns-then-breaks-clause-operation c)

pub loop-i-preserved : goal.loop-i-preserved
loop-i-preserved c = ticking_turn _ _ _ _ c.loop-i.pass c.loop-i-test.true c.loop-i.invariant c.breaks.result (search rules) _ _ _ (search rules) (search rules) (search rules) (search rules)

pub returns-then-ends_foreign-clause-operation : goal.returns-then-ends_foreign-clause-operation
returns-then-ends_foreign-clause-operation c = op_foreign _ _ c.at-then-ends_foreign.result _ (ticking_foreign _ _ _ _ c.loop-i.pass c.loop-i.auto.i-end c.loop-i-test.false c.loop-i.invariant c.ends_foreign.result (search rules) (search rules)) (search rules) (search rules)

pub returns-then-ends_foreign-clause-serves : goal.returns-then-ends_foreign-clause-serves
returns-then-ends_foreign-clause-serves c = serves _ _ (returns-then-ends_foreign-clause-operation c)

pub returns-then-self-first-clause-operation : goal.returns-then-self-first-clause-operation
returns-then-self-first-clause-operation c =
    let d : Chosen c.args.self c.loop-i.pending c.loop-i.pass c.if-self-gt0.first = elim c.if-self-gt0.branch [ then-self-gt0 w ↦ search (inside, rules) | else-self-gt0 w ↦ search (outside, rules) ] in
    ticking_idles _ _ _ _ _ c.loop-i.auto.i-end c.loop-i-test.false c.loop-i.invariant c.ends_foreign.result (search rules) (search rules) _ d (search rules)

pub returns-then-self-first-clause-serves : goal.returns-then-self-first-clause-serves
returns-then-self-first-clause-serves c = serves _ _ (returns-then-self-first-clause-operation c)

pub serve-number-requires-clause-pending : goal.serve-number-requires-clause-pending
serve-number-requires-clause-pending c =
    let d : Chosen c.args.self c.loop-i.pending c.loop-i.pass c.if-self-gt0.first = elim c.if-self-gt0.branch [ then-self-gt0 w ↦ search (inside, rules) | else-self-gt0 w ↦ search (outside, rules) ] in
    ticking_left _ _ _ _ _ c.loop-i.auto.i-end c.loop-i-test.false c.loop-i.invariant c.ends_foreign.result (search rules) (search rules) _ d (search rules)

pub returns-clause-operation : goal.returns-clause-operation
returns-clause-operation c =
    let d : Chosen c.args.self c.loop-i.pending c.loop-i.pass c.if-self-gt0.first = elim c.if-self-gt0.branch [ then-self-gt0 w ↦ search (inside, rules) | else-self-gt0 w ↦ search (outside, rules) ] in
    ticking_serves _ _ _ _ _ c.loop-i.auto.i-end c.loop-i-test.false c.loop-i.invariant c.ends_foreign.result (search rules) (search rules) _ d (search rules) _ _ (search rules) (search rules)

pub returns-clause-serves : goal.returns-clause-serves
returns-clause-serves c = serves _ _ (returns-clause-operation c)
