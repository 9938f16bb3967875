use Rattle.std.proofs.Common.{rules}
use Rattle.row.proofs.Outcomes.{too_short, found_foreign, all_ticked}
use Rattle.row.proofs.Runs.{row_runs}
use Rattle.row.proofs.tick_row.Goals as goal

pub returns-then-answers-row : goal.returns-then-answers-row
returns-then-answers-row c =
    let o = too_short c.args.row.now c.args.answers.now c.at.result c.if-answers-row.true c.at.ensures in
    record { answer = o.answer; states = o.states; bytes = o.bytes; runs = row_runs c.args.row.now }

pub returns-in-Some : goal.returns-in-Some
returns-in-Some c =
    let o = found_foreign c.args.row.now c.args.answers.now c.if-answers-row.false c.in-Some.at c.at-in-Some.result (search rules) c.at-in-Some.ensures in
    record { answer = o.answer; states = o.states; bytes = o.bytes; runs = row_runs c.args.row.now }

pub returns : goal.returns
returns c =
    let o = all_ticked c.args.row.now c.args.answers.now c.if-answers-row.false (search rules) _ _ c.tick_each.ensures.states c.tick_each.ensures.bytes in
    record { answer = o.answer; states = o.states; bytes = o.bytes; runs = row_runs c.args.row.now }
