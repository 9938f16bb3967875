use Rattle.std.proofs.Common.{rules}
use Rattle.dispatcher.proofs.Starts.{sheet_refused, sheet_no_core, sheet_header, sheet_few, sheet_records, sheet_starts, sheet_timely}
use Rattle.dispatcher.proofs.start_sheet.Goals as goal

pub returns-in-Err-clause-sheet_start : goal.returns-in-Err-clause-sheet_start
returns-in-Err-clause-sheet_start c = search (sheet_refused, rules)

pub returns-then-from-core-clause-sheet_start : goal.returns-then-from-core-clause-sheet_start
returns-then-from-core-clause-sheet_start c = sheet_no_core _ _ _ c.check.ensures c.in-Ok.counts c.in-Ok.is _ c.from.ensures c.at.result c.empty-state.result _ (search rules) (search rules) (search rules) (search rules)

pub slice_bounds-fill_from_sheet-count : goal.slice_bounds-fill_from_sheet-count
slice_bounds-fill_from_sheet-count c = sheet_header _ c.args.core _ c.check.ensures c.in-Ok.counts c.in-Ok.is _ c.from.ensures (search rules)

pub slice_bounds-fill_from_sheet-start : goal.slice_bounds-fill_from_sheet-start
slice_bounds-fill_from_sheet-start c = search (slice_bounds-fill_from_sheet-count c, rules)

pub fill_from_sheet-requires-clause-room : goal.fill_from_sheet-requires-clause-room
fill_from_sheet-requires-clause-room c = (sheet_few _ c.args.core _ c.check.ensures c.in-Ok.counts c.in-Ok.is _ c.from.ensures (search rules), sheet_records _ c.args.core _ c.check.ensures c.in-Ok.counts c.in-Ok.is _ c.from.ensures (search rules))

pub returns-clause-sheet_start : goal.returns-clause-sheet_start
returns-clause-sheet_start c = sheet_starts _ _ _ c.check.ensures c.in-Ok.counts c.in-Ok.is _ c.from.ensures (search rules) _ _ _ c.is_grouped-grouped.ensures c.is_stroked-stroked.ensures (search rules)

pub returns-clause-on_time : goal.returns-clause-on_time
returns-clause-on_time c = sheet_timely _ _ _ c.check.ensures c.in-Ok.counts c.in-Ok.is _ c.from.ensures (search rules) _ _ _ c.is_grouped-grouped.ensures c.is_stroked-stroked.ensures (search rules)
