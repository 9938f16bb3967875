use Rattle.std.proofs.Common.{rules}
use Rattle.listing.proofs.Sheets.{tasks_few, sheet_long, tasks_long, sheet_fitting, sheet_positions, tasks_room, cores_room, sheet_put}
use Rattle.listing.proofs.put_sheet.Goals as goal

pub slice_bounds-tasks-count : goal.slice_bounds-tasks-count
slice_bounds-tasks-count c = search (sheet_long, rules)

pub slice_bounds-tasks-start : goal.slice_bounds-tasks-start
slice_bounds-tasks-start c = search (sheet_long, rules)

pub slice_bounds-cores-count : goal.slice_bounds-cores-count
slice_bounds-cores-count c = search (tasks_long, rules)

pub slice_bounds-cores-start : goal.slice_bounds-cores-start
slice_bounds-cores-start c = search (tasks_long, rules)

pub put_tasks-at-requires : goal.put_tasks-at-requires
put_tasks-at-requires c =
    (sheet_fitting _ _ _ c.requires.0 _ _ _ _ _ c.is_grouped-grouped.ensures c.is_stroked.ensures c.from.ensures c.cores_of-on.ensures c.positions_of-positions.ensures, sheet_positions _ _ _ c.requires.0 _ _ _ _ _ c.is_grouped-grouped.ensures c.is_stroked.ensures c.from.ensures c.cores_of-on.ensures c.positions_of-positions.ensures, tasks_room _ _ _ c.requires.0 _ _ _ _ c.requires.1 c.put_header-at.auto.out c.put_header-at.ensures)

pub put_cores-requires : goal.put_cores-requires
put_cores-requires c =
    (c.periods_of-periods.ensures, sheet_fitting _ _ _ c.requires.0 _ _ _ _ _ c.is_grouped-grouped.ensures c.is_stroked.ensures c.from.ensures c.cores_of-on.ensures c.positions_of-positions.ensures, tasks_few _ _ _ c.requires.0, cores_room _ _ _ c.requires.0 _ _ _ _ c.requires.1 c.put_header-at.auto.out c.put_header-at.ensures _ _ _ c.put_tasks-at.auto.out c.put_tasks-at.ensures)

pub returns : goal.returns
returns c =
    sheet_put _ _ _ c.requires.0 _ _ _ _ _ c.is_grouped-grouped.ensures c.is_stroked.ensures c.from.ensures c.cores_of-on.ensures c.positions_of-positions.ensures _ _ _ _ _ _ _ _ c.read_word.ensures c.put_cores.ensures c.put_tasks-at.ensures c.put_header-at.ensures
