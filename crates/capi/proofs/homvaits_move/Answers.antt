use Rattle.capi.proofs.Moved.{moved_runs}
use Rattle.capi.proofs.homvaits_move.Goals as goal

pub returns-clause-runs_alike : goal.returns-clause-runs_alike
returns-clause-runs_alike c = moved_runs c.move_sheet.result _ _ _ c.into.ensures c.move_sheet.ensures.moves
