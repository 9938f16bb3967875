use Rattle.capi.proofs.Answers.{kept_on}
use Rattle.capi.proofs.homvaits_start.Goals as goal

pub returns-clause-on_time : goal.returns-clause-on_time
returns-clause-on_time c = kept_on _ _ _ _ c.into.ensures c.start_sheet.ensures.sheet_start.answer c.start_sheet.ensures.on_time
