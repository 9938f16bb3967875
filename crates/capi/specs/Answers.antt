-- The C answers: `refusal` is 0 where nothing is refused, else the refusal's number (docs/SHEET.md, section 9); fields that do not apply
-- are 0.
use Rattle.std.specs.Prelude.{ℕ, pos}
use Rattle.checker.specs.Verdict as check
use Rattle.planner.specs.Plan as plan
use Rattle.listing.specs.Answers as list
use Rattle.row.specs.Row as row
use Rattle.margin.specs.Answers as margin
use Rattle.mover.specs.Answers as move
use Rattle.timing.specs.Calls.{Answer, accepted, served, idle, refused}
use Rattle.state.specs.declared.Core.{Core}
use Rattle.capi.specs.declared.Checked.{Checked}
use Rattle.capi.specs.declared.PlanAnswer.{PlanAnswer}
use Rattle.capi.specs.declared.ListAnswer.{ListAnswer}
use Rattle.capi.specs.declared.MoveAnswer.{MoveAnswer}
use Rattle.capi.specs.declared.StepAnswer.{StepAnswer}
use Rattle.capi.specs.declared.Ticked.{Ticked}
use Rattle.capi.specs.declared.RowTicked.{RowTicked}
use Rattle.capi.specs.declared.Margined.{Margined}

-- the number of the layout of structs and signatures of include/homvaits.h; raised whenever one of them changes
unfoldable pub layout : ℕ
layout = 1

-- what the checker, the planner and the listing answer
unfoldable pub checked_of : check.Outcome → Checked
checked_of (check.accepted n c) = record { refusal = 0; place = 0; tasks = n; cores = c }
checked_of (check.refused k p) = record { refusal = k; place = p; tasks = 0; cores = 0 }

unfoldable pub planned_of : plan.Outcome → PlanAnswer
planned_of (plan.written n c s) = record { refusal = 0; place = 0; tasks = n; cores = c; length = s }
planned_of (plan.refused k p) = record { refusal = k; place = p; tasks = 0; cores = 0; length = 0 }

unfoldable pub listed_of : list.Answer → ListAnswer
listed_of (list.written n) = record { refusal = 0; place = 0; length = n }
listed_of (list.refused k p) = record { refusal = k; place = p; length = 0 }

-- what the mover answers
unfoldable pub moved_of : move.Answer → MoveAnswer
moved_of (move.written n) = record { refusal = 0; place = 0; length = n }
moved_of (move.refused k p) = record { refusal = k; place = p; length = 0 }

-- what a start, a release or a finish answers, with the state that it hands back
unfoldable pub stepped_of : Answer → Core → StepAnswer
stepped_of accepted s = record { refusal = 0; place = 0; core = s }
stepped_of (served j) s = record { refusal = 0; place = 0; core = s }
stepped_of idle s = record { refusal = 0; place = 0; core = s }
stepped_of (refused k p) s = record { refusal = k; place = p; core = s }

-- what a tick answers: `task` is the number of the task that got it, or 255 where it was idle
unfoldable pub ticked_of : Answer → Core → Ticked
ticked_of accepted s = record { refusal = 0; free = 0; place = 0; task = 0; free1 = 0; free2 = 0; core = s }
ticked_of (served j) s = record { refusal = 0; free = 0; place = 0; task = j; free1 = 0; free2 = 0; core = s }
ticked_of idle s = record { refusal = 0; free = 0; place = 0; task = 255; free1 = 0; free2 = 0; core = s }
ticked_of (refused k p) s = record { refusal = k; free = 0; place = p; task = 0; free1 = 0; free2 = 0; core = s }

-- what a tick of a row answers
unfoldable pub row_ticked_of : row.Outcome → RowTicked
row_ticked_of row.ticked = record { refusal = 0; place = 0 }
row_ticked_of (row.refused k p) = record { refusal = k; place = p }

-- what `margin` answers
unfoldable pub margined_of : margin.Outcome → Margined
margined_of (margin.ticks m) = record { refusal = 0; place = 0; margin = m }
margined_of (margin.refused k p) = record { refusal = k; place = p; margin = pos 0 }
