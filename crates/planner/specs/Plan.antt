-- The planner's refusals in their order, its answer, and what it leaves in the lent buffer (docs/SHEET.md, section 5).
use Rattle.std.specs.Prelude.{ℕ, ◌≡◌, Bool, not, cond, List, [], ◌∷◌, ◌++◌, length, take, leb, ltb, eqb}
use Rattle.std.specs.Prelude.{Option, None, Some}
use Rattle.sheet.specs.Refusals.{number_of}
use Rattle.sheet.specs.Table.{Refused, Row, ◌at◌, scan, whole}
use Rattle.fit.specs.declared.By.TheVariants.{Ring}
use Rattle.fit.specs.Lists.{over}
use Rattle.fit.specs.Ring.{order_by}
use Rattle.jobs.specs.Jobs.{job_count, job_period, job_budget, list_rows}
use Rattle.checker.specs.Verdict.{verdict, accepted}
use Rattle.planner.specs.FirstFit.{rotate, unassigned, Fit, placed, unplaced, first_fit}
use Rattle.planner.specs.Sheet.{sheet_of}
use Rattle.std.specs.Prelude.{Result, Ok, Err}
use Rattle.sheet.specs.declared.Rejection.{Rejection}
use Rattle.planner.specs.declared.Planned.{Planned}

-- first fit over the ring of a job list, walked from a start
unfoldable pub fit_of : List ℕ → ℕ → ℕ → Fit
fit_of l limit start =
    first_fit (job_period l) (job_budget l) (job_count l) limit (rotate start (order_by Ring (job_period l) (job_count l))) unassigned

-- 22 Start: the start is not below n, or not 0 where n is 0
unfoldable pub bad_start : ℕ → ℕ → Bool
bad_start n start = cond (eqb n 0) (not (eqb start 0)) (leb n start)

-- 15 No fit: the task that finds no core
unfoldable pub no_fit : Fit → Option ℕ
no_fit (placed a) = None
no_fit (unplaced i) = Some i

-- 5, 4, 7 and 8 of the job list, 22 Start, 16 Tight (room for fewer than 712 bytes): told before any core is looked for
unfoldable pub call_rows : List ℕ → ℕ → ℕ → ℕ → List Row
call_rows l limit start room = list_rows limit l ++ (22 at whole (bad_start (job_count l) start) ∷ 16 at whole (ltb room 712) ∷ [])

-- then 15 No fit
unfoldable pub plan_rows : List ℕ → ℕ → ℕ → ℕ → List Row
plan_rows l limit start room = call_rows l limit start room ++ (15 at no_fit (fit_of l limit start) ∷ [])

-- the sheet of a plan, and its number of cores; nothing where a task finds no core
unfoldable pub sheet_for : List ℕ → Fit → List ℕ
sheet_for l (placed a) = sheet_of (job_period l) (job_budget l) (job_count l) a
sheet_for l (unplaced i) = []

unfoldable pub cores_for : Fit → ℕ
cores_for (placed a) = a.cores
cores_for (unplaced i) = 0

-- written with n, c and the length of the sheet, or refused with a number and a place
pub data Outcome : Type 0 where
  written : ℕ → ℕ → ℕ → Outcome
  refused : ℕ → ℕ → Outcome

-- the refusal that was found, else x
unfoldable pub unless : Option Refused → Outcome → Outcome
unless None x = x
unless (Some r) x = refused r.number r.place

-- the planner's answer, with an output of `room` bytes
unfoldable pub plan_outcome : List ℕ → ℕ → ℕ → ℕ → Outcome
plan_outcome l limit start room =
    unless (scan (plan_rows l limit start room))
    (written (job_count l) (cores_for (fit_of l limit start)) (length (sheet_for l (fit_of l limit start))))

-- the sheet s at the front of the output, of which the bytes past the sheet stay; a refusal leaves every byte
unfoldable pub laid_over : Option Refused → List ℕ → List ℕ → List ℕ
laid_over None s out = over s out
laid_over (Some r) s out = out

-- what the output holds after the call
unfoldable pub plan_output : List ℕ → ℕ → ℕ → List ℕ → List ℕ
plan_output l limit start out = laid_over (scan (plan_rows l limit start (length out))) (sheet_for l (fit_of l limit start)) out

-- the code's answer as an outcome: a word stands for its number
abbrev pub outcome_of : Result Planned (Rejection ℕ) → Outcome
outcome_of (Ok r) = written r.tasks r.cores r.length
outcome_of (Err r) = refused (number_of r.word) r.place

-- the checker accepts what was written, with the counts of the answer
abbrev pub Accepting : Result Planned (Rejection ℕ) → List ℕ → Type 0
Accepting (Ok r) out = verdict (take r.length out) ≡ accepted r.tasks r.cores
Accepting (Err r) out = Unit {0}
