-- What `margin` answers for a job list on the bench and a task number (docs/SHEET.md, section 11).
use Rattle.std.specs.Prelude.{ℕ, cond, List, ltb, ℤ}
use Rattle.std.specs.Prelude.{Option, None, Some}
use Rattle.sheet.specs.Refusals.{number_of}
use Rattle.sheet.specs.Table.{Refused, scan}
use Rattle.fit.specs.Lists.{numbers}
use Rattle.jobs.specs.Jobs.{job_count, job_period, job_budget, list_rows}
use Rattle.std.specs.Prelude.{Result, Ok, Err}
use Rattle.sheet.specs.declared.Rejection.{Rejection}
use Rattle.margin.specs.Margin.{margin}

-- a margin in ticks, or a refusal with its number and place
pub data Outcome : Type 0 where
  ticks : ℤ → Outcome
  refused : ℕ → ℕ → Outcome

-- the code's answer as an outcome
abbrev pub outcome_of : Result ℤ (Rejection ℕ) → Outcome
outcome_of (Ok m) = ticks m
outcome_of (Err r) = refused (number_of r.word) r.place

-- the margin of task j among all tasks of a list
abbrev pub margin_in : List ℕ → ℕ → ℤ
margin_in l j = margin (job_period l) (job_budget l) (numbers 0 (job_count l)) j

-- the refusal r of the list, if any; then 17 with place 0 where it has no task j; else the margin of task j
unfoldable pub answer_from : Option Refused → List ℕ → ℕ → Outcome
answer_from None l j = cond (ltb j (job_count l)) (ticks (margin_in l j)) (refused 17 0)
answer_from (Some r) l j = refused r.number r.place

-- what `margin` answers: 5, 4, 7, 8 of the list, then 17, else the margin of task j
unfoldable pub margin_answer : List ℕ → ℕ → Outcome
margin_answer l j = answer_from (scan (list_rows 0 l)) l j
