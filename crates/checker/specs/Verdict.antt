-- The verdict on any bytes (docs/SHEET.md, section 4).
use Rattle.std.specs.Prelude.{ℕ, List}
use Rattle.std.specs.Prelude.{Option, None, Some}
use Rattle.sheet.specs.Refusals.{number_of}
use Rattle.sheet.specs.Table.{Refused, scan}
use Rattle.sheet.specs.Records.{task_count, core_count}
use Rattle.checker.specs.Rules.{rules}
use Rattle.std.specs.Prelude.{Result, Ok, Err}
use Rattle.sheet.specs.declared.Rejection.{Rejection}
use Rattle.checker.specs.declared.Counts.{Counts}

-- accepted with n and c, or refused with a number and a place
pub data Outcome : Type 0 where
  accepted : ℕ → ℕ → Outcome
  refused : ℕ → ℕ → Outcome

-- what the table found, as an outcome
unfoldable pub outcome : Option Refused → ℕ → ℕ → Outcome
outcome None n c = accepted n c
outcome (Some r) n c = refused r.number r.place

-- refused by the first rule of the table that is broken, else accepted with the counts of the header
unfoldable pub verdict : List ℕ → Outcome
verdict s = outcome (scan (rules s)) (task_count s) (core_count s)

-- the code's answer as an outcome: a word stands for its number
abbrev pub outcome_of : Result Counts (Rejection ℕ) → Outcome
outcome_of (Ok k) = accepted k.tasks k.cores
outcome_of (Err r) = refused (number_of r.word) r.place
