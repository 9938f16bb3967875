-- What the mover answers, and what the lent buffer then holds (docs/SHEET.md, section 12).
use Rattle.std.specs.Prelude.{ℕ, cond, not, List, ◌∷◌, length, ltb}
use Rattle.sheet.specs.Refusals.{number_of}
use Rattle.sheet.specs.Table.{Row, ◌at◌, whole, scan}
use Rattle.sheet.specs.Records.{task_count, core_count}
use Rattle.sheet.specs.Views.{is_stroked}
use Rattle.fit.specs.Lists.{over}
use Rattle.checker.specs.Tests.{is_marked}
use Rattle.checker.specs.Rules.{rules}
use Rattle.checker.specs.Verdict as check
use Rattle.std.specs.Prelude.{Result, Ok, Err}
use Rattle.sheet.specs.declared.Rejection.{Rejection}
use Rattle.mover.specs.Moved.{moved}

-- the length of the sheet that is written, or a refusal's number and place
pub data Answer : Type 0 where
  written : ℕ → Answer
  refused : ℕ → ℕ → Answer

-- The mover's rules are the checker's, but rule 3 lets versions 1 and 2 alone through: version 3 has no other version.
unfoldable pub move_rules : List ℕ → List Row
move_rules s = 1 at whole (ltb (length s) 8) ∷ 2 at whole (not (is_marked s)) ∷ 3 at whole (is_stroked s) ∷ rules s

-- the verdict by these rules
unfoldable pub move_verdict : List ℕ → check.Outcome
move_verdict s = check.outcome (scan (move_rules s)) (task_count s) (core_count s)

-- the refusal by these rules, then 16 with place 0 for an output under 712 bytes, else the length
unfoldable pub move_answer : check.Outcome → List ℕ → ℕ → Answer
move_answer (check.refused k p) s room = refused k p
move_answer (check.accepted n c) s room = cond (ltb room 712) (refused 16 0) (written (length (moved s)))

-- what the output then holds: the sheet at the front, and the bytes past it as they were; a refusal leaves every byte
unfoldable pub move_output : check.Outcome → List ℕ → List ℕ → List ℕ
move_output (check.refused k p) s out = out
move_output (check.accepted n c) s out = cond (ltb (length out) 712) out (over (moved s) out)

-- the code's answer as an answer of the definitions: a word stands for its number
abbrev pub answer_of : Result ℕ (Rejection ℕ) → Answer
answer_of (Ok n) = written n
answer_of (Err r) = refused (number_of r.word) r.place
