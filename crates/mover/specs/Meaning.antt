-- What the sheet that is written is worth (docs/SHEET.md, section 12).
use Rattle.std.specs.Prelude.{ℕ, ◌≡◌, false, not, List, take}
use Rattle.sheet.specs.Views.{is_grouped, is_stroked, figures}
use Rattle.views.specs.Renamed.{Agree}
use Rattle.checker.specs.Verdict.{accepted, verdict}
use Rattle.std.specs.Prelude.{Result}
use Rattle.sheet.specs.declared.Rejection.{Rejection}
use Rattle.mover.specs.Moved.{moved}
use Rattle.mover.specs.Answers.{written, answer_of}

-- Sheet t is the sheet of the other version for sheet s, which is accepted with n tasks and c cores: it is accepted with the same counts,
-- is of the other version, has the same figures by task number, and is itself moved to s.
pub record Moves (s t : List ℕ) (n c : ℕ) : Type 0 where
  pub accepts : verdict t ≡ accepted n c
  pub other : is_grouped t ≡ not (is_grouped s)
  pub unstroked : is_stroked t ≡ false
  pub same : Agree (figures s) (figures t)
  pub back : moved t ≡ s

-- where the mover answers that it has written so many bytes, the sheet is accepted and they are such a sheet
pub record Moving (s : List ℕ) (r : Result ℕ (Rejection ℕ)) (out : List ℕ) : Type 0 where
  pub moves : (size : ℕ) → answer_of r ≡ written size → (n : ℕ) × (c : ℕ) × (verdict s ≡ accepted n c) × Moves s (take size out) n c
