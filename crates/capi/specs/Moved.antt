-- What a moved sheet is for its user (docs/SHEET.md, section 12): it runs and reads as the sheet that was given.
use Rattle.std.specs.Prelude.{ℕ, ◌≡◌, false, not, List}
use Rattle.sheet.specs.Views.{version, is_grouped, is_stroked, figures}
use Rattle.checker.specs.Verdict.{verdict}
use Rattle.mover.specs.Moved.{moved}
use Rattle.dispatcher.specs.Starts.{sheet_answer, sheet_state}
use Rattle.listing.specs.Listing.{sheet_text, listing_of}

-- Sheet t for sheet s: the checker answers the same; it is of the other version, 1 or 2; moved back it is s; a start of any core answers the same
-- and hands back the same state; and its listing is that of s but for the version in the first line.
pub record RunsAlike (s t : List ℕ) : Type 0 where
  pub check : verdict t ≡ verdict s
  pub other : is_grouped t ≡ not (is_grouped s)
  pub unstroked : is_stroked t ≡ false
  pub back : moved t ≡ s
  pub answer : (k : ℕ) → sheet_answer (verdict t) k ≡ sheet_answer (verdict s) k
  pub state : (k : ℕ) → sheet_state (verdict t) t k ≡ sheet_state (verdict s) s k
  pub listing : (listing_of s ≡ sheet_text (version s) (figures s)) × (listing_of t ≡ sheet_text (version t) (figures s))
