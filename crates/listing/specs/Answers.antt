-- What the listing call answers, and what the lent buffer then holds (docs/SHEET.md, section 8).
use Rattle.std.specs.Prelude.{ℕ, cond, List, length, ltb}
use Rattle.fit.specs.Lists.{over}
use Rattle.std.specs.Prelude.{Result, Ok, Err}
use Rattle.sheet.specs.Refusals.{number_of}
use Rattle.sheet.specs.declared.Rejection.{Rejection}
use Rattle.listing.specs.Listing.{listing_of}

-- the length of the text, or a refusal's number and place
pub data Answer : Type 0 where
  written : ℕ → Answer
  refused : ℕ → ℕ → Answer

-- an output under 8,192 bytes is Tight (16), else the text is written
unfoldable pub listed : List ℕ → List ℕ → Answer
listed s out = cond (ltb (length out) 8192) (refused 16 0) (written (length (listing_of s)))

-- what the output then holds: the text at the front, and the bytes past it as they were; a refusal leaves every byte
unfoldable pub holding : List ℕ → List ℕ → List ℕ
holding s out = cond (ltb (length out) 8192) out (over (listing_of s) out)

-- the code's answer as an answer of the definitions: a word stands for its number
abbrev pub answer_of : Result ℕ (Rejection ℕ) → Answer
answer_of (Ok n) = written n
answer_of (Err r) = refused (number_of r.word) r.place
