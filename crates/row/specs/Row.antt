-- A row of core states on one beat (docs/SHEET.md, section 13).
use Rattle.std.specs.Prelude.{ℕ, cond, List, map, length, ltb}
use Rattle.fit.specs.Lists.{place_of, over}
use Rattle.sheet.specs.Refusals.{number_of}
use Rattle.timing.specs.Calls.{tick}
use Rattle.state.specs.declared.Core.{Core}
use Rattle.state.specs.State.{foreign}
use Rattle.state.specs.Operations.{ask, step}
use Rattle.row.specs.Bytes.{answer_byte}
use Rattle.std.specs.Prelude.{Result, Ok, Err}
use Rattle.sheet.specs.declared.Rejection.{Rejection}

-- what a call on a row answers: every state was given its tick, or the call is refused with a number and a place and none was
pub data Outcome : Type 0 where
  ticked : Outcome
  refused : ℕ → ℕ → Outcome

-- the code's answer as one of the definitions: a word stands for its number
abbrev pub outcome_of : {A : Type 0} → Result A (Rejection ℕ) → Outcome
outcome_of (Ok x) = ticked
outcome_of (Err r) = refused (number_of r.word) r.place

-- the answer to a row with n answer bytes: 24 Row with place 0 where there are fewer bytes than states, then 21 Foreign with the position
-- of the first foreign state, else every state has its tick
unfoldable pub row_outcome : List Core → ℕ → Outcome
row_outcome row n =
    let at : ℕ = place_of foreign row in
    cond (ltb n (length row)) (refused 24 0) (cond (ltb at (length row)) (refused 21 at) ticked)

-- the states after the call: each as its own tick hands it back, and after a refusal as they were
unfoldable pub row_states : Outcome → List Core → List Core
row_states ticked row = map (step tick) row
row_states (refused n p) row = row

-- the bytes with the answers of a row's ticks at the front; those past the row keep what they held
unfoldable pub written : List Core → List ℕ → List ℕ
written row bytes = over (map (λ s. answer_byte (ask tick s)) row) bytes

-- the answer bytes after the call: after a refusal as they were
unfoldable pub row_bytes : Outcome → List Core → List ℕ → List ℕ
row_bytes ticked row bytes = written row bytes
row_bytes (refused n p) row bytes = bytes
