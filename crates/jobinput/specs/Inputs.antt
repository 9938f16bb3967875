-- What a caller may take as read, and the line that a refusal names.
use Rattle.std.specs.Prelude.{ℕ, ◌≡◌, Bool, cond, ◌||◌, List, take, eqb}
use Rattle.input.specs.Inputs.{IsPrefixLen}
use Rattle.std.specs.Prelude.{Option, Some, None, Ok}
use Rattle.jobtext.specs.Text.{finish, room_in, read_of, holding, line_of}
use Rattle.jobinput.specs.declared.Lengths.{Lengths}

-- the text and its jobs lie at the fronts of their buffers; where there is no list nothing is said
abbrev pub Inside : Option Lengths → List ℕ → List ℕ → Type 0
Inside (Some r) text jobs = IsPrefixLen r.text text × IsPrefixLen r.jobs jobs
Inside None text jobs = Unit {0}

-- the jobs are those of the text, read with the room of the jobs' buffer, which held `before`
abbrev pub Taken : Option Lengths → (text before jobs : List ℕ) → Type 0
Taken (Some r) text before jobs = (Ok r.jobs ≡ read_of (finish (room_in before) (take r.text text))) × (jobs ≡ holding (finish (room_in before) (take r.text text)) before)
Taken None text before jobs = Unit {0}

-- the place of refusal k is a job: 7, 8 and 15
abbrev pub of_job : ℕ → Bool
of_job k = eqb k 7 || (eqb k 8 || eqb k 15)

-- the line of that job in a text, if the place is a job
unfoldable pub line_named : (k place : ℕ) → List ℕ → Option ℕ
line_named k place text = cond (of_job k) (Some (line_of place text)) None
