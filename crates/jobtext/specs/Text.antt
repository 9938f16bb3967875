-- The text form of a job list, for the programs `plan` and `margins`. A line has a period and a budget as decimal numbers, or neither. Spaces, tabs and
-- carriage returns stand between and around the numbers, and '#' starts a comment to the end of the line. A line feed ends a line, and so
-- does the end of the text. A line with two numbers is a job. The job is wrong if there is no room for it or one of its numbers is above
-- 65,535; a line is wrong if it has one number, more than two, or another character.
use Rattle.std.specs.Prelude.{◌≡◌, ℕ, ◌+◌, ◌-◌, ◌*◌, ◌/◌, ◌%◌, min, Bool, true, false, not, cond, ◌&&◌, ◌||◌, List, [], ◌∷◌, ◌++◌, flat_map, length, drop, leb, ltb, eqb}
use Rattle.std.specs.Prelude.{Result, Ok, Err}
use Rattle.jobtext.specs.declared.Numbers.{Numbers}
use Rattle.jobtext.specs.declared.Numbers.TheVariants.{Nothing, One, Two, Wrong}
use Rattle.jobtext.specs.declared.Line.{Line}
use Rattle.jobtext.specs.declared.Job.{Job}
use Rattle.jobtext.specs.declared.State.{State}
use Rattle.jobtext.specs.declared.Fault.{Fault}
use Rattle.jobtext.specs.declared.Fault.TheVariants.{NoJob, Large, Full}
use Rattle.jobtext.specs.declared.WrongLine.{WrongLine}

-- a line with nothing in it
abbrev pub empty_line : Line
empty_line = record { numbers = Nothing; inside = false; comment = false; large = false; first = 0; second = 0 }

-- a line that cannot be a job any more
abbrev pub bad : Line → Line
bad l = record l { numbers = Wrong }

-- a digit goes on with a number, which is large above 65,535 and is then kept as 65,535, or begins the line's next one
abbrev pub longer : Line → ℕ → Line
longer l d = record l { inside = true; large = l.large || ltb 65535 (10 * l.second + d); second = min (10 * l.second + d) 65535 }

abbrev pub begun_as : Numbers → Line → ℕ → Line
begun_as numbers l d = record l { numbers = numbers; inside = true; first = l.second; second = d }

abbrev pub begun_after : Numbers → Line → ℕ → Line
begun_after Nothing l d = begun_as One l d
begun_after One l d = begun_as Two l d
begun_after Two l d = bad l
begun_after Wrong l d = bad l

abbrev pub begun : Line → ℕ → Line
begun l d = begun_after l.numbers l d

abbrev pub digit : Line → ℕ → Line
digit l d = cond l.inside (longer l d) (begun l d)

-- a number ends at a blank, and a comment begins at '#'
abbrev pub pause : Bool → Line → Line
pause comment l = record l { inside = false; comment = comment }

abbrev pub is_digit : ℕ → Bool
is_digit b = leb 48 b && leb b 57

abbrev pub is_blank : ℕ → Bool
is_blank b = eqb b 32 || (eqb b 9 || eqb b 13)

-- a byte of a line that is no line feed: in a comment it says nothing
unfoldable pub in_line : Line → ℕ → Line
in_line l b =
    cond l.comment l
    (cond (is_digit b) (digit l (b - 48))
    (cond (is_blank b) (pause false l)
    (cond (eqb b 35) (pause true l) (bad l))))

-- the text begins on line 1 with no jobs
abbrev pub start_state : State
start_state = record { number = 1; line = empty_line; jobs = record { items = [] } }

-- the next line, with the job of this one added or with none
abbrev pub added : State → State
added s = record { number = s.number + 1; line = empty_line; jobs = record { items = s.jobs.items ++ record { period = s.line.first; budget = s.line.second } ∷ [] } }

abbrev pub new_line : State → State
new_line s = record { number = s.number + 1; line = empty_line; jobs = s.jobs }

-- how many jobs there are on the lines before
abbrev pub count : State → ℕ
count s = length s.jobs.items

-- what is wrong with a line that is no job that can be added: if it is a job for which there was room, then a number is large
abbrev pub fault_of : ℕ → ℕ → Numbers → Fault
fault_of room count Nothing = NoJob
fault_of room count One = NoJob
fault_of room count Two = cond (ltb count room) Large Full
fault_of room count Wrong = NoJob

abbrev pub stopped_at : ℕ → State → WrongLine
stopped_at room s = record { line = s.number; fault = fault_of room (count s) s.line.numbers }

-- a line ends: it has no number, or its job is added, or it is wrong; a job needs room, and neither of its numbers is large
abbrev pub ended_after : Numbers → ℕ → State → Result State WrongLine
ended_after Nothing room s = Ok (new_line s)
ended_after One room s = Err (stopped_at room s)
ended_after Two room s = cond (ltb (count s) room && not s.line.large) (Ok (added s)) (Err (stopped_at room s))
ended_after Wrong room s = Err (stopped_at room s)

abbrev pub line_end : ℕ → State → Result State WrongLine
line_end room s = ended_after s.line.numbers room s

-- one byte of the text, and all of them up to a line that is wrong
unfoldable pub step : ℕ → State → ℕ → Result State WrongLine
step room s b = cond (eqb b 10) (line_end room s) (Ok (record s { line = in_line s.line b }))

abbrev pub and_then : Result State WrongLine → (State → Result State WrongLine) → Result State WrongLine
and_then (Ok s) f = f s
and_then (Err e) f = Err e

unfoldable pub run : ℕ → State → List ℕ → Result State WrongLine
run room s [] = Ok s
run room s (b ∷ l) = and_then (step room s b) (λ t. run room t l)

-- the end of the text ends its last line
unfoldable pub finish : ℕ → List ℕ → Result State WrongLine
finish room text = and_then (run room start_state text) (line_end room)

-- there is room for 64 jobs, or for fewer in a short output
abbrev pub room_in : List ℕ → ℕ
room_in out = min 64 (length out / 4)

-- a job is four bytes, period and budget, low byte first
abbrev pub bytes_of : Job → List ℕ
bytes_of job = (job.period % 256) ∷ (job.period / 256) ∷ (job.budget % 256) ∷ (job.budget / 256) ∷ []

-- the answer, and what the output then holds: the jobs at its front, or all as it was
abbrev pub read_of : Result State WrongLine → Result ℕ WrongLine
read_of (Ok s) = Ok (4 * count s)
read_of (Err e) = Err e

abbrev pub holding : Result State WrongLine → List ℕ → List ℕ
holding (Ok s) out = flat_map bytes_of s.jobs.items ++ drop (4 * count s) out
holding (Err e) out = out

-- the line of job k, counted from 0: the one whose end makes the jobs more than k, or else the one at which the reading ends
abbrev pub line_at : ℕ → State → Result State WrongLine → (State → ℕ) → ℕ
line_at k s (Ok t) later = cond (ltb k (count t)) s.number (later t)
line_at k s (Err e) later = e.line

unfoldable pub line_from : ℕ → ℕ → State → List ℕ → ℕ
line_from room k s [] = s.number
line_from room k s (b ∷ l) = line_at k s (step room s b) (λ t. line_from room k t l)

unfoldable pub line_of : ℕ → List ℕ → ℕ
line_of k text = line_from 64 k start_state text

-- the state after a step, or why it went wrong
abbrev pub Ends : Result (Unit {0}) WrongLine → State → Result State WrongLine → Type 0
Ends (Ok _) s r = r ≡ Ok s
Ends (Err e) s r = r ≡ Err e
