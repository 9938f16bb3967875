-- A core over a list of calls on it by itself and of ticks of rows in which it stands: its log is that of its own calls, and it is on time
-- if it was started from a sheet (docs/SHEET.md, sections 7 and 13).
use Rattle.std.specs.Prelude.{ℕ, suc, ◌≤◌, ◌<◌, ◌≡◌, cond, List, [], ◌∷◌, ◌++◌, length, get_or, take, drop, set, eqb}
use Rattle.fit.specs.Lists.{Each}
use Rattle.checker.specs.Verdict.{verdict}
use Rattle.timing.specs.Calls.{Call, tick, Answer, accepted, served, idle, Entry, entry, log, run}
use Rattle.state.specs.declared.Core.{Core}
use Rattle.state.specs.State.{InForm}
use Rattle.state.specs.Operations.{ask, step}
use Rattle.dispatcher.specs.Starts.{state_of, sheet_answer, sheet_state}
use Rattle.dispatcher.specs.OnTime.{KeptOn}
use Rattle.row.specs.Row.{Outcome, ticked, refused, row_outcome, row_states, row_bytes}

-- the state at a position of a row; past its end the state without tasks
abbrev pub core_at : List Core → ℕ → Core
core_at row k = get_or row k (state_of [])

-- a call on a core: by itself, or a tick of a row in which it stands, with some states before it and some after it, and these answer bytes
-- lent; the other states and the length of the row may differ from call to call
pub data CoreCall : Type 0 where
  single : Call → CoreCall
  in_row : (before after : List Core) → List ℕ → CoreCall

-- the core's state after one call
unfoldable pub core_next : CoreCall → Core → Core
core_next (single c) s = step c s
core_next (in_row before after bytes) s =
    let row : List Core = before ++ s ∷ after in
    core_at (row_states (row_outcome row (length bytes)) row) (length before)

-- its state after a list of calls
unfoldable pub core_run : List CoreCall → Core → Core
core_run [] s = s
core_run (x ∷ xs) s = core_run xs (core_next x s)

-- an answer byte as it is read: 255 is idle, any other the number of the task that has the tick
unfoldable pub read_byte : ℕ → Answer
read_byte b = cond (eqb b 255) idle (served b)

-- the entries that a tick of a row adds to the log of a core whose answer byte is then b: a refused row is no tick
unfoldable pub tick_entries : Outcome → ℕ → List Entry
tick_entries ticked b = entry tick (read_byte b) ∷ []
tick_entries (refused n p) b = []

-- the entries that one call adds to the core's log
unfoldable pub entries_of : CoreCall → Core → List Entry
entries_of (single c) s = entry c (ask c s) ∷ []
entries_of (in_row before after bytes) s =
    let row : List Core = before ++ s ∷ after in
    tick_entries (row_outcome row (length bytes)) (get_or (row_bytes (row_outcome row (length bytes)) row bytes) (length before) 0)

-- its log over a list of calls
unfoldable pub core_log : List CoreCall → Core → List Entry
core_log [] s = []
core_log (x ∷ xs) s = entries_of x s ++ core_log xs (core_next x s)

-- the calls by itself that a tick of a row stands for: one tick, or none where the row is refused
unfoldable pub tick_calls : Outcome → List Call
tick_calls ticked = tick ∷ []
tick_calls (refused n p) = []

-- the calls by itself that one call stands for
unfoldable pub calls_of : CoreCall → Core → List Call
calls_of (single c) s = c ∷ []
calls_of (in_row before after bytes) s = tick_calls (row_outcome (before ++ s ∷ after) (length bytes))

-- those that a list of calls stands for
unfoldable pub own_calls : List CoreCall → Core → List Call
own_calls [] s = []
own_calls (x ∷ xs) s = calls_of x s ++ own_calls xs (core_next x s)

-- Over a list of calls the core's log and its state are those of the core by itself over its own calls.
pub record AsAlone (s : Core) (xs : List CoreCall) : Type 0 where
  pub log : core_log xs s ≡ log ask step s (own_calls xs s)
  pub state : core_run xs s ≡ run step s (own_calls xs s)

-- a state with 64 places that is in form, as that of an accepted start is
abbrev pub Formed : Core → Type 0
Formed s = (length s.tasks ≡ 64) × InForm s

-- What holds of every core over every list of calls, whatever else stands in the rows: it runs as by itself; if its state is that of an
-- accepted start of core m of sheet t, its log is on time; and if its state is in form, it stays so.
pub record CoreRuns (s : Core) : Type 0 where
  pub alone : (xs : List CoreCall) → AsAlone s xs
  pub on_time : (t : List ℕ) (m : ℕ) → sheet_answer (verdict t) m ≡ accepted → s ≡ sheet_state (verdict t) t m → (xs : List CoreCall) → KeptOn t m (core_log xs s)
  pub formed : Formed s → (xs : List CoreCall) → Formed (core_run xs s)

-- a call on a row: a tick of all its cores with these answer bytes lent, or a call on the core at a position by itself
pub data RowCall : Type 0 where
  tick_all : List ℕ → RowCall
  call_at : ℕ → Call → RowCall

-- the states after one call on a row
unfoldable pub row_next : RowCall → List Core → List Core
row_next (tick_all bytes) row = row_states (row_outcome row (length bytes)) row
row_next (call_at k c) row = set row k (step c (core_at row k))

-- the states after a list of calls on it
unfoldable pub row_run : List RowCall → List Core → List Core
row_run [] row = row
row_run (x ∷ xs) row = row_run xs (row_next x row)

-- the calls that one call on a row is for the core at position k
unfoldable pub calls_to : ℕ → RowCall → List Core → List CoreCall
calls_to k (tick_all bytes) row = in_row (take k row) (drop (suc k) row) bytes ∷ []
calls_to k (call_at m c) row = cond (eqb m k) (single c ∷ []) []

-- those that a list of calls on it is
unfoldable pub calls_at : ℕ → List RowCall → List Core → List CoreCall
calls_at k [] row = []
calls_at k (x ∷ xs) row = calls_to k x row ++ calls_at k xs (row_next x row)

-- What holds of every row: all this of each of its cores, for which a list of calls on the row is a list of such calls; it is never refused
-- with 21 at the position of a state in form; and where all are in form, it is refused only for want of answer bytes.
pub record RowRuns (row : List Core) : Type 0 where
  pub cores : Each CoreRuns row
  pub each : (k : ℕ) → k < length row → (xs : List RowCall) → core_at (row_run xs row) k ≡ core_run (calls_at k xs row) (core_at row k)
  pub never_here : (n k : ℕ) → k < length row → Formed (core_at row k) → row_outcome row n ≡ refused 21 k → ⊥
  pub accepted : Each Formed row → (n : ℕ) → length row ≤ n → row_outcome row n ≡ ticked
