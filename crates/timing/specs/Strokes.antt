-- Strokes (docs/SHEET.md, section 14): the form of the stroke that lasts, whose breach is 21 Foreign, whom a tick goes to inside a stroke
-- and outside, and, told by calls and answers alone, that no stroke is broken and whom every tick goes to.
use Rattle.std.specs.Prelude.{ℕ, ◌+◌, ◌-◌, ◌/◌, ◌%◌, ◌≤◌, ◌<◌, ◌≡◌, ◌⊎◌, List, ◌∷◌, ◌++◌, length}
use Rattle.fit.specs.Lists.{Each}
use Rattle.fit.specs.Priority.{Higher}
use Rattle.timing.specs.declared.Task.{Task}
use Rattle.timing.specs.Calls.{release, tick, Answer, accepted, served, idle, Stroke, State, Entry, entry}
use Rattle.timing.specs.Form.{Form}
use Rattle.timing.specs.OnTime.{count, is_tick, is_run, Ended}
use Rattle.timing.specs.Serving.{nth, Foremost, is_release}

-- a stroke is of task t: it has its number, the task is pending, and the stroke has no more ticks left than its length less one, nor than
-- the job
pub record StrokeIs (k : Stroke) (t : Task) : Type 0 where
  pub number : t.number ≡ k.task
  pub pends : 0 < t.left
  pub length_max : k.left ≤ t.stroke - 1
  pub job_max : k.left ≤ t.left

-- the form of a state: that of its tasks; the stroke is that of one of them, and while it has no ticks left its number is 0
pub record StateForm (s : State) : Type 0 where
  pub tasks : Form s.tasks
  pub lasts : 0 < s.stroke.left → (i : ℕ) × (i < length s.tasks) × StrokeIs s.stroke (nth s.tasks i)
  pub none : s.stroke.left ≡ 0 → s.stroke.task ≡ 0

-- whom a tick with answer a went to: inside a stroke to its task; outside to the pending task of the highest priority; it is idle only where
-- none is pending
pub record TickGoes (s : State) (a : Answer) : Type 0 where
  pub inside : 0 < s.stroke.left → a ≡ served s.stroke.task
  pub outside : s.stroke.left ≡ 0 → (j : ℕ) → a ≡ served j → (i : ℕ) × ((nth s.tasks i).number ≡ j) × Foremost s.tasks i
  pub idle : a ≡ idle → Each (λ t. t.left ≡ 0) s.tasks

-- No stroke is broken, with q by task number. The ticks of a job come in strokes of q: those numbered m and n, from 0, are of one stroke
-- where m / q is n / q. Between two ticks of one stroke every tick is the task's own.
abbrev pub Unbroken : (q : ℕ → ℕ) → List Entry → Type 0
Unbroken q l =
    (before xs ys rest : List Entry) (j : ℕ) → l ≡ before ++ entry (release j) accepted ∷ (xs ++ entry tick (served j) ∷ (ys ++ entry tick (served j) ∷ rest)) → count (is_release j) xs ≡ 0 → count (is_release j) ys ≡ 0 → count (is_run j) xs / q j ≡ (count (is_run j) xs + 1 + count (is_run j) ys) / q j → count is_tick ys ≡ count (is_run j) ys

-- A job of task j with budget e is pending after the log l, and was given n ticks: over the entries since the last accepted release of j it
-- has not ended, and n of them are ticks answered with j.
pub record PendingAfter (e j n : ℕ) (l : List Entry) : Type 0 where
  pub before : List Entry
  pub since : List Entry
  pub split : l ≡ before ++ entry (release j) accepted ∷ since
  pub last : count (is_release j) since ≡ 0
  pub given : count (is_run j) since ≡ n
  pub not_ended : Ended e j since → ⊥

-- A tick with answer a after the log l goes by priority, with p and e by task number: its task is pending, and is the one of the highest
-- priority; it is idle only where none is pending.
pub record ByPriority (p e : ℕ → ℕ) (l : List Entry) (a : Answer) : Type 0 where
  pub pends : (k : ℕ) → a ≡ served k → (n : ℕ) × PendingAfter (e k) k n l
  pub highest : (i n : ℕ) → PendingAfter (e i) i n l → (k : ℕ) × (a ≡ served k) × ((k ≡ i) ⊎ Higher (p k) k (p i) i)

-- A stroke goes on: a tick goes to a pending job that was given a part of a stroke, which means a number of ticks that is no multiple of q.
abbrev pub GoesOn : (e q : ℕ → ℕ) → List Entry → Type 0
GoesOn e q l = (before rest : List Entry) (a : Answer) → l ≡ before ++ entry tick a ∷ rest → (j n : ℕ) → PendingAfter (e j) j n before → 0 < n % q j → a ≡ served j

-- Then the choice is free again: where every pending job was given whole strokes a tick goes by priority.
abbrev pub FreeAgain : (p e q : ℕ → ℕ) → List Entry → Type 0
FreeAgain p e q l = (before rest : List Entry) (a : Answer) → l ≡ before ++ entry tick a ∷ rest → ((j n : ℕ) → PendingAfter (e j) j n before → n % q j ≡ 0) → ByPriority p e before a
