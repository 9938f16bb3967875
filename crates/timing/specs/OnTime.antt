-- The on_time rule, told by calls and answers alone (docs/SHEET.md, section 7).
use Rattle.std.specs.Prelude.{ℕ, ◌+◌, ◌≤◌, ◌≡◌, ◌⊎◌, Bool, true, false, cond, ◌&&◌, List, [], ◌∷◌, ◌++◌, eqb}
use Rattle.timing.specs.Calls.{Call, release, finish, tick, Answer, accepted, served, idle, refused, Entry, entry}

-- how many entries of a log pass a test
unfoldable pub count : (Entry → Bool) → List Entry → ℕ
count q [] = 0
count q (x ∷ l) = cond (q x) (count q l + 1) (count q l)

-- tests of a call: it is a tick, it is a finish of j
unfoldable pub to_tick : Call → Bool
to_tick (release j) = false
to_tick (finish j) = false
to_tick tick = true

unfoldable pub to_finish : ℕ → Call → Bool
to_finish j (release i) = false
to_finish j (finish i) = eqb i j
to_finish j tick = false

-- tests of an answer: the tick went to j, accepted, refused with number n
unfoldable pub served_to : ℕ → Answer → Bool
served_to j accepted = false
served_to j (served i) = eqb i j
served_to j idle = false
served_to j (refused n i) = false

unfoldable pub is_accepted : Answer → Bool
is_accepted accepted = true
is_accepted (served i) = false
is_accepted idle = false
is_accepted (refused n i) = false

unfoldable pub refused_with : ℕ → Answer → Bool
refused_with n accepted = false
refused_with n (served i) = false
refused_with n idle = false
refused_with n (refused m i) = eqb m n

-- a tick, whatever it was answered: idle ticks count too
unfoldable pub is_tick : Entry → Bool
is_tick (entry c a) = to_tick c

-- a tick that was answered with j
unfoldable pub is_run : ℕ → Entry → Bool
is_run j (entry c a) = to_tick c && served_to j a

-- a finish of j that was accepted
unfoldable pub is_finish : ℕ → Entry → Bool
is_finish j (entry c a) = to_finish j c && is_accepted a

-- a call that was refused with number n
unfoldable pub is_refused : ℕ → Entry → Bool
is_refused n (entry c a) = refused_with n a

-- A job of task j with budget e has ended over the log l that follows its release: e ticks or more were answered with j, or a finish of j
-- was accepted.
unfoldable pub Ended : ℕ → ℕ → List Entry → Type 0
Ended e j l = (e ≤ count (is_run j) l) ⊎ (1 ≤ count (is_finish j) l)

-- Wherever a release of task j with budget e was accepted in the log l and w ticks follow it, the job has ended by the w-th of them.
abbrev pub EndsBy : (w e j : ℕ) → List Entry → Type 0
EndsBy w e j l = (before xs rest : List Entry) (a : Answer) → l ≡ before ++ entry (release j) accepted ∷ (xs ++ entry tick a ∷ rest) → count is_tick xs + 1 ≡ w → Ended e j (xs ++ entry tick a ∷ [])

-- The rule for a whole log, with w and e by task number: this holds of every task, and no call is refused as Late (19).
pub record OnTime (w e : ℕ → ℕ) (l : List Entry) : Type 0 where
  pub ends : (j : ℕ) → EndsBy (w j) (e j) j l
  pub never_late : count (is_refused 19) l ≡ 0
