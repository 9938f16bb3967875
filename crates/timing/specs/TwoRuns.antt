-- The law of two runs, told by calls and answers alone: what is done to the tasks below a task changes nothing for it and for those above
-- it.
use Rattle.std.specs.Prelude.{ℕ, suc, ◌≡◌, Bool, true, false, cond, ◌||◌, List, [], ◌∷◌, take}
use Rattle.fit.specs.Lists.{select}
use Rattle.timing.specs.declared.Task.{Task}
use Rattle.timing.specs.Tasks.{named}
use Rattle.timing.specs.Calls.{Call, release, finish, tick, Answer, accepted, served, idle, refused, Entry, entry, log}

-- a task of the list has number j
unfoldable pub listed : List Task → ℕ → Bool
listed [] j = false
listed (t ∷ s) j = named j t || listed s j

-- number j is that of the task at place i or of a task above it: by priority these are the first i + 1
abbrev pub up_to : List Task → ℕ → ℕ → Bool
up_to s i = listed (take (suc i) s)

-- a call concerns the tasks whose numbers pass a test: it is a tick, or names one of them
unfoldable pub concerns : (ℕ → Bool) → Call → Bool
concerns own (release j) = own j
concerns own (finish j) = own j
concerns own tick = true

-- what an answer says of these tasks: a tick that goes to another task is to them as an idle one
unfoldable pub to_them : (ℕ → Bool) → Answer → Answer
to_them own accepted = accepted
to_them own (served j) = cond (own j) (served j) idle
to_them own idle = idle
to_them own (refused n p) = refused n p

-- the entries of a log whose calls pass a test, with what their answers say of these tasks
unfoldable pub view : (Call → Bool) → (ℕ → Bool) → List Entry → List Entry
view common own [] = []
view common own (entry c a ∷ l) = cond (common c) (entry c (to_them own a) ∷ view common own l) (view common own l)

-- Two runs from a state s whose calls that pass a test are the same, in the same sequence, give these tasks the same ticks and the same
-- answers to those calls, whatever the other calls are and wherever they stand.
pub record SameFor {S : Type 0} (ask : Call → S → Answer) (step : Call → S → S) (common : Call → Bool) (own : ℕ → Bool) (s : S) : Type 0 where
  pub same : (cs ds : List Call) → select common cs ≡ select common ds → view common own (log ask step s cs) ≡ view common own (log ask step s ds)
