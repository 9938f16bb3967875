-- Rounds of calls: each releases all of a list of numbers and then ticks. What the releases do to the tasks that have these numbers, what a
-- call does to the last of a list of tasks, and what the log of the rounds counts.
-- Assumes nothing.
use Prim.Native.Nat.{ℕ, zero, suc, ◌+◌, ◌*◌}
use mathlib.Core.Path.{◌≡◌, refl, sym, ap, ◌∙◌}
use mathlib.Core.Bool.{Bool, false}
use mathlib.Core.List.{List, [], ◌∷◌, ◌++◌, map}
use native.Mathlib.Omega.{arith}
use native.Mathlib.Nat.{zero-mul}
use lib.Dec.{eqb}
use lib.ListN.{length, take, length-append}
use lib.Seq.{take_all, take-suc, take-append_seam}
use borrow.Author.Tests.{eq-eqb, ne_eqb}
use Rattle.fit.specs.Lists.{Each, EachPair}
use Rattle.timing.specs.declared.Task.{Task}
use Rattle.timing.specs.Tasks.{pending, named, with_job, released}
use Rattle.timing.specs.Calls.{Call, release, tick, Answer, modify, answer_by, next_by, Entry, entry, log, run}
use Rattle.timing.specs.Form.{Distinct}
use Rattle.timing.specs.OnTime.{count}
use Rattle.timing.specs.Serving.{nth, no_task}
use Rattle.timing.proofs.Runs.{count_append, count_cons, log_append}
use Rattle.timing.proofs.Steps.{released_cases, length_next, take_next}

-- release each of a list of numbers
abbrev pub releases : List ℕ → List Call
releases js = map (λ j. release j) js

-- a round, and n rounds
abbrev pub round : List ℕ → List Call
round js = releases js ++ tick ∷ []

unfoldable pub rounds : List ℕ → ℕ → List Call
rounds js zero = []
rounds js (suc n) = round js ++ rounds js n

-- the numbers of a list of tasks
abbrev pub numbers_of : List Task → List ℕ
numbers_of s = map (λ t. t.number) s

-- the first k tasks run by themselves
pub take_run : (k : ℕ) (cs : List Call) (s : List Task) → take k (run (next_by pending) s cs) ≡ run (next_by pending) (take k s) cs
unfolding run
take_run k [] s = refl
take_run k (c ∷ cs) s = take_run k cs (next_by pending c s) ∙ ap (λ x. run (next_by pending) x cs) (take_next pending c k s)

released_number : (t : Task) → (released t).number ≡ t.number
unfolding with_job
released_number t = released_cases (λ u. u.number ≡ t.number) t refl (λ x y. refl)

-- a release passes a task of another number by, and changes the first task of its own
release_past : (t : Task) (s : List Task) (j : ℕ) → (t.number ≡ j → ⊥) → next_by pending (release j) (t ∷ s) ≡ t ∷ next_by pending (release j) s
unfolding next_by modify named
release_past t s j h = let e : eqb t.number j ≡ false = ne_eqb _ _ h in rw e

release_first : (t : Task) (s : List Task) (j : ℕ) → t.number ≡ j → next_by pending (release j) (t ∷ s) ≡ released t ∷ s
unfolding next_by modify named
release_first t s j h = rw (eq-eqb t.number j h)

run_past : (t : Task) (s : List Task) (js : List ℕ) → Each (λ j. t.number ≡ j → ⊥) js → run (next_by pending) (t ∷ s) (releases js) ≡ t ∷ run (next_by pending) s (releases js)
unfolding run Each
run_past t s [] h = refl
run_past t s (j ∷ js) h = ap (λ x. run (next_by pending) x (releases js)) (release_past t s j h.0) ∙ run_past t (next_by pending (release j) s) js h.1

each_number_of : (P : ℕ → Type 0) (s : List Task) → Each (λ t. P t.number) s → Each P (numbers_of s)
unfolding Each
each_number_of P [] h = tt
each_number_of P (t ∷ s) h = (h.0, each_number_of P s h.1)

-- the releases of all numbers of the first tasks release each of these, and nothing else
pub release_all : (s rest : List Task) → EachPair Distinct s → run (next_by pending) (s ++ rest) (releases (numbers_of s)) ≡ map released s ++ rest
unfolding run EachPair Distinct
release_all [] rest d = refl
release_all (t ∷ s) rest d =
    ap (λ x. run (next_by pending) x (releases (numbers_of s))) (release_first t (s ++ rest) t.number refl)
    ∙ run_past (released t) (s ++ rest) (numbers_of s) (each_number_of _ s (rw (released_number t) d.0))
    ∙ ap (λ x. released t ∷ x) (release_all s rest d.1)

-- the release of a number that no task before has
pub release_at : (s : List Task) (t : Task) (rest : List Task) (j : ℕ) → Each (λ u. u.number ≡ j → ⊥) s → t.number ≡ j → next_by pending (release j) (s ++ t ∷ rest) ≡ s ++ released t ∷ rest
unfolding Each
release_at [] t rest j h e = release_first t rest j e
release_at (u ∷ s) t rest j h e = release_past u (s ++ t ∷ rest) j h.0 ∙ ap (λ x. u ∷ x) (release_at s t rest j h.1 e)

-- a call on a list of tasks and one more does to the list what it does without that one
pub next_last : (c : Call) (s : List Task) (t : Task) → next_by pending c (s ++ t ∷ []) ≡ next_by pending c s ++ nth (next_by pending c (s ++ t ∷ [])) (length s) ∷ []
next_last c s t =
    let l : List Task = next_by pending c (s ++ t ∷ []) in
    let n : length l ≡ length s + 1 = length_next pending c (s ++ t ∷ []) ∙ length-append s (t ∷ []) in
    sym (take_all (suc (length s)) l (omega arith))
    ∙ take-suc l (length s) no_task (omega arith)
    ∙ ap (λ x. x ++ nth l (length s) ∷ []) (take_next pending c (length s) (s ++ t ∷ []) ∙ ap (next_by pending c) (take-append_seam s (t ∷ [])))

-- what a log of rounds counts, by a test that no release of the numbers passes: v for each tick
module _ (q : Entry → Bool) (v : ℕ) (js : List ℕ) (no : Each (λ j. (a : Answer) → count q (entry (release j) a ∷ []) ≡ 0) js) (one : (a : Answer) → count q (entry tick a ∷ []) ≡ v) where
  count_releases : (js : List ℕ) → Each (λ j. (a : Answer) → count q (entry (release j) a ∷ []) ≡ 0) js → (s : List Task) → count q (log (answer_by pending) (next_by pending) s (releases js)) ≡ 0
  unfolding count log Each
  count_releases [] h s = refl
  count_releases (j ∷ js) h s = omega (arith, count_cons q (entry (release j) (answer_by pending (release j) s)) (log (answer_by pending) (next_by pending) (next_by pending (release j) s) (releases js)), h.0 (answer_by pending (release j) s), count_releases js h.1 (next_by pending (release j) s))

  count_round : (s : List Task) → count q (log (answer_by pending) (next_by pending) s (round js)) ≡ v
  unfolding log
  count_round s =
      let m = run (next_by pending) s (releases js) in
      omega (arith, ap (count q) (log_append (answer_by pending) (next_by pending) (releases js) (tick ∷ []) s), count_append q (log (answer_by pending) (next_by pending) s (releases js)) (entry tick (answer_by pending tick m) ∷ []), count_releases js no s, one (answer_by pending tick m))

  pub count_rounds : (n : ℕ) (s : List Task) → count q (log (answer_by pending) (next_by pending) s (rounds js n)) ≡ n * v
  unfolding count log rounds
  count_rounds zero s = sym (zero-mul v)
  count_rounds (suc n) s = omega (arith, ap (count q) (log_append (answer_by pending) (next_by pending) (round js) (rounds js n) s), count_append q (log (answer_by pending) (next_by pending) s (round js)) (log (answer_by pending) (next_by pending) (run (next_by pending) s (round js)) (rounds js n)), count_round s, count_rounds n (run (next_by pending) s (round js)))
