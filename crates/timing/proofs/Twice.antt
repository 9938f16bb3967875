-- Strokes of twice their length: no stroke of the right length is broken, but the choice is not free after it.
-- Assumes nothing.
use Prim.Native.Nat.{ℕ, zero, suc, ◌+◌, ◌*◌, ◌/◌, ◌%◌, ◌<◌}
use mathlib.Core.Path.{◌≡◌, refl, sym, ap, subst, ◌∙◌}
use mathlib.Core.Logic.{◌⊎◌, inl, ⊎_elim}
use mathlib.Core.List.{List, [], ◌∷◌}
use native.Mathlib.Nat.{div-div-eq-div-mul}
use native.Mathlib.Omega.{arith}
use lib.ListN.{length}
use Rattle.fit.specs.Lists.{at, Each, EachPair}
use Rattle.fit.specs.Priority.{Higher}
use Rattle.fit.proofs.Lists.{each_of}
use Rattle.timing.specs.Tasks.{pending, early, named, with_job, released, used, older}
use Rattle.timing.specs.Calls.{release, tick, accepted, served, release_answer, of_first, modify, answer_by, next_by, no_stroke, State, next_stroke, answer, next, Entry, entry, calls, log, run}
use Rattle.timing.specs.Form.{Distinct, Above, Fresh}
use Rattle.timing.specs.OnTime.{count, to_tick, to_finish, served_to, is_run, is_finish, Ended}
use Rattle.timing.specs.Serving.{nth, to_release, is_release}
use Rattle.timing.specs.Strokes.{StateForm, Unbroken, PendingAfter, FreeAgain}
use Rattle.timing.proofs.Runs.{Logged}
use Rattle.timing.proofs.Plain.{plain_form}
use Rattle.timing.proofs.Unbroken.{unbroken}
use Rattle.timing.proofs.Choice.{Figured, listed, given}

-- A log of strokes of twice their length has no broken stroke.
pub twice_unbroken : (q : ℕ → ℕ) (l : List Entry) → Unbroken (λ i. q i * 2) l → Unbroken q l
twice_unbroken q l u before xs ys rest j split x y same = u before xs ys rest j split x y (sym (div-div-eq-div-mul (count (is_run j) xs) (q j) 2) ∙ ap (λ n. n / 2) same ∙ div-div-eq-div-mul (count (is_run j) xs + 1 + count (is_run j) ys) (q j) 2)

-- Two tasks: task 0 with p 5, e 2 and q 1, task 1 with p 9, e 4 and q 2.
abbrev periods : ℕ → ℕ
periods = at (5 ∷ 9 ∷ [])

abbrev budgets : ℕ → ℕ
budgets = at (2 ∷ 4 ∷ [])

abbrev strokes : ℕ → ℕ
strokes = at (1 ∷ 2 ∷ [])

-- with strokes of twice their length
abbrev twice : State
twice = record {
  tasks = record { period = 5; budget = 2; age = 5; left = 0; number = 0; stroke = 2 } ∷ record { period = 9; budget = 4; age = 9; left = 0; number = 1; stroke = 4 } ∷ [];
  stroke = no_stroke;
}

-- task 0 is released in the first stroke of task 1, which keeps the core for four ticks
abbrev front : List Entry
front = entry (release 1) accepted ∷ entry tick (served 1) ∷ entry (release 0) accepted ∷ entry tick (served 1) ∷ []

abbrev whole : List Entry
whole = entry (release 1) accepted ∷ entry tick (served 1) ∷ entry (release 0) accepted ∷ entry tick (served 1) ∷ entry tick (served 1) ∷ entry tick (served 1) ∷ entry tick (served 0) ∷ []

whole_log : log answer next twice (calls whole) ≡ whole
unfolding log calls answer answer_by next next_by next_stroke of_first modify release_answer pending early named released used older with_job
whole_log = refl

front_logged : Logged answer next twice front
unfolding Logged answer answer_by next next_by next_stroke of_first modify release_answer pending early named released used older with_job
front_logged = (refl, (refl, (refl, (refl, tt))))

form : StateForm twice
unfolding Each EachPair Distinct Above
form = plain_form _ (record { count = omega arith; sound = (omega arith, (omega arith, tt)); distinct = (((λ z. omega arith), tt), (tt, tt)); ordered = ((inl (omega arith), tt), (tt, tt)) })

fresh : Each Fresh twice.tasks
unfolding Each
fresh = (record { age = refl; left = refl }, (record { age = refl; left = refl }, tt))

figured : Each (Figured periods budgets (λ i. strokes i * 2)) twice.tasks
unfolding Each
figured = ((refl, refl, refl), ((refl, refl, refl), tt))

-- after the first two ticks both tasks were given whole strokes
front_given : (j n i : ℕ) → i < length (run next twice (calls front)).tasks → (nth (run next twice (calls front)).tasks i).number ≡ j → (nth (run next twice (calls front)).tasks i).left + n ≡ (nth (run next twice (calls front)).tasks i).budget → n % strokes j ≡ 0
unfolding run calls next next_by next_stroke of_first modify pending early named released used older with_job
front_given j n zero lt number all = let none : n ≡ 0 = omega arith in rw (none, ← number)
front_given j n (suc zero) lt number all = let two : n ≡ 2 = omega arith in rw (two, ← number)
front_given j n (suc (suc i)) lt number all = absurd (omega arith)

front_whole : (j n : ℕ) → PendingAfter (budgets j) j n front → n % strokes j ≡ 0
front_whole j n w =
    let x = listed periods budgets (λ i. strokes i * 2) twice form fresh figured front front_logged w.before w.since j w.split in
    front_given j n x.0 x.1 x.2 (given periods budgets (λ i. strokes i * 2) twice form fresh figured front front_logged j n x.0 w x.1 x.2).1

-- and task 0 waits
waits : PendingAfter (budgets 0) 0 0 front
unfolding count is_release to_release is_run to_tick served_to is_finish to_finish Ended
waits = record { before = entry (release 1) accepted ∷ entry tick (served 1) ∷ []; since = entry tick (served 1) ∷ []; split = refl; last = refl; given = refl; not_ended = ⊎_elim (λ z. omega arith) (λ z. omega arith) }

-- but the third tick goes to task 1
not_higher : (k : ℕ) → served 1 ≡ served k → (k ≡ 0) ⊎ Higher (periods k) k (periods 0) 0 → ⊥
not_higher k a o = let one : k ≡ 1 = cc in ⊎_elim (λ z. omega arith) (λ z. ⊎_elim (λ y. omega arith) (λ y. omega arith) (subst (λ m. Higher (periods m) m (periods 0) 0) one z)) o

-- So the log has no broken stroke, and the choice is not free again.
pub twice_not_free : Unbroken strokes whole × (FreeAgain periods budgets strokes whole → ⊥)
twice_not_free = (
  twice_unbroken strokes whole (subst (Unbroken (λ i. strokes i * 2)) whole_log (unbroken (λ i. strokes i * 2) twice form fresh (each_of twice.tasks (λ t x. x.2) figured) (calls whole))),
  λ f. let x = (f front (entry tick (served 1) ∷ entry tick (served 0) ∷ []) (served 1) refl front_whole).highest 0 0 waits in not_higher x.0 x.1 x.2,
)
