-- The on_time theorem for the dispatcher's states: every level stays good, so every job ends in time.
-- Assumes nothing.
use Prim.Native.Nat.{ℕ, suc, ◌+◌, ◌≤◌, ◌<◌}
use mathlib.Core.Path.{◌≡◌, refl, sym, ap, ◌∙◌}
use mathlib.Core.Logic.{◌⊎◌, inl, inr, ⊎_elim}
use mathlib.Core.Bool.{Bool, false}
use mathlib.Core.List.{List, [], ◌∷◌, map}
use native.Mathlib.Omega.{arith}
use lib.ListN.{length, take, get_or-map}
use borrow.Author.Tests.{eqb-true}
use Rattle.fit.specs.Lists.{Each}
use Rattle.fit.proofs.Lists.{each_of, each_take, each_at}
use Rattle.timing.specs.declared.Task.{Task}
use Rattle.timing.specs.Tasks.{named, with_job, released, finished, used, older}
use Rattle.timing.specs.Calls.{Call, release, finish, tick, Answer, accepted, release_answer, finish_answer, modify, answer_by, next_by, no_stroke, turn, State, next_stroke, answer, next, Entry, entry, log, of_first, tick_answer, idle}
use Rattle.timing.specs.Form.{Fresh}
use Rattle.timing.specs.OnTime.{count, to_tick, refused_with, is_tick, is_finish, is_refused, OnTime}
use Rattle.timing.specs.Serving.{no_task, nth}
use Rattle.timing.specs.Strokes.{StateForm}
use Rattle.timing.proofs.Lists.{zero_or_pos, pending_place}
use Rattle.timing.proofs.Runs.{finish_counts, run_counts}
use Rattle.timing.proofs.Steps.{Release, is_early, is_late, starts, release_view, release_started, Finish, is_quiet, ends, finish_view, released_cases, changed_named, changed_tick, changed_nth, changed_found, changed_answer, bare, length_next, take_next}
use Rattle.timing.proofs.Form.{each_of_map, figures_kept}
use Rattle.timing.proofs.Demand.{Demand, number_next, demand_kept}
use Rattle.timing.proofs.Level.{Level, level_idle, level_less, level_release, level_finish, level_timely}
use Rattle.timing.proofs.Strokes.{finish_stroke, state_form_kept, held_by, held_most, held_next}
use Rattle.timing.proofs.Holding.{tick_held, tick_level}
use Rattle.timing.proofs.Machine.{Goes, Machine, Punctual, machine_on_time}

-- a state in form whose figures pass the demand test and whose levels are all good, with what the stroke that lasts holds against each
pub record Good (B w e : ℕ → ℕ) (s : State) : Type 0 where
  pub form : StateForm s
  pub demand : Demand B w s.tasks
  pub budgets : Each (λ t. e t.number ≡ t.budget) s.tasks
  pub held : (k : ℕ) → k < length s.tasks → held_by s.stroke (take (suc k) s.tasks) ≤ B k
  pub levels : (k : ℕ) → k < length s.tasks → Level (w (nth s.tasks k).number) (B k) (held_by s.stroke (take (suc k) s.tasks)) (take (suc k) s.tasks)

-- a job that a call other than a tick leaves as it is
goes_same : (x : Entry) {t t' : Task} → count is_tick (x ∷ []) ≡ 0 → t' ≡ t → Goes x t t'
goes_same x {t} {t'} n e = record {
  number = ap (λ u. u.number) e;
  left = omega (arith, ap (λ u. u.left) e);
  age = omega (arith, ap (λ u. u.age) e);
}

-- what each call does to a pending job
pub release_goes : (q : Task → Bool) (j : ℕ) (s : List Task) (i : ℕ) → 0 < (nth s i).left → Goes (entry (release j) (answer_by q (release j) s)) (nth s i) (nth (next_by q (release j) s) i)
unfolding next_by count is_tick to_tick
release_goes q j s i p = goes_same _ refl (⊎_elim (λ x. x) (λ h. h.1 ∙ released_cases (λ u. u ≡ nth s i) (nth s i) refl (λ x z. absurd (omega arith))) (changed_nth i (changed_named j released release_answer s)))

finish_accepted : (t : Task) → 0 < t.left → finish_answer t ≡ accepted
finish_accepted t p = go (finish_view t)
  where
    go : {a : Answer} {t' : Task} → Finish t a t' → a ≡ accepted
    go (is_quiet z) = absurd (omega arith)
    go (ends k) = refl

pub finish_goes : (q : Task → Bool) (j : ℕ) (s : List Task) (i : ℕ) → 0 < (nth s i).left → (1 ≤ count (is_finish (nth s i).number) (entry (finish j) (answer_by q (finish j) s) ∷ [])) ⊎ Goes (entry (finish j) (answer_by q (finish j) s)) (nth s i) (nth (next_by q (finish j) s) i)
unfolding next_by answer_by count is_tick to_tick named
finish_goes q j s i p = ⊎_elim (λ x. inr (goes_same _ refl x)) (λ h. inl (omega (arith, finish_counts (nth s i).number j (answer_by q (finish j) s) (sym (eqb-true _ _ h.0)) (h.2 ∙ finish_accepted _ p)))) (changed_nth i (changed_named j finished finish_answer s))

pub tick_goes : (q : Task → Bool) (s : List Task) (i : ℕ) → 0 < (nth s i).left → (nth s i).age < (nth s i).period → Goes (entry tick (answer_by q tick s)) (nth s i) (nth (next_by q tick s) i)
unfolding next_by answer_by older used with_job count is_tick to_tick
tick_goes q s i p y =
    let e : nth (map older (modify q used s)) i ≡ older (nth (modify q used s) i) = get_or-map older (modify q used s) i no_task in
    rw e (⊎_elim (λ x. rw x (record { number = refl; left = omega arith; age = omega arith })) (λ h. rw h.1 (record { number = refl; left = omega (arith, run_counts (nth s i).number (nth s i).number (of_first q tick_answer idle s) refl h.2); age = omega arith })) (changed_nth i (changed_tick q used s)))

-- an answer other than Late (19)
abbrev NotLate : Answer → Type 0
NotLate a = refused_with 19 a ≡ false

-- the only Late answer is that of a task whose release is due while it is pending
release_not_late : (t : Task) → (0 < t.left → t.age < t.period) → NotLate (release_answer t)
unfolding refused_with
release_not_late t h = go (release_view t)
  where
    go : {a : Answer} {t' : Task} → Release t a t' → NotLate a
    go (is_early x) = refl
    go (is_late x y) = absurd (omega (arith, h y))
    go (starts x y) = refl

-- and no finish is Late
finish_not_late : (t : Task) → NotLate (finish_answer t)
unfolding refused_with
finish_not_late t = go (finish_view t)
  where
    go : {a : Answer} {t' : Task} → Finish t a t' → NotLate a
    go (is_quiet x) = refl
    go (ends x) = refl

module _ (B w e : ℕ → ℕ) where
  -- the bound on what is held against a level, and the level, after a call
  held_kept : (c : Call) (s : State) → Good B w e s → (k : ℕ) → k < length s.tasks → held_by (next_stroke c s) (take (suc k) s.tasks) ≤ B k
  unfolding next_stroke
  held_kept (release j) s g k lt = g.held k lt
  held_kept (finish j) s g k lt = ⊎_elim (λ x. rw x (g.held k lt)) (λ x. rw x (omega (arith, held_most no_stroke (take (suc k) s.tasks)))) (finish_stroke j s)
  held_kept tick s g k lt = tick_held s g.form (suc k) 0 (B k) (g.demand.blocked k lt) (g.held k lt)

  level_next : (c : Call) (s : State) → Good B w e s → (k : ℕ) → k < length s.tasks → Level (w (nth s.tasks k).number) (B k) (held_by (next_stroke c s) (take (suc k) s.tasks)) (next_by (turn s.stroke) c (take (suc k) s.tasks))
  unfolding next_stroke
  level_next (release j) s g k lt = level_release j _ (B k) _ _ (take (suc k) s.tasks) (g.demand.room k lt) (g.held k lt) (each_take _ (suc k) s.tasks (each_of s.tasks (λ t h. h.period_min) g.form.tasks.sound)) (g.levels k lt)
  level_next (finish j) s g k lt = level_less _ (B k) _ _ _ (⊎_elim (λ x. rw x (omega arith)) (λ x. rw x (omega (arith, held_most no_stroke (take (suc k) s.tasks)))) (finish_stroke j s)) (level_finish j _ (B k) _ _ (take (suc k) s.tasks) (g.levels k lt))
  level_next tick s g k lt = tick_level s g.form (suc k) _ (B k) (g.levels k lt)

  -- every call keeps a good state good
  pub good_kept : (c : Call) (s : State) → Good B w e s → Good B w e (next c s)
  unfolding next bare with_job
  good_kept c s g = record {
    form = state_form_kept c s g.form;
    demand = demand_kept B w (turn s.stroke) c s.tasks g.demand;
    budgets = figures_kept (Each (λ t. e t.number ≡ t.budget)) (each_of_map (λ t. e t.number ≡ t.budget) bare) (turn s.stroke) c s.tasks g.budgets;
    held = λ k lt.
        let lt' : k < length s.tasks = omega (arith, length_next (turn s.stroke) c s.tasks) in
        rw (take_next (turn s.stroke) c (suc k) s.tasks, held_next (next_stroke c s) (turn s.stroke) c (take (suc k) s.tasks)) (held_kept c s g k lt');
    levels = λ k lt.
        let lt' : k < length s.tasks = omega (arith, length_next (turn s.stroke) c s.tasks) in
        rw (number_next (turn s.stroke) c s.tasks k, take_next (turn s.stroke) c (suc k) s.tasks, held_next (next_stroke c s) (turn s.stroke) c (take (suc k) s.tasks)) (level_next c s g k lt');
  }

  -- a pending job still fits before its bound
  timely : (s : State) (i : ℕ) → Good B w e s → 0 < (nth s.tasks i).left → (nth s.tasks i).age + (nth s.tasks i).left ≤ w (nth s.tasks i).number
  timely s i g p = level_timely _ (B i) _ s.tasks i p (g.levels i (pending_place s.tasks i p))

  -- so its age is below its period
  pub young : (s : State) (i : ℕ) → Good B w e s → 0 < (nth s.tasks i).left → (nth s.tasks i).age < (nth s.tasks i).period
  young s i g p = omega (arith, timely s i g p, g.demand.within i (pending_place s.tasks i p))

  moves : (c : Call) (s : State) (i : ℕ) → Good B w e s → 0 < (nth s.tasks i).left → (1 ≤ count (is_finish (nth s.tasks i).number) (entry c (answer c s) ∷ [])) ⊎ Goes (entry c (answer c s)) (nth s.tasks i) (nth (next c s).tasks i)
  unfolding answer next
  moves (release j) s i g p = inr (release_goes (turn s.stroke) j s.tasks i p)
  moves (finish j) s i g p = finish_goes (turn s.stroke) j s.tasks i p
  moves tick s i g p = inr (tick_goes (turn s.stroke) s.tasks i p (young s i g p))

  -- no call is refused as Late
  not_late : (c : Call) (s : State) → Good B w e s → NotLate (answer c s)
  unfolding answer answer_by refused_with
  not_late (release j) s g = changed_answer NotLate refl (λ i. release_not_late _ (young s i g)) (changed_named j released release_answer s.tasks)
  not_late (finish j) s g = changed_answer NotLate refl (λ i. finish_not_late _) (changed_named j finished finish_answer s.tasks)
  not_late tick s g = changed_answer NotLate refl (λ i. refl) (changed_tick (turn s.stroke) used s.tasks)

  -- an accepted release starts a job of the whole budget
  begins : (j : ℕ) (s : State) → Good B w e s → answer (release j) s ≡ accepted → (i : ℕ) × ((nth (next (release j) s).tasks i).number ≡ j) × ((nth (next (release j) s).tasks i).left ≡ e j)
  unfolding answer next answer_by next_by named with_job
  begins j s g a = ⊎_elim (λ x. (0, cc, cc)) (λ h. at h.0 h.1 (eqb-true _ _ h.2) (h.3 ∙ release_started _ (sym h.4 ∙ a))) (changed_found (changed_named j released release_answer s.tasks))
    where
      at : (i : ℕ) → i < length s.tasks → (nth s.tasks i).number ≡ j → nth (next (release j) s).tasks i ≡ with_job (nth s.tasks i) 0 (nth s.tasks i).budget → (k : ℕ) × ((nth (next (release j) s).tasks k).number ≡ j) × ((nth (next (release j) s).tasks k).left ≡ e j)
      at i lt n x = (i, ap (λ t. t.number) x ∙ n, ap (λ t. t.left) x ∙ sym (each_at _ no_task s.tasks i lt g.budgets) ∙ ap e n)

  -- the laws of the on_time rule hold for states
  pub state_machine : Machine answer next (Good B w e) (λ s. nth s.tasks) (λ s. w) (λ s. e)
  state_machine = record {
    kept = good_kept;
    timely = timely;
    moves = λ c s i g p. ⊎_elim inl (λ m. inr (m, refl)) (moves c s i g p);
    begins = λ j s g a. let b = begins j s g a in (b.0, b.1, b.2, refl);
  }

  punctual : Punctual answer (Good B w e)
  unfolding count is_refused
  punctual c s g = rw (not_late c s g)

  -- a state in which nothing is pending is good, whatever the ages are
  pub good_idle : (s : State) → StateForm s → Each (λ t. t.left ≡ 0) s.tasks → Demand B w s.tasks → Each (λ t. e t.number ≡ t.budget) s.tasks → Good B w e s
  good_idle s f h d b = record {
    form = f;
    demand = d;
    budgets = b;
    held = λ k lt. omega (arith, held_most s.stroke (take (suc k) s.tasks), none);
    levels = λ k lt. level_idle _ (B k) _ (take (suc k) s.tasks) (each_take _ (suc k) s.tasks h);
  }
    where
      none : s.stroke.left ≡ 0
      none = ⊎_elim (λ z. z) (λ p. let x = f.lasts p in absurd (omega (arith, x.2.pends, each_at _ no_task s.tasks x.0 x.1 h))) (zero_or_pos s.stroke.left)

-- The on_time theorem. From a fresh state in form whose figures pass the demand test, every log obeys the on_time rule with the bounds w
-- and the budgets e.
pub on_time : (B w e : ℕ → ℕ) (s : State) → StateForm s → Each Fresh s.tasks → Demand B w s.tasks → Each (λ t. e t.number ≡ t.budget) s.tasks → (cs : List Call) → OnTime w e (log answer next s cs)
on_time B w e s f h d b cs = machine_on_time answer next (Good B w e) (λ s. nth s.tasks) w e (state_machine B w e) (punctual B w e) cs s (good_idle B w e s f (each_of s.tasks (λ t x. x.left) h) d b)
