-- A stroke goes on while its job is pending; where none lasts, a tick goes to the pending task of the highest priority.
-- Assumes nothing.
use Prim.Native.Nat.{ℕ, ◌+◌, ◌*◌, ◌-◌, ◌%◌, ◌≤◌, ◌<◌}
use mathlib.Core.Path.{◌≡◌, refl, sym, ap, subst, ◌∙◌}
use mathlib.Core.Logic.{◌⊎◌, inl, inr, ⊎_elim}
use mathlib.Core.List.{List, ◌∷◌, ◌++◌}
use native.Mathlib.Nat.{mul-add-mod_self_left, mod-eq_of_lt, mul-mod_right}
use native.Mathlib.Decide.{dec_le}
use native.Mathlib.Omega.{arith}
use lib.ListN.{length}
use Rattle.fit.specs.Lists.{Each}
use Rattle.fit.specs.Priority.{Higher}
use Rattle.fit.proofs.Lists.{each_of, each_at}
use Rattle.timing.specs.declared.Task.{Task}
use Rattle.timing.specs.Tasks.{with_job}
use Rattle.timing.specs.Calls.{Call, release, tick, accepted, served, answer_by, turn, State, answer, next, Entry, entry, calls, log, run}
use Rattle.timing.specs.Form.{Above, Fresh}
use Rattle.timing.specs.OnTime.{count, is_run, is_finish, Ended}
use Rattle.timing.specs.Serving.{nth, no_task, Foremost, is_release, LeftCounts}
use Rattle.timing.specs.Strokes.{StrokeIs, StateForm, PendingAfter, ByPriority, GoesOn, FreeAgain}
use Rattle.timing.proofs.Lists.{zero_or_pos, nth_each}
use Rattle.timing.proofs.Runs.{Logged, log_split, log_calls, count_cons, count_append, Cut, count_cut, run_kept, release_entry, release_counts}
use Rattle.timing.proofs.Steps.{changed_tick, changed_found, bare, bare_nth, length_next}
use Rattle.timing.proofs.Form.{figures_kept, each_of_map}
use Rattle.timing.proofs.Own.{released_listed}
use Rattle.timing.proofs.Left.{left_counts, pending_ended}
use Rattle.timing.proofs.First.{tick_inside, tick_outside, tick_idle}
use Rattle.timing.proofs.Strokes.{state_form_kept}
use Rattle.timing.proofs.Aligned.{Part, inside, outside, Aligned, aligned_kept}

-- a task has its period, budget and stroke length by its number
abbrev pub Figured : (p e q : ℕ → ℕ) → Task → Type 0
Figured p e q t = (p t.number ≡ t.period) × (e t.number ≡ t.budget) × (q t.number ≡ t.stroke)

-- the state after a log l from a fresh state in form
module _ (p e q : ℕ → ℕ) (s : State) (f : StateForm s) (h : Each Fresh s.tasks) (v : Each (Figured p e q) s.tasks) (l : List Entry) (k : Logged answer next s l) where
  abbrev pub u : State
  u = run next s (calls l)

  -- it is in form, its jobs were given strokes, and its tasks have their figures and what their jobs have still to get
  kept : StateForm u × Each (Aligned u.stroke) u.tasks
  kept = run_kept next (λ x. StateForm x × Each (Aligned x.stroke) x.tasks) (λ c x g. (state_form_kept c x g.0, aligned_kept c x g.0 g.1)) (calls l) s (f, each_of s.tasks (λ t y z. absurd (omega (arith, y.left))) h)

  figured : Each (Figured p e q) u.tasks
  unfolding next bare with_job
  figured = run_kept next (λ x. Each (Figured p e q) x.tasks) (λ c x. figures_kept (Each (Figured p e q)) (each_of_map (Figured p e q) bare) _ c x.tasks) (calls l) s v

  left : LeftCounts l u.tasks
  left = subst (λ x. LeftCounts x u.tasks) (log_calls answer next l s k) (left_counts s f.tasks h (calls l))

  -- a number whose release was accepted is that of a task
  abbrev pub Listed : ℕ → Type 0
  Listed j = (i : ℕ) × (i < length u.tasks) × ((nth u.tasks i).number ≡ j)

  pub listed : (before since : List Entry) (j : ℕ) → l ≡ before ++ entry (release j) accepted ∷ since → Listed j
  unfolding next bare with_job
  listed before since j split = released_listed Listed s (nth_each _ s.tasks (λ i lt. (i, run_kept next (λ x. i < length x.tasks) (λ c x y. omega (arith, length_next (turn x.stroke) c x.tasks)) (calls l) s lt, ap (λ t. t.number) (run_kept next (λ x. bare (nth x.tasks i) ≡ bare (nth s.tasks i)) (λ c x y. bare_nth (turn x.stroke) c x.tasks i ∙ y) (calls l) s refl)))) (calls l) before since j (log_calls answer next l s k ∙ split)

  -- the task of a pending job has what the job was not given
  pub given : (j n i : ℕ) → PendingAfter (e j) j n l → i < length u.tasks → (nth u.tasks i).number ≡ j → (0 < (nth u.tasks i).left) × ((nth u.tasks i).left + n ≡ (nth u.tasks i).budget)
  unfolding Ended
  given j n i w lt number =
      let none : count (is_finish j) w.since ≡ 0 = ⊎_elim (λ z. z) (λ z. absurd (w.not_ended (inr z))) (zero_or_pos (count (is_finish j) w.since)) in
      let all = each_at _ no_task u.tasks i lt (left.since w.before w.since j w.split w.last none) number in
      let budget : e j ≡ (nth u.tasks i).budget = ap e (sym number) ∙ (each_at _ no_task u.tasks i lt figured).1 in
      (few (dec_le (e j) (count (is_run j) w.since)) all budget, omega (arith, all, w.given))
    where
      few : {a b : ℕ} → Dec (e j ≤ count (is_run j) w.since) → a + count (is_run j) w.since ≡ b → e j ≡ b → 0 < a
      few (yes y) a b = absurd (w.not_ended (inl y))
      few (no y) a b = omega arith

  -- and a pending task has a pending job
  pends : (i : ℕ) → i < length u.tasks → 0 < (nth u.tasks i).left → (n : ℕ) × PendingAfter (e (nth u.tasks i).number) (nth u.tasks i).number n l
  pends i lt y = ⊎_elim (λ z. absurd (omega (arith, each_at _ no_task u.tasks i lt (left.unreleased j z) refl))) (λ z. from (count_cut (is_release j) (count (is_release j) l - 1) l (omega arith)) z) (zero_or_pos (count (is_release j) l))
    where
      j : ℕ
      j = (nth u.tasks i).number

      from : Cut (is_release j) (count (is_release j) l - 1) l → 0 < count (is_release j) l → (n : ℕ) × PendingAfter (e j) j n l
      from c z =
          let split : l ≡ c.front ++ entry (release j) accepted ∷ c.back = c.whole ∙ ap (λ x. c.front ++ x ∷ c.back) (release_entry j c.hit c.passes) in
          let last : count (is_release j) c.back ≡ 0 = omega (arith, ap (count (is_release j)) split, c.before, count_append (is_release j) c.front (entry (release j) accepted ∷ c.back), count_cons (is_release j) (entry (release j) accepted) c.back, release_counts j j accepted refl refl) in
          let ended = each_at _ no_task u.tasks i lt (pending_ended s f.tasks h (calls l) c.front c.back j (log_calls answer next l s k ∙ split) last) refl in
          (count (is_run j) c.back, record { before = c.front; since = c.back; split = split; last = last; given = refl; not_ended = λ d. omega (arith, ended.1 (subst (λ b. Ended b j c.back) (each_at _ no_task u.tasks i lt figured).1 d)) })

  -- a job was given whole strokes, or the stroke that lasts is its own
  part : (j n : ℕ) → PendingAfter (e j) j n l → (n % q j ≡ 0) ⊎ ((0 < u.stroke.left) × (u.stroke.task ≡ j))
  part j n w =
      let x = listed w.before w.since j w.split in
      let t = nth u.tasks x.0 in
      let r = given j n x.0 w x.1 x.2 in
      let g = each_at _ no_task u.tasks x.0 x.1 kept.1 r.0 in
      by g.d g.m t x.2 (ap q (sym x.2) ∙ (each_at _ no_task u.tasks x.0 x.1 figured).2) (omega (arith, r.1, g.all)) g.part
    where
      by : (d m : ℕ) (t : Task) → t.number ≡ j → q j ≡ t.stroke → n ≡ t.stroke * m + d → Part u.stroke t d → (n % q j ≡ 0) ⊎ ((0 < u.stroke.left) × (u.stroke.task ≡ j))
      by d m t number stroke all (inside y z o r) = inr (y, sym z ∙ number)
      by d m t number stroke all (outside y z) = inl (let even : n ≡ t.stroke * m = omega arith in rw (stroke, even) (mul-mod_right t.stroke m))

  -- where every pending job was given whole strokes, no stroke lasts
  no_stroke_lem : ((j n : ℕ) → PendingAfter (e j) j n l → n % q j ≡ 0) → u.stroke.left ≡ 0
  no_stroke_lem whole = ⊎_elim (λ z. z) (λ y. absurd (lasts y (kept.0.lasts y))) (zero_or_pos u.stroke.left)
    where
      by : (d m n : ℕ) (t : Task) → 0 < u.stroke.left → StrokeIs u.stroke t → n ≡ t.stroke * m + d → n % t.stroke ≡ 0 → Part u.stroke t d → ⊥
      by d m n t y is all z (inside a b o r) = let rest : (t.stroke * m + d) % t.stroke ≡ d = mul-add-mod_self_left t.stroke m d ∙ mod-eq_of_lt (omega arith) in omega (arith, rest, ap (λ x. x % t.stroke) all)
      by d m n t y is all z (outside a b) = a y is.number

      lasts : 0 < u.stroke.left → (i : ℕ) × (i < length u.tasks) × StrokeIs u.stroke (nth u.tasks i) → ⊥
      lasts y x =
          let t = nth u.tasks x.0 in
          let w = pends x.0 x.1 x.2.pends in
          let g = each_at _ no_task u.tasks x.0 x.1 kept.1 x.2.pends in
          by g.d g.m w.0 t y x.2 (omega (arith, (given t.number w.0 x.0 w.1 x.1 refl).1, g.all)) (subst (λ r. w.0 % r ≡ 0) (each_at _ no_task u.tasks x.0 x.1 figured).2 (whole t.number w.0 w.1)) g.part

  -- so a tick goes on with a part of a stroke
  on : (j n : ℕ) → PendingAfter (e j) j n l → 0 < n % q j → answer tick u ≡ served j
  on j n w y = ⊎_elim (λ z. absurd (omega arith)) (λ x. tick_inside u kept.0 x.0 ∙ ap served x.1) (part j n w)

  -- where a task is pending a tick is answered with a number
  answered : (i : ℕ) → i < length u.tasks → 0 < (nth u.tasks i).left → (j : ℕ) × (answer tick u ≡ served j)
  unfolding answer answer_by
  answered i lt y = ⊎_elim (λ x. absurd (omega (arith, y, each_at _ no_task u.tasks i lt (tick_idle u kept.0 x)))) (λ x. ((nth u.tasks x.0).number, x.4)) (changed_found (changed_tick (turn u.stroke) (λ t. t) u.tasks))

  -- and where none lasts it goes by priority
  free : u.stroke.left ≡ 0 → ByPriority p e l (answer tick u)
  unfolding Above
  free z = record {
    pends = λ j a. let x = tick_outside u kept.0.tasks z j a in subst (λ i. (n : ℕ) × PendingAfter (e i) i n l) x.1 (pends x.0 x.2.place x.2.waits);
    highest = λ i n w.
        let x = listed w.before w.since i w.split in
        let y = (given i n x.0 w x.1 x.2).0 in
        let a = answered x.0 x.1 y in
        (a.0, a.1, first i x.0 x.1 x.2 y a.0 (tick_outside u kept.0.tasks z a.0 a.1));
  }
    where
      first : (i m : ℕ) → m < length u.tasks → (nth u.tasks m).number ≡ i → 0 < (nth u.tasks m).left → (j : ℕ) → (k : ℕ) × ((nth u.tasks k).number ≡ j) × Foremost u.tasks k → (j ≡ i) ⊎ Higher (p j) j (p i) i
      first i m lt number y j x = ⊎_elim (λ r. inl (sym x.1 ∙ sym (ap (λ t. t.number) r) ∙ number)) (λ r. inr (higher r)) (each_at _ no_task u.tasks m lt x.2.others y)
        where
          higher : Higher (nth u.tasks x.0).period (nth u.tasks x.0).number (nth u.tasks m).period (nth u.tasks m).number → Higher (p j) j (p i) i
          higher r = rw (← x.1, ← number, (each_at _ no_task u.tasks x.0 x.2.place figured).0, (each_at _ no_task u.tasks m lt figured).0) r

-- From a fresh state in form: in every log a stroke goes on while its job is pending, and between strokes a tick goes by priority.
module _ (p e q : ℕ → ℕ) (s : State) (f : StateForm s) (h : Each Fresh s.tasks) (v : Each (Figured p e q) s.tasks) (cs : List Call) where
  pub goes_on : GoesOn e q (log answer next s cs)
  unfolding Logged
  goes_on before rest a split j n w y =
      let r = log_split answer next cs s before _ split in
      r.1.0 ∙ on p e q s f h v before r.0 j n w y

  pub free_again : FreeAgain p e q (log answer next s cs)
  unfolding Logged
  free_again before rest a split whole =
      let r = log_split answer next cs s before _ split in
      rw r.1.0 (free p e q s f h v before r.0 (no_stroke_lem p e q s f h v before r.0 whole))
