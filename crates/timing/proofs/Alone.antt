-- One task alone: where what the tasks up to it ask for in w ticks fits in w, its jobs end within w, whether the others' do or not.
-- Assumes nothing.
use Prim.Native.Nat.{ℕ, zero, suc, ◌+◌, ◌≤◌, ◌<◌}
use mathlib.Core.Path.{◌≡◌, refl, sym, ap, subst, ◌∙◌}
use mathlib.Core.Logic.{◌⊎◌, inl, inr, ⊎_elim}
use mathlib.Core.Bool.{Bool, true, false, cond}
use mathlib.Core.List.{List, [], ◌∷◌, ◌++◌}
use native.Mathlib.Omega.{arith}
use lib.Dec.{eqb}
use lib.ListN.{length, take}
use borrow.Author.Tests.{eqb-true, eq-eqb}
use Rattle.fit.specs.Lists.{Each}
use Rattle.fit.proofs.Lists.{each_of, each_take, each_at}
use Rattle.timing.specs.declared.Task.{Task}
use Rattle.timing.specs.Tasks.{pending, with_job, released}
use Rattle.timing.specs.Calls.{Call, release, finish, tick, accepted, release_answer, answer_by, next_by, entry, log}
use Rattle.timing.specs.Form.{Form, Fresh}
use Rattle.timing.specs.OnTime.{count, is_finish, EndsBy, Ended}
use Rattle.timing.specs.Serving.{nth, no_task}
use Rattle.timing.proofs.Rate.{sum_of, rate}
use Rattle.timing.proofs.Steps.{release_started, changed_named, bare, bare_nth, length_next, take_next}
use Rattle.timing.proofs.Form.{form_kept}
use Rattle.timing.proofs.Demand.{rate_next}
use Rattle.timing.proofs.Level.{Level, level_idle, level_kept, level_timely}
use Rattle.timing.proofs.Machine.{Goes, Machine, ends_in_time}
use Rattle.timing.proofs.OnTime.{release_goes, finish_goes, tick_goes}
use Rattle.timing.proofs.Own.{each_own}

module _ (w e j k : ℕ) where
  -- a state in form with task j at place k, whose level fits in w and is good
  record Alone (s : List Task) : Type 0 where
    form : Form s
    place : k < length s
    number : (nth s k).number ≡ j
    budget : (nth s k).budget ≡ e
    within : w ≤ (nth s k).period
    room : sum_of (rate w) (take (suc k) s) ≤ w
    level : Level w 0 0 (take (suc k) s)

  -- its task, and for every other number one with nothing to do
  viewed : List Task → ℕ → Task
  viewed s zero = nth s k
  viewed s (suc i) = record { period = 0; budget = 0; age = 0; left = 0; number = i; stroke = 0 }

  owed : ℕ → ℕ
  owed i = cond (eqb i j) e 0

  alone_kept : (c : Call) (s : List Task) → Alone s → Alone (next_by pending c s)
  unfolding bare with_job
  alone_kept c s h = record {
    form = form_kept pending c s h.form;
    place = omega (arith, length_next pending c s, h.place);
    number = ap (λ t. t.number) (bare_nth pending c s k) ∙ h.number;
    budget = ap (λ t. t.budget) (bare_nth pending c s k) ∙ h.budget;
    within = omega (arith, h.within, ap (λ t. t.period) (bare_nth pending c s k));
    room = rw (take_next pending c (suc k) s, rate_next w pending c (take (suc k) s)) h.room;
    level = rw (take_next pending c (suc k) s) (level_kept c w 0 0 (take (suc k) s) (omega (arith, h.room)) (omega arith) (each_take _ (suc k) s (each_of s (λ t x. x.period_min) h.form.sound)) h.level);
  }

  alone_timely : (s : List Task) → Alone s → 0 < (nth s k).left → (nth s k).age + (nth s k).left ≤ w
  alone_timely s h p = level_timely w 0 0 s k p h.level

  alone_moves : (c : Call) (s : List Task) → Alone s → 0 < (nth s k).left → (1 ≤ count (is_finish (nth s k).number) (entry c (answer_by pending c s) ∷ [])) ⊎ Goes (entry c (answer_by pending c s)) (nth s k) (nth (next_by pending c s) k)
  alone_moves (release i) s h p = inr (release_goes pending i s k p)
  alone_moves (finish i) s h p = finish_goes pending i s k p
  alone_moves tick s h p = inr (tick_goes pending s k p (omega (arith, alone_timely s h p, h.within)))

  -- an accepted release starts a job of the whole budget
  alone_begins : (s : List Task) → Alone s → answer_by pending (release j) s ≡ accepted → (nth (next_by pending (release j) s) k).left ≡ e
  unfolding answer_by next_by with_job
  alone_begins s h a =
      let t = alone_kept (release j) s h in
      let whole = each_own j (λ u. u.left ≡ u.budget) (changed_named j released release_answer s) h.form.distinct (λ u x. rw (release_started u (sym x ∙ a)) refl) in
      each_at _ no_task (next_by pending (release j) s) k t.place whole t.number ∙ t.budget

  alone_machine : Machine (answer_by pending) (next_by pending) Alone viewed (λ s i. w) (λ s. owed)
  unfolding viewed owed
  alone_machine = record {
    kept = alone_kept;
    timely = λ s. on s;
    moves = λ c s. move c s;
    begins = λ i s h a. begin i s h a (eqb i j) refl;
  }
    where
      on : (s : List Task) (i : ℕ) → Alone s → 0 < (viewed s i).left → (viewed s i).age + (viewed s i).left ≤ w
      on s zero h p = alone_timely s h p
      on s (suc i) h p = absurd (omega arith)

      move : (c : Call) (s : List Task) (i : ℕ) → Alone s → 0 < (viewed s i).left → (1 ≤ count (is_finish (viewed s i).number) (entry c (answer_by pending c s) ∷ [])) ⊎ (Goes (entry c (answer_by pending c s)) (viewed s i) (viewed (next_by pending c s) i) × (w ≡ w))
      move c s zero h p = ⊎_elim inl (λ m. inr (m, refl)) (alone_moves c s h p)
      move c s (suc i) h p = absurd (omega arith)

      begin : (i : ℕ) (s : List Task) → Alone s → answer_by pending (release i) s ≡ accepted → (b : Bool) → eqb i j ≡ b → (m : ℕ) × ((viewed (next_by pending (release i) s) m).number ≡ i) × ((viewed (next_by pending (release i) s) m).left ≡ cond b e 0) × (w ≡ w)
      begin i s h a true x =
          let same : i ≡ j = eqb-true i j x in
          (zero, (alone_kept (release i) s h).number ∙ sym same, ap (λ n. (nth (next_by pending (release n) s) k).left) same ∙ alone_begins s h (subst (λ n. answer_by pending (release n) s ≡ accepted) same a), refl)
      begin i s h a false x = (suc i, refl, refl, refl)

-- From a fresh state in form every log keeps task j, which stands at place k with budget e, within w.
pub alone_on_time : (w e j k : ℕ) (s : List Task) → Form s → Each Fresh s → k < length s → (nth s k).number ≡ j → (nth s k).budget ≡ e → w ≤ (nth s k).period → sum_of (rate w) (take (suc k) s) ≤ w → (cs : List Call) → EndsBy w e j (log (answer_by pending) (next_by pending) s cs)
unfolding owed
alone_on_time w e j k s form fresh lt number budget within room cs before xs rest a split n = subst (λ b. Ended b j (xs ++ entry tick a ∷ [])) (rw (eq-eqb j j refl)) (ends_in_time (answer_by pending) (next_by pending) (Alone w e j k) (viewed w e j k) (λ s i. w) (λ s. owed w e j k) (alone_machine w e j k) cs s start before xs rest j a split (omega arith))
  where
    start : Alone w e j k s
    start = record { form = form; place = lt; number = number; budget = budget; within = within; room = room; level = level_idle w 0 0 (take (suc k) s) (each_take _ (suc k) s (each_of s (λ t x. x.left) fresh)) }
