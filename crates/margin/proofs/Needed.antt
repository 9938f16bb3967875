-- Where every run from fresh tasks ends each job within its period, every task has a t within its period that meets its demand.
-- Assumes nothing.
use Prim.Native.Nat.{ℕ, zero, suc, ◌+◌, ◌-◌, ◌≤◌, ◌<◌}
use mathlib.Core.Path.{◌≡◌, refl, sym, ap, subst, ◌∙◌}
use mathlib.Core.Logic.{◌⊎◌, ◌↔◌, ⊎_elim}
use mathlib.Core.Bool.{false}
use mathlib.Core.List.{List, [], ◌∷◌, ◌++◌, append_assoc}
use native.Mathlib.Nat.{mul-zero}
use native.Mathlib.Omega.{arith}
use lib.Dec.{eqb}
use lib.ListN.{length, take, length-append}
use lib.Seq.{append_snoc, take_at, take-append_seam, get_or_at, get_or-take}
use borrow.Author.Tests.{le-ltb, ne_eqb}
use Rattle.fit.specs.Lists.{sum, Each, EachPair}
use Rattle.fit.proofs.Lists.{each_of, each_at, each_all, each_between, each_halves, pairs_before}
use Rattle.timing.specs.declared.Task.{Task}
use Rattle.timing.specs.Tasks.{early, pending, with_job}
use Rattle.timing.specs.Calls.{Call, release, tick, Answer, accepted, release_answer, answer_by, next_by, Entry, entry, log, run}
use Rattle.timing.specs.Form.{Distinct, Form, Fresh}
use Rattle.timing.specs.OnTime.{count, to_tick, is_tick, Ended, EndsBy}
use Rattle.timing.specs.Serving.{nth, no_task, to_release, is_release}
use Rattle.timing.proofs.Rate.{sum_of}
use Rattle.timing.proofs.Runs.{count_cut, tick_entry, run_kept}
use Rattle.timing.proofs.Steps.{release_started, bare, bare_nth, length_next}
use Rattle.timing.proofs.Form.{form_take}
use Rattle.timing.proofs.Own.{own_answer}
use Rattle.timing.proofs.Left.{pending_ended}
use Rattle.timing.proofs.Later.{ended_append}
use Rattle.timing.proofs.Level.{work}
use Rattle.timing.proofs.OnTime.{good_idle}
use Rattle.timing.proofs.Plain.{plain, Ones, plain_form, plain_log, plain_run}
use Rattle.dispatcher.specs.Starts.{fresh_tasks}
use Rattle.dispatcher.proofs.Schedule.{all_fresh, fresh_each, fresh_budgets}
use Rattle.margin.specs.Margin.{request}
use Rattle.margin.proofs.Ceilings.{ceiling_zero}
use Rattle.margin.proofs.Demands.{Meets, Short}
use Rattle.margin.proofs.Enough.{bench_task, bench_tasks, bench_ones, level, EachMeets, meets_demand, fresh_append}
use Rattle.margin.proofs.Releases.{rounds, numbers_of, take_run, release_at, count_rounds}
use Rattle.margin.proofs.Worst.{asked, Timed, Held, rounds_held}

-- the log of the calls after a release
abbrev pub after_release : List Task → ℕ → List Call → List Entry
after_release s i cs = log (answer_by pending) (next_by pending) (next_by pending (release i) s) cs

-- a release that is accepted
module _ (p e : ℕ → ℕ) (s : List Task) (i : ℕ) (cs : List Call) (first : answer_by pending (release i) s ≡ accepted) where
  abbrev after : List Entry
  after = after_release s i cs

  pub whole : log (answer_by pending) (next_by pending) s (release i ∷ cs) ≡ entry (release i) accepted ∷ after
  unfolding log
  whole = ap (λ a. entry (release i) a ∷ after) first

  -- where a job ends within its period, it has ended once p ticks have passed
  ended_by : EndsBy (p i) (e i) i (log (answer_by pending) (next_by pending) s (release i ∷ cs)) → 1 ≤ p i → count is_tick after ≡ p i → Ended (e i) i after
  ended_by h pos n =
      let c = count_cut is_tick (p i - 1) after (omega arith) in
      let t = tick_entry c.hit c.passes in
      let cut : after ≡ c.front ++ entry tick t.0 ∷ c.back = c.whole ∙ ap (λ x. c.front ++ x ∷ c.back) t.1 in
      let d = h [] c.front c.back t.0 (whole ∙ ap (λ x. entry (release i) accepted ∷ x) cut) (omega (arith, c.before)) in
      subst (Ended (e i) i) (append_snoc c.front (entry tick t.0) c.back ∙ sym cut) (ended_append (e i) i (c.front ++ entry tick t.0 ∷ []) c.back d)

  -- task i has nothing left exactly when its job has ended
  abbrev Done : Task → Type 0
  Done t = t.number ≡ i → (t.left ≡ 0) ↔ Ended t.budget i after

  -- once it has ended, the task at place k, which is task i with its budget, has nothing left
  ended_left : Ones s → Form s → Each Fresh s → (k : ℕ) → k < length s → (nth s k).number ≡ i → (nth s k).budget ≡ e i → count (is_release i) after ≡ 0 → Ended (e i) i after → (nth (run (next_by pending) (next_by pending (release i) s) cs) k).left ≡ 0
  unfolding run bare with_job
  ended_left ones form fresh k lt number budget none d =
      let s' = run (next_by pending) (next_by pending (release i) s) cs in
      let same : bare (nth s' k) ≡ bare (nth s k) = run_kept (next_by pending) (λ x. bare (nth x k) ≡ bare (nth s k)) (λ c x q. bare_nth pending c x k ∙ q) (release i ∷ cs) s refl in
      let len : length s' ≡ length s = run_kept (next_by pending) (λ x. length x ≡ length s) (λ c x q. length_next pending c x ∙ q) (release i ∷ cs) s refl in
      let ended = subst (λ x. Each Done x.tasks) (plain_run (release i ∷ cs) s ones) (pending_ended (plain s) form fresh (release i ∷ cs) [] after i (plain_log (release i ∷ cs) s ones ∙ whole) none) in
      (each_at Done no_task s' k (omega arith) ended (ap (λ t. t.number) same ∙ number)).1 (subst (λ b. Ended b i after) (sym (ap (λ t. t.budget) same ∙ budget)) d)

-- the fresh tasks xs above a task i that has just been released, before the first round
module _ (p e w : ℕ → ℕ) (xs : List ℕ) (i : ℕ) (form : Form (bench_tasks p e xs)) (periods : Each (λ j. 1 ≤ p j) xs) (meets : EachMeets p e w xs) where
  numbers_fresh : (l : List ℕ) → numbers_of (bench_tasks p e l) ≡ l
  unfolding fresh_tasks
  numbers_fresh [] = refl
  numbers_fresh (j ∷ l) = ap (λ (x : List ℕ). j ∷ x) (numbers_fresh l)

  asks_fresh : (t : ℕ) (l : List ℕ) → sum_of (asked t) (bench_tasks p e l) ≡ sum (request p e t) l
  unfolding sum_of sum request fresh_tasks
  asks_fresh t [] = refl
  asks_fresh t (j ∷ l) = ap (λ x. request p e t j + x) (asks_fresh t l)

  work_fresh : (l : List ℕ) → work (bench_tasks p e l) ≡ 0
  unfolding sum_of fresh_tasks
  work_fresh [] = refl
  work_fresh (j ∷ l) = omega (arith, work_fresh l)

  none_asked : (l : List ℕ) → Each (λ j. 1 ≤ p j) l → sum (request p e 0) l ≡ 0
  unfolding sum request Each
  none_asked [] h = refl
  none_asked (j ∷ l) h = rw (ceiling_zero (p j) h.0, mul-zero (e j)) (omega (arith, none_asked l h.1))

  timed_fresh : (l : List ℕ) → Each (λ j. 1 ≤ p j) l → Each (Timed 0) (bench_tasks p e l)
  unfolding fresh_tasks Each
  timed_fresh [] h = tt
  timed_fresh (j ∷ l) h = (rw (ceiling_zero (p j) h.0, mul-zero (p j)) (omega arith), timed_fresh l h.1)

  held_first : 1 ≤ e i → Held p e w xs i 0 (bench_tasks p e xs) (with_job (bench_task (p i) (e i) i) 0 (e i))
  unfolding level with_job
  held_first pos = record {
    above = record {
      numbers = numbers_fresh xs;
      asks = λ t. asks_fresh t xs;
      good = record { ones = bench_ones p e xs; good = good_idle (λ k. 0) w e (plain (bench_tasks p e xs)) (plain_form _ form) (each_of _ (λ t x. x.left) (all_fresh p e (λ i. 1) xs)) (meets_demand p e w xs form periods meets) (fresh_budgets p e (λ i. 1) xs) };
    };
    timed = timed_fresh xs periods;
    total = omega (arith, work_fresh xs, none_asked xs periods);
    waits = pos;
  }

-- a fresh task is released at once
fresh_accepted : (p e i : ℕ) → release_answer (bench_task p e i) ≡ accepted
unfolding release_answer early pending
fresh_accepted p e i = rw (le-ltb p p (omega arith))

-- a task i below tasks xs that all fit: as long as no t up to n meets its demand, its job is pending after n rounds of the worst run
module _ (p e w : ℕ → ℕ) (xs : List ℕ) (i : ℕ) (ys : List ℕ) (form : Form (bench_tasks p e (xs ++ i ∷ ys))) (periods : Each (λ j. 1 ≤ p j) (xs ++ i ∷ ys)) (budget : 1 ≤ e i) (meets : EachMeets p e w xs) (n : ℕ) (short : Short (level p e xs i) n) where
  abbrev pub all : List Task
  all = bench_tasks p e (xs ++ i ∷ ys)

  abbrev higher : List Task
  higher = bench_tasks p e xs

  abbrev own : Task
  own = bench_task (p i) (e i) i

  abbrev lower : List Task
  lower = bench_tasks p e ys

  abbrev begun : Task
  begun = with_job own 0 (e i)

  abbrev pub cs : List Call
  cs = rounds xs n

  parts : all ≡ higher ++ own ∷ lower
  unfolding fresh_tasks
  parts = fresh_append p e xs (i ∷ ys)

  pub first : answer_by pending (release i) all ≡ accepted
  first = each_between _ xs i ys refl (fresh_each p e (λ i. 1) (λ t. answer_by pending (release t.number) all ≡ release_answer t) (xs ++ i ∷ ys) (own_answer pending all form.distinct)) ∙ fresh_accepted (p i) (e i) i

  apart : Each (λ t. t.number ≡ i → ⊥) higher
  unfolding Distinct
  apart = pairs_before Distinct higher own lower (subst (EachPair Distinct) parts form.distinct)

  started : next_by pending (release i) all ≡ higher ++ begun ∷ lower
  started = ap (next_by pending (release i)) parts ∙ release_at higher own lower i apart refl ∙ ap (λ t. higher ++ t ∷ lower) (release_started own (fresh_accepted (p i) (e i) i))

  upper_form : Form higher
  upper_form = subst Form (ap (take (length higher)) parts ∙ take-append_seam higher (own ∷ lower)) (form_take (length higher) all form)

  upper_periods : Each (λ j. 1 ≤ p j) xs
  upper_periods = (each_halves _ xs (i ∷ ys) periods).0

  -- the level after the run: its last task is pending
  pending_after : 0 < (nth (run (next_by pending) (next_by pending (release i) all) cs) (length higher)).left
  pending_after =
      let k = length higher in
      let r = rounds_held p e w xs i n 0 higher begun (λ t x y. short t x (omega arith)) (held_first p e w xs i upper_form upper_periods meets budget) in
      let front : take (suc k) (next_by pending (release i) all) ≡ higher ++ begun ∷ [] = ap (take (suc k)) (started ∙ sym (append_snoc higher begun lower)) ∙ take_at (higher ++ begun ∷ []) lower (suc k) (length-append higher (begun ∷ []) ∙ omega arith) in
      let level-run = take_run (suc k) cs (next_by pending (release i) all) ∙ ap (λ x. run (next_by pending) x cs) front ∙ r.2 in
      let last : nth (run (next_by pending) (next_by pending (release i) all) cs) k ≡ r.1 = sym (get_or-take (suc k) (run (next_by pending) (next_by pending (release i) all) cs) k no_task (omega arith)) ∙ ap (λ x. nth x k) level-run ∙ get_or_at r.0 r.1 [] no_task k r.3 in
      rw last r.4

  pub ticks_after : count is_tick (after_release all i cs) ≡ n
  unfolding count is_tick to_tick
  ticks_after = omega (arith, count_rounds is_tick 1 xs (each_all _ xs (λ j a. refl)) (λ a. refl) n (next_by pending (release i) all))

  pub not_ended : Ended (e i) i (after_release all i cs) → ⊥
  unfolding count is_release to_release
  not_ended d =
      let k = length higher in
      let place : nth all k ≡ own = ap (λ x. nth x k) parts ∙ get_or_at higher own lower no_task k refl in
      let many : length all ≡ k + suc (length lower) = ap length parts ∙ length-append higher (own ∷ lower) in
      let others = count_rounds (is_release i) 0 xs (each_of xs (λ j d a. not_counted j a d) (fresh_each p e (λ i. 1) (λ t. t.number ≡ i → ⊥) xs apart)) (λ a. refl) n (next_by pending (release i) all) in
      omega (arith, pending_after, ended_left p e all i cs first (bench_ones p e (xs ++ i ∷ ys)) form (all_fresh p e (λ i. 1) (xs ++ i ∷ ys)) k (omega arith) (ap (λ t. t.number) place) (ap (λ t. t.budget) place) (omega (arith, others)) d)
    where
      not_counted : (j : ℕ) (a : Answer) → (j ≡ i → ⊥) → count (is_release i) (entry (release j) a ∷ []) ≡ 0
      not_counted j a d = let x : eqb j i ≡ false = ne_eqb _ _ d in rw x

  -- so it does not end within a period of n
  late : ((cs : List Call) → EndsBy (p i) (e i) i (log (answer_by pending) (next_by pending) all cs)) → p i ≡ n → ⊥
  late h z = not_ended (ended_by p e all i cs first (h (release i ∷ cs)) (each_between _ xs i ys refl periods) (ticks_after ∙ sym z))

-- where each task of a list fits, so does each of those before one of them
pub meets_front : (p e w : ℕ → ℕ) (l xs : List ℕ) (i : ℕ) (ys : List ℕ) → l ≡ xs ++ i ∷ ys → EachMeets p e w l → EachMeets p e w xs
meets_front p e w l xs i ys s h us j vs t = h us j (vs ++ i ∷ ys) (s ∙ ap (λ (x : List ℕ). x ++ i ∷ ys) t ∙ append_assoc us (j ∷ vs) (i ∷ ys))

-- where each task fits or falls short, and no run leaves a job pending, each fits
module _ (p e w : ℕ → ℕ) (l : List ℕ) (form : Form (bench_tasks p e l)) (periods : Each (λ j. 1 ≤ p j) l) (budgets : Each (λ j. 1 ≤ e j) l) (h : (cs : List Call) (j : ℕ) → EndsBy (p j) (e j) j (log (answer_by pending) (next_by pending) (bench_tasks p e l) cs)) (pick : (xs : List ℕ) (i : ℕ) (ys : List ℕ) → l ≡ xs ++ i ∷ ys → Meets (level p e xs i) (p i) (w i) ⊎ Short (level p e xs i) (p i)) where
  meets_before : (n : ℕ) (xs : List ℕ) (i : ℕ) (ys : List ℕ) → length xs < n → l ≡ xs ++ i ∷ ys → Meets (level p e xs i) (p i) (w i)
  meets_before zero xs i ys lt s = absurd (omega arith)
  meets_before (suc n) xs i ys lt s =
      let prior : EachMeets p e w xs = λ us j vs t. meets_before n us j (vs ++ i ∷ ys) (omega (arith, ap length t, length-append us (j ∷ vs))) (s ∙ ap (λ (x : List ℕ). x ++ i ∷ ys) t ∙ append_assoc us (j ∷ vs) (i ∷ ys)) in
      ⊎_elim (λ f. f) (λ short. absurd (late p e w xs i ys (subst (λ x. Form (bench_tasks p e x)) s form) (subst (Each (λ j. 1 ≤ p j)) s periods) (each_between _ xs i ys s budgets) prior (p i) short (λ cs. subst (λ x. EndsBy (p i) (e i) i (log (answer_by pending) (next_by pending) (bench_tasks p e x) cs)) s (h cs i)) refl)) (pick xs i ys s)

  pub each_meets : EachMeets p e w l
  each_meets xs i ys s = meets_before (suc (length xs)) xs i ys (omega arith) s
