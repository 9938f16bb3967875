-- The margins of a job list are zero or more exactly when no run from its bench start leaves a job pending once its period has passed; and
-- on a core of a sheet that the checker accepts each is at least p - w.
-- Assumes nothing.
use Prim.Native.Nat.{ℕ, ◌+◌, ◌-◌, ◌≤◌, ◌<◌, zero-le}
use mathlib.Core.Path.{◌≡◌, refl, sym, ap, subst, fun_ext, ◌∙◌}
use mathlib.Core.Logic.{◌⊎◌}
use mathlib.Core.Bool.{Bool, true, false, cond}
use Rattle.std.specs.Prelude.{Option, None, Some}
use mathlib.Core.List.{List, [], ◌∷◌, ◌++◌}
use native.Mathlib.Omega.{arith}
use lib.Dec.{ltb, le→leb}
use lib.IntN.{ℤ, pos}
use lib.Signed.{◌≤ℤ◌}
use borrow.Author.Tests.{ltb-true, lt-ltb}
use Rattle.sheet.specs.Table.{Refused, scan}
use Rattle.sheet.specs.Views.{figures}
use Rattle.fit.specs.declared.By.TheVariants.{Period}
use Rattle.fit.specs.Lists.{numbers, sum, select, Each, EachPair}
use Rattle.fit.specs.Priority.{above, Above}
use Rattle.fit.specs.Ring.{order_by}
use Rattle.fit.specs.Fits.{within}
use Rattle.fit.specs.Cores.{order_on, within_on}
use Rattle.fit.proofs.Lists.{each_of, each_split, each_between, each_occurs, sum_select}
use Rattle.fit.proofs.Priority.{order_sum, order_members, order_holds, order_rising}
use Rattle.fit.proofs.Rings.{all_tasks}
use Rattle.jobs.specs.Jobs.{job_count, job_period, job_budget, list_rows, Listed}
use Rattle.jobs.proofs.Laws.{listed}
use Rattle.checker.specs.Verdict.{verdict, accepted}
use Rattle.checker.specs.Accepted.{Schedulable}
use Rattle.checker.proofs.Views.{core_of}
use Rattle.timing.specs.declared.Task.{Task}
use Rattle.timing.specs.Tasks.{pending}
use Rattle.timing.specs.Calls.{Call, release, answer_by, next_by, answer, next, log}
use Rattle.timing.specs.Form.{Form}
use Rattle.timing.specs.OnTime.{EndsBy, OnTime}
use Rattle.timing.proofs.Plain.{Ones, plain_log}
use Rattle.state.specs.Operations.{ask, step}
use Rattle.dispatcher.specs.Starts.{fresh_tasks, state_of, list_answer, list_state, FreshCore}
use Rattle.state.proofs.Logs.{log_form}
use Rattle.dispatcher.proofs.Starts.{state_tasks, state_places, state_form, state_plain, list_fresh}
use Rattle.dispatcher.proofs.Schedule.{level_room}
use Rattle.margin.specs.Margin.{tasks_above, request, demand, smallest, margin_from, margin}
use Rattle.margin.specs.Answers.{ticks, refused, margin_in, answer_from, margin_answer}
use Rattle.margin.specs.Exact.{NoneBelowZero, NonePending, bench_log, PendingAfter, Exact, MarginsAtLeast}
use Rattle.margin.proofs.Demands.{demand_level, Meets, Short, response, meets_or_short, meets_margin, meets_positive, positive_meets, margin_response, response_short}
use Rattle.margin.proofs.Enough.{bench_tasks, bench_ones, level, level_window, EachMeets, meets_on_time, meets_alone}
use Rattle.margin.proofs.Releases.{rounds}
use Rattle.margin.proofs.Needed.{after_release, whole, first, ticks_after, not_ended, meets_front, each_meets}

-- the smallest t of each task, or its period
abbrev bound : (ℕ → ℕ) → (ℕ → ℕ) → List ℕ → ℕ → ℕ
bound p e l i = response (demand p e l i) (p i)

-- in priority order the demand of a task is that of its level
module _ (p e : ℕ → ℕ) (l : List ℕ) (rising : EachPair (Above p) l) where
  levels : (xs : List ℕ) (i : ℕ) (ys : List ℕ) → l ≡ xs ++ i ∷ ys → demand p e l i ≡ level p e xs i
  unfolding level
  levels xs i ys s = fun_ext (λ t. demand_level p e l xs i ys t rising s)

  -- where each task meets its demand at some w, its level does, and back
  meets_levels : (w : ℕ → ℕ) → Each (λ i. Meets (demand p e l i) (p i) (w i)) l → EachMeets p e w l
  meets_levels w h xs i ys s = subst (λ d. Meets d (p i) (w i)) (levels xs i ys s) (each_between _ xs i ys s h)

  level_meets : (w : ℕ → ℕ) → EachMeets p e w l → Each (λ i. Meets (demand p e l i) (p i) (w i)) l
  level_meets w h = each_split _ l (λ xs i ys s. subst (λ d. Meets d (p i) (w i)) (sym (levels xs i ys s)) (h xs i ys s))

  pick : (xs : List ℕ) (i : ℕ) (ys : List ℕ) → l ≡ xs ++ i ∷ ys → Meets (level p e xs i) (p i) (bound p e l i) ⊎ Short (level p e xs i) (p i)
  pick xs i ys s = subst (λ d. Meets d (p i) (bound p e l i) ⊎ Short d (p i)) (levels xs i ys s) (meets_or_short (demand p e l i) (p i))

-- the order in which the tasks are named does not matter
demand_order : (p e : ℕ → ℕ) (n i : ℕ) → demand p e (numbers 0 n) i ≡ demand p e (order_by Period p n) i
unfolding demand tasks_above order_by
demand_order p e n i = fun_ext (λ t. ap (λ (s : ℕ). e i + s) (same (request p e t)))
  where
    same : (f : ℕ → ℕ) → sum f (select (λ j. above p j i) (numbers 0 n)) ≡ sum f (select (λ j. above p j i) (order_by Period p n))
    same f =
        let g : ℕ → ℕ = λ j. cond (above p j i) (f j) 0 in
        sum_select f (λ j. above p j i) (numbers 0 n) ∙ ap (sum g) (sym (all_tasks n)) ∙ sym (order_sum p (λ j. 0) 0 g n) ∙ sym (sum_select f (λ j. above p j i) (order_by Period p n))

-- the log from the state of tasks in form whose strokes are of one tick is that of the tasks
state_log : (ts : List Task) → Ones ts → Form ts → (cs : List Call) → log ask step (state_of ts) cs ≡ log (answer_by pending) (next_by pending) ts cs
state_log ts ones form cs = log_form cs (state_of ts) (state_places ts form.count) (state_form ts form) ∙ ap (λ s. log answer next s cs) (state_plain ts) ∙ plain_log cs ts ones

-- a list that is refused: no margin is answered, and no release is accepted
refused_exact : (l : List ℕ) (r : Refused) → scan (list_rows 0 l) ≡ Some r → Exact l
unfolding NoneBelowZero NonePending margin_answer answer_from list_state fresh_tasks Each EachPair
refused_exact l r x = record {
  enough = λ h cs j. (rule (job_period l) cs).ends j;
  needed = λ h j m a. absurd (none_answered j m a);
  on_time = λ h. rule (job_period l);
  ends = λ j m t a. absurd (none_answered j (pos m) a);
  no_sooner = λ h j m t a. absurd (none_answered j (pos m) a);
}
  where
    none_answered : (j : ℕ) (m : ℤ) → margin_answer l j ≡ ticks m → ⊥
    none_answered j m a = let z : ◌≡◌ {A = ℕ} 0 1 = cc (a, x) in omega arith

    form : Form []
    form = record { count = zero-le; sound = tt; distinct = tt; ordered = tt }

    split : (xs : List ℕ) (i : ℕ) (ys : List ℕ) → [] ≡ xs ++ i ∷ ys → ⊥
    split [] i ys s = let z : ◌≡◌ {A = ℕ} 0 1 = cc in omega arith
    split (y ∷ xs) i ys s = let z : ◌≡◌ {A = ℕ} 0 1 = cc in omega arith

    rule : (v : ℕ → ℕ) (cs : List Call) → OnTime v (job_budget l) (bench_log l cs)
    rule v cs = subst (OnTime v (job_budget l)) (sym (ap (λ o. log ask step (list_state o l) cs) x ∙ state_log [] tt form cs)) (meets_on_time (job_period l) (job_budget l) (λ j. 0) [] form tt (λ xs i ys s. absurd (split xs i ys s)) v tt cs)

-- a list that breaks no rule: its tasks in priority order, and for each the smallest t, or its period
module _ (l : List ℕ) (clear : None ≡ scan (list_rows 0 l)) where
  abbrev p : ℕ → ℕ
  p = job_period l

  abbrev e : ℕ → ℕ
  e = job_budget l

  abbrev ord : List ℕ
  ord = order_by Period p (job_count l)

  abbrev w : ℕ → ℕ
  w = bound p e ord

  fine : Listed 0 l
  fine = listed 0 l clear

  members : Each (λ i. i < job_count l) ord
  unfolding order_by
  members = each_of _ (λ i h. h.0) (order_members p (λ i. 0) 0 (job_count l))

  rising : EachPair (Above p) ord
  unfolding order_by
  rising = order_rising p (λ i. 0) 0 (job_count l)

  periods : Each (λ i. 1 ≤ p i) ord
  periods = each_of ord (λ i h. (fine.period i h).0) members

  budgets : Each (λ i. 1 ≤ e i) ord
  budgets = each_of ord (λ i h. (fine.budget i h).0) members

  -- its bench start
  form : Form (bench_tasks p e ord)
  unfolding list_state list_answer
  form = subst Form (state_tasks (bench_tasks p e ord)) (subst (λ o. FreshCore (list_state o l)) (sym clear) (list_fresh l (ap list_answer (sym clear)))).form.form.tasks

  bench : (cs : List Call) → bench_log l cs ≡ log (answer_by pending) (next_by pending) (bench_tasks p e ord) cs
  unfolding list_state
  bench cs = ap (λ o. log ask step (list_state o l) cs) (sym clear) ∙ state_log (bench_tasks p e ord) (bench_ones p e ord) form cs

  -- the sign of a margin
  meets_margin_in : (i : ℕ) → Meets (demand p e ord i) (p i) (w i) → pos 0 ≤ℤ margin_in l i
  unfolding margin
  meets_margin_in i f = subst (λ d. pos 0 ≤ℤ margin_from (p i) (d (p i)) (smallest d (p i))) (sym (demand_order p e (job_count l) i)) (meets_positive (demand p e ord i) (p i) (w i) f)

  margin_in_meets : (i : ℕ) → i < job_count l → pos 0 ≤ℤ margin_in l i → Meets (demand p e ord i) (p i) (w i)
  unfolding margin
  margin_in_meets i lt m = positive_meets (demand p e ord i) (p i) (fine.period i lt).0 (subst (λ d. pos 0 ≤ℤ margin_from (p i) (d (p i)) (smallest d (p i))) (demand_order p e (job_count l) i) m)

  -- a margin is answered for each task of the list, and for no other number
  answered : (j : ℕ) → j < job_count l → margin_answer l j ≡ ticks (margin_in l j)
  unfolding margin_answer answer_from
  answered j lt = ap (λ o. answer_from o l j) (sym clear) ∙ rw (lt-ltb j (job_count l) lt)

  answers : (j : ℕ) (m : ℤ) → margin_answer l j ≡ ticks m → (j < job_count l) × (margin_in l j ≡ m)
  unfolding margin_answer answer_from
  answers j m a = by (ltb j (job_count l)) refl (ap (λ o. answer_from o l j) clear ∙ a)
    where
      by : (b : Bool) → ltb j (job_count l) ≡ b → cond b (ticks (margin_in l j)) (refused 17 0) ≡ ticks m → (j < job_count l) × (margin_in l j ≡ m)
      by true x q = (ltb-true j (job_count l) x, cc)
      by false x q = absurd (let z : ◌≡◌ {A = ℕ} 0 1 = cc in omega arith)

  -- where every margin is zero or more, each task meets its demand at its smallest t; what that leaves of its period is its margin
  all_meet : NoneBelowZero l → Each (λ i. Meets (demand p e ord i) (p i) (w i)) ord
  unfolding NoneBelowZero
  all_meet h = each_of ord (λ i lt. margin_in_meets i lt (h i (margin_in l i) (answered i lt))) members

  in_order : (P : ℕ → Type 0) (j : ℕ) (m : ℤ) → margin_answer l j ≡ ticks m → Each P ord → P j
  unfolding order_by
  in_order P j m a h = each_occurs P j ord (order_holds p (λ i. 0) 0 (job_count l) j (answers j m a).0 refl) h

  left_over : (i : ℕ) → Meets (demand p e ord i) (p i) (w i) → margin_in l i ≡ pos (p i - w i)
  unfolding margin
  left_over i f = ap (λ d. margin_from (p i) (d (p i)) (smallest d (p i))) (demand_order p e (job_count l) i) ∙ margin_response (demand p e ord i) (p i) f

  -- enough
  rule : NoneBelowZero l → (v : ℕ → ℕ) → Each (λ i. w i ≤ v i) ord → (cs : List Call) → OnTime v e (bench_log l cs)
  rule h v later cs = subst (OnTime v e) (sym (bench cs)) (meets_on_time p e w ord form periods (meets_levels p e ord rising w (all_meet h)) v later cs)

  on_time : NoneBelowZero l → (cs : List Call) → OnTime p e (bench_log l cs)
  on_time h cs = rule h p (each_of ord (λ i f. f.to) (all_meet h)) cs

  -- one task alone
  alone : (cs : List Call) → Each (λ i. Meets (demand p e ord i) (p i) (w i) → EndsBy (w i) (e i) i (bench_log l cs)) ord
  alone cs = each_split _ ord (λ xs i ys s f. subst (EndsBy (w i) (e i) i) (sym (bench cs)) (meets_alone p e ord xs i ys (w i) form periods s (subst (λ d. Meets d (p i) (w i)) (levels p e ord rising xs i ys s) f) cs))

  ends : (j m t : ℕ) → margin_answer l j ≡ ticks (pos m) → t + m ≡ p j → (cs : List Call) → EndsBy t (e j) j (bench_log l cs)
  ends j m t a n cs =
      let k = answers j (pos m) a in
      let f = margin_in_meets j k.0 (subst (λ z. pos 0 ≤ℤ z) (sym k.1) (record { le = le→leb 0 m (omega arith) })) in
      let same : pos (p j - w j) ≡ pos m = sym (left_over j f) ∙ k.1 in
      let q : p j - w j ≡ m = cc in
      let z : w j ≡ t = omega (arith, f.to) in
      subst (λ v. EndsBy v (e j) j (bench_log l cs)) z (in_order _ j (pos m) a (alone cs) f)

  -- needed
  needed : NonePending l → NoneBelowZero l
  unfolding NonePending NoneBelowZero
  needed h j m a =
      let meets = each_meets p e w ord form periods budgets (λ cs i. subst (EndsBy (p i) (e i) i) (bench cs) (h cs i)) (pick p e ord rising) in
      subst (λ z. pos 0 ≤ℤ z) (answers j m a).1 (meets_margin_in j (in_order _ j m a (level_meets p e ord rising w meets)))

  -- no sooner
  worst : EachMeets p e w ord → (t : ℕ) → Each (λ j. t < w j → PendingAfter l j t) ord
  worst meets t = each_split _ ord at
    where
      at : (xs : List ℕ) (i : ℕ) (ys : List ℕ) → ord ≡ xs ++ i ∷ ys → t < w i → PendingAfter l i t
      at xs i ys s lt =
          let own = meets xs i ys s in
          let short : Short (level p e xs i) t = subst (λ d. Short d t) (levels p e ord rising xs i ys s) (response_short (demand p e ord i) (p i) t lt (omega (arith, own.to))) in
          let form' = subst (λ x. Form (bench_tasks p e x)) s form in
          let periods' = subst (Each (λ j. 1 ≤ p j)) s periods in
          let budget = each_between _ xs i ys s budgets in
          let higher = meets_front p e w ord xs i ys s meets in
          let first' = first p e w xs i ys form' periods' budget higher t short in
          record {
            calls = release i ∷ rounds xs t;
            before = [];
            since = after_release (bench_tasks p e (xs ++ i ∷ ys)) i (rounds xs t);
            split = bench (release i ∷ rounds xs t) ∙ ap (λ x. log (answer_by pending) (next_by pending) (bench_tasks p e x) (release i ∷ rounds xs t)) s ∙ whole p e (bench_tasks p e (xs ++ i ∷ ys)) i (rounds xs t) first';
            ticks_since = ticks_after p e w xs i ys form' periods' budget higher t short;
            pending = not_ended p e w xs i ys form' periods' budget higher t short;
          }

  no_sooner : NoneBelowZero l → (j m t : ℕ) → margin_answer l j ≡ ticks (pos m) → t + m < p j → PendingAfter l j t
  no_sooner h j m t a lt =
      let same : pos (p j - w j) ≡ pos m = sym (left_over j (in_order _ j (pos m) a (all_meet h))) ∙ (answers j (pos m) a).1 in
      let q : p j - w j ≡ m = cc in
      in_order _ j (pos m) a (worst (meets_levels p e ord rising w (all_meet h)) t) (omega (arith, (in_order _ j (pos m) a (all_meet h)).to))

  clear_exact : Exact l
  unfolding NonePending
  clear_exact = record { enough = λ h cs j. (on_time h cs).ends j; needed = needed; on_time = on_time; ends = ends; no_sooner = no_sooner }

-- The margins of a job list are exact.
pub exact : (l : List ℕ) → Exact l
exact l = by (scan (list_rows 0 l)) refl
  where
    by : (o : Option Refused) → scan (list_rows 0 l) ≡ o → Exact l
    by None x = clear_exact l (sym x)
    by (Some r) x = refused_exact l r x

-- a core that fits: each w meets the demand
schedule_meets : (p e q M : ℕ → ℕ) (Q D : ℕ) (l : List ℕ) → Schedulable p e q M Q D l → EachMeets p e (λ i. within Q D (M i)) l
schedule_meets p e q M Q D l h xs i ys s =
    let b = each_between _ xs i ys s h.bounds in
    let pos : 1 ≤ within Q D (M i) = omega (arith, b.0, (each_between _ xs i ys s h.budget).0) in
    record { from = pos; to = b.1; enough = omega (arith, level_window p e q (within Q D (M i)) l xs i ys pos b.1 (each_of l (λ j x. x.0) h.period) s, level_room p e q M Q D l h xs i ys s) }

-- On each core of a sheet that the checker accepts each margin is at least p - w.
pub sheet_margins : (s : List ℕ) (n c k : ℕ) → verdict s ≡ accepted n c → k < c → MarginsAtLeast s k
unfolding MarginsAtLeast margin within_on
sheet_margins s n c k v h =
    let f = figures s in
    let meets = (core_of s n c k v h).schedulable in
    each_of _ (λ i x. meets_margin (demand f.period f.budget (order_on f k) i) (f.period i) (within_on f k i) x) (level_meets f.period f.budget (order_on f k) meets.order (within_on f k) (schedule_meets _ _ _ _ _ _ _ meets))
