-- Fresh tasks in form are on time where what each level asks for in w ticks fits in w ticks; and that is so of a core that the checker
-- accepts, by its figures.
-- Assumes nothing.
use Prim.Native.Nat.{ℕ, zero, suc, ◌+◌, ◌*◌, ◌-◌, ◌/◌, ◌≤◌, ◌<◌}
use mathlib.Core.Path.{◌≡◌, refl, sym, ap, subst, ◌∙◌}
use mathlib.Core.Logic.{◌⊎◌, inl, inr}
use mathlib.Core.List.{List, [], ◌∷◌, ◌++◌}
use native.Mathlib.Nat.{mul-div_right, mul-one, mul_comm, mul_assoc, add-mul, zero-mul}
use native.Mathlib.Omega.{arith}
use lib.ListN.{length, get_or, take, drop, length-map}
use lib.Seq.{split_at, take-suc, append_snoc}
use Rattle.fit.specs.Lists.{sum, Each, EachPair}
use Rattle.fit.specs.Fits.{Multiple, load, blocking, level_load, LevelsFit, within}
use Rattle.fit.proofs.Lists.{each_both, each_append, each_halves, each_at, pairs_before, each_between, each_all, each_of}
use Rattle.checker.specs.Accepted.{Schedulable}
use Rattle.timing.specs.declared.Task.{Task}
use Rattle.timing.specs.Calls.{Call, release, answer, next, log, run}
use Rattle.timing.specs.Form.{Sound, Distinct, Above, Form, Fresh}
use Rattle.timing.specs.OnTime.{OnTime}
use Rattle.timing.specs.Serving.{nth, ByHistory}
use Rattle.timing.specs.Strokes.{StateForm, Unbroken, GoesOn, FreeAgain}
use Rattle.timing.proofs.Rate.{sum_of, rate, rate_le}
use Rattle.timing.proofs.Demand.{Demand, room_of_load}
use Rattle.timing.proofs.OnTime.{on_time}
use Rattle.timing.proofs.Later.{on_time_later}
use Rattle.timing.proofs.Own.{released_listed}
use Rattle.timing.proofs.History.{by_history}
use Rattle.timing.proofs.Unbroken.{unbroken}
use Rattle.timing.proofs.Choice.{Figured, goes_on, free_again}
use Rattle.timing.proofs.Plain.{plain, plain_form}
use Rattle.dispatcher.specs.Starts.{fresh_task, fresh_tasks}
use Rattle.fit.specs.Priority as priority

-- what follows for one pair follows for each pair of a list
pairs_of : {R S : ℕ → ℕ → Type 0} (l : List ℕ) → ((i j : ℕ) → R i j → S i j) → EachPair R l → EachPair S l
unfolding EachPair
pairs_of [] f h = tt
pairs_of (i ∷ l) f h = (each_of l (f i) h.0, pairs_of l f h.1)

-- no stroke of a list is longer than its blocking term and one; with strokes of one tick there is no blocking
each_blocking : (q : ℕ → ℕ) (l : List ℕ) → Each (λ i. q i ≤ blocking q l + 1) l
unfolding blocking Each
each_blocking q [] = tt
each_blocking q (i ∷ l) = (omega arith, each_of l (λ j h. omega arith) (each_blocking q l))

pub blocking_ones : (l : List ℕ) → blocking (λ i. 1) l ≡ 0
unfolding blocking
blocking_ones [] = refl
blocking_ones (i ∷ l) = omega (arith, blocking_ones l)

module _ (p e q : ℕ → ℕ) where
  -- a property of each fresh task is one of each number, both ways, and so for pairs
  each_fresh : (P : Task → Type 0) (l : List ℕ) → Each (λ i. P (fresh_task (p i) (e i) (q i) i)) l → Each P (fresh_tasks p e q l)
  unfolding fresh_tasks Each
  each_fresh P [] h = tt
  each_fresh P (i ∷ l) h = (h.0, each_fresh P l h.1)

  pub fresh_each : (P : Task → Type 0) (l : List ℕ) → Each P (fresh_tasks p e q l) → Each (λ i. P (fresh_task (p i) (e i) (q i) i)) l
  unfolding fresh_tasks Each
  fresh_each P [] h = tt
  fresh_each P (i ∷ l) h = (h.0, fresh_each P l h.1)

  pairs_fresh : (R : Task → Task → Type 0) (l : List ℕ) → EachPair (λ i j. R (fresh_task (p i) (e i) (q i) i) (fresh_task (p j) (e j) (q j) j)) l → EachPair R (fresh_tasks p e q l)
  unfolding fresh_tasks EachPair
  pairs_fresh R [] h = tt
  pairs_fresh R (i ∷ l) h = (each_fresh (R (fresh_task (p i) (e i) (q i) i)) l h.0, pairs_fresh R l h.1)

  pub fresh_length : (l : List ℕ) → length (fresh_tasks p e q l) ≡ length l
  unfolding fresh_tasks
  fresh_length l = length-map l _

  -- the task at a place, and the first k tasks
  nth_fresh : (l : List ℕ) (k : ℕ) → k < length l → nth (fresh_tasks p e q l) k ≡ fresh_task (p (get_or l k 0)) (e (get_or l k 0)) (q (get_or l k 0)) (get_or l k 0)
  unfolding fresh_tasks
  nth_fresh [] k h = absurd (omega arith)
  nth_fresh (i ∷ l) zero h = refl
  nth_fresh (i ∷ l) (suc k) h = nth_fresh l k (omega arith)

  take_fresh : (k : ℕ) (l : List ℕ) → take k (fresh_tasks p e q l) ≡ fresh_tasks p e q (take k l)
  unfolding fresh_tasks
  take_fresh zero l = refl
  take_fresh (suc k) [] = refl
  take_fresh (suc k) (i ∷ l) = ap (λ x. fresh_task (p i) (e i) (q i) i ∷ x) (take_fresh k l)

  drop_fresh : (k : ℕ) (l : List ℕ) → drop k (fresh_tasks p e q l) ≡ fresh_tasks p e q (drop k l)
  unfolding fresh_tasks
  drop_fresh zero l = refl
  drop_fresh (suc k) [] = refl
  drop_fresh (suc k) (i ∷ l) = drop_fresh k l

  -- fresh tasks are fresh
  pub all_fresh : (l : List ℕ) → Each Fresh (fresh_tasks p e q l)
  unfolding fresh_tasks Each
  all_fresh [] = tt
  all_fresh (i ∷ l) = (record { age = refl; left = refl }, all_fresh l)

  -- and have their budgets by number
  pub fresh_budgets : (l : List ℕ) → Each (λ t. e t.number ≡ t.budget) (fresh_tasks p e q l)
  fresh_budgets l = each_fresh (λ t. e t.number ≡ t.budget) l (each_all _ l (λ i. refl))

  -- and their stroke lengths
  pub fresh_strokes : (l : List ℕ) → Each (λ t. q t.number ≡ t.stroke) (fresh_tasks p e q l)
  fresh_strokes l = each_fresh (λ t. q t.number ≡ t.stroke) l (each_all _ l (λ i. refl))

  pub fresh_figures : (l : List ℕ) → Each (Figured p e q) (fresh_tasks p e q l)
  fresh_figures l = each_fresh (Figured p e q) l (each_all _ l (λ i. (refl, refl, refl)))

  abbrev Ranges : ℕ → Type 0
  Ranges i = ((1 ≤ e i) × (e i ≤ p i)) × ((1 ≤ q i) × (q i ≤ e i))

  -- fresh tasks in range, numbered and in priority order are in form
  pub fresh_form : (l : List ℕ) → length l ≤ 64 → Each (λ i. i < 64) l → Each (λ i. (1 ≤ p i) × (p i ≤ 60000)) l → Each (λ i. (1 ≤ e i) × (e i ≤ p i)) l → Each (λ i. (1 ≤ q i) × (q i ≤ e i)) l → EachPair (priority.Above p) l → Form (fresh_tasks p e q l)
  unfolding Distinct Above priority.Above
  fresh_form l n number period budget stroke above = record {
    count = omega (arith, fresh_length l);
    sound = each_fresh Sound l (each_both l in_range_lem number (each_both l both period (each_both l (λ i x y. (x, y)) budget stroke)));
    distinct = pairs_fresh Distinct l (pairs_of l (λ i j x d. apart i j d x) above);
    ordered = pairs_fresh Above l above;
  }
    where
      both : (i : ℕ) → (1 ≤ p i) × (p i ≤ 60000) → Ranges i → ((1 ≤ p i) × (p i ≤ 60000)) × Ranges i
      both i x y = (x, y)

      in_range_lem : (i : ℕ) → i < 64 → ((1 ≤ p i) × (p i ≤ 60000)) × Ranges i → Sound (fresh_task (p i) (e i) (q i) i)
      in_range_lem i x y = record { number_max = omega arith; period_min = y.0.0; period_max = y.0.1; budget_min = y.1.0.0; budget_max = y.1.0.1; age_max = omega arith; left_max = omega arith; stroke_min = y.1.1.0; stroke_max = y.1.1.1 }

      apart : (i j : ℕ) → i ≡ j → (p i < p j) ⊎ ((p i ≡ p j) × (i < j)) → ⊥
      apart i j d (inl x) = omega (arith, ap p d)
      apart i j d (inr x) = omega arith

-- fresh tasks in form, with bounds w by task number of at most their periods, where what each level asks for in w ticks, and what a task below
-- it may hold the core for, fit in w
module _ (p e q w : ℕ → ℕ) (l : List ℕ) (form : Form (fresh_tasks p e q l)) (bounds : Each (λ i. (1 ≤ w i) × (w i ≤ p i)) l) (room : (xs : List ℕ) (i : ℕ) (ys : List ℕ) → l ≡ xs ++ i ∷ ys → blocking q ys + sum_of (rate (w i)) (fresh_tasks p e q (xs ++ i ∷ [])) ≤ w i) where
  -- the blocking term of a place
  abbrev blocked_at : ℕ → ℕ
  blocked_at k = blocking q (drop (suc k) l)

  -- the demand test is passed
  pub fresh_demand : Demand blocked_at w (fresh_tasks p e q l)
  fresh_demand = record { room = fits; within = upper; blocked = below }
    where
      fits : (k : ℕ) → k < length (fresh_tasks p e q l) → blocked_at k + sum_of (rate (w (nth (fresh_tasks p e q l) k).number)) (take (suc k) (fresh_tasks p e q l)) ≤ w (nth (fresh_tasks p e q l) k).number
      fits k lt =
          let lt' : k < length l = omega (arith, fresh_length p e q l) in
          rw (nth_fresh p e q l k lt', take_fresh p e q (suc k) l, take-suc l k 0 lt') (omega (arith, room (take k l) (get_or l k 0) (drop (suc k) l) (split_at l k 0 lt')))

      upper : (k : ℕ) → k < length (fresh_tasks p e q l) → w (nth (fresh_tasks p e q l) k).number ≤ (nth (fresh_tasks p e q l) k).period
      upper k lt =
          let lt' : k < length l = omega (arith, fresh_length p e q l) in
          rw (nth_fresh p e q l k lt') (each_at (λ i. (1 ≤ w i) × (w i ≤ p i)) 0 l k lt' bounds).1

      below : (k : ℕ) → k < length (fresh_tasks p e q l) → Each (λ t. t.stroke ≤ blocked_at k + 1) (drop (suc k) (fresh_tasks p e q l))
      below k lt = rw (drop_fresh p e q (suc k) l) (each_fresh p e q _ (drop (suc k) l) (each_blocking q (drop (suc k) l)))

  pub plain_fresh_form : StateForm (plain (fresh_tasks p e q l))
  plain_fresh_form = plain_form (fresh_tasks p e q l) form

  -- so every log obeys the on_time rule, and with every later bound too
  fresh_on_time : (cs : List Call) → OnTime w e (log answer next (plain (fresh_tasks p e q l)) cs)
  fresh_on_time cs = on_time blocked_at w e (plain (fresh_tasks p e q l)) plain_fresh_form (all_fresh p e q l) fresh_demand (fresh_budgets p e q l) cs

  pub fresh_later : (v : ℕ → ℕ) → Each (λ i. w i ≤ v i) l → (cs : List Call) → OnTime v e (log answer next (plain (fresh_tasks p e q l)) cs)
  fresh_later v h cs = on_time_later w v e (log answer next (plain (fresh_tasks p e q l)) cs) (fresh_on_time cs) (λ before rest j s. released_listed (λ i. (1 ≤ w i) × (w i ≤ v i)) (plain (fresh_tasks p e q l)) (each_fresh p e q _ l (each_both l (λ i x y. (x.0, y)) bounds h)) cs before rest j s)

-- the load of a list of numbers is D times the sum over its fresh tasks
load_fresh : (p e q M : ℕ → ℕ) (D m : ℕ) (l : List ℕ) → sum_of (λ t. t.budget * (m / M t.number)) (fresh_tasks p e q l) * D ≡ load e M D m l
unfolding load sum sum_of fresh_tasks
load_fresh p e q M D m [] = zero-mul D
load_fresh p e q M D m (i ∷ l) =
    let own : e i * (m / M i) * D ≡ e i * D * (m / M i) = mul_assoc (e i) (m / M i) D ∙ ap (λ x. e i * x) (mul_comm (m / M i) D) ∙ sym (mul_assoc (e i) D (m / M i)) in
    omega (arith, add-mul (e i * (m / M i)) (sum_of (λ t. t.budget * (m / M t.number)) (fresh_tasks p e q l)) D, load_fresh p e q M D m l)

module _ (p e q M : ℕ → ℕ) (Q D : ℕ) (l : List ℕ) (h : Schedulable p e q M Q D l) where
  -- w by task number
  abbrev pub bound : ℕ → ℕ
  bound i = within Q D (M i)

  pub schedule_form : Form (fresh_tasks p e q l)
  schedule_form = fresh_form p e q l h.count h.number h.period h.budget h.stroke h.order

  -- the releases of task j in w of task i, where M j divides M i
  releases : (i j : ℕ) → 1 ≤ bound i → 1 ≤ p j → 1 ≤ M j → Q * M j ≤ p j * D → Multiple (M j) (M i) → (Q * M i / D - 1) / p j + 1 ≤ M i / M j
  unfolding within Multiple
  releases i j pos hp hm acc (c, times) =
      let quot : M i / M j ≡ c = ap (λ x. x / M j) times ∙ mul-div_right c (omega arith) in
      rate_le Q D (M i) (M j) (p j) (M i / M j) (omega (arith, h.divisor)) (omega arith) acc (times ∙ ap (λ x. M j * x) (sym quot)) pos

  ratio : ℕ → ℕ → Type 0
  ratio i j = (Q * M i / D - 1) / p j + 1 ≤ M i / M j

  ratios : (i : ℕ) → 1 ≤ bound i → Each (λ j. Multiple (M j) (M i) → ratio i j) l
  unfolding ratio
  ratios i pos = each_both l (λ j x y. y x.0) h.period (each_both {R = λ j. 1 ≤ p j → Multiple (M j) (M i) → ratio i j} l (λ j m a x d. releases i j pos x m a d) h.factor h.accelerated)

  -- the level of the task at place k has room
  pub level_room : (xs : List ℕ) (i : ℕ) (ys : List ℕ) → l ≡ xs ++ i ∷ ys → blocking q ys + sum_of (rate (bound i)) (fresh_tasks p e q (xs ++ i ∷ [])) ≤ bound i
  unfolding within Multiple Each ratio LevelsFit level_load
  level_room xs i ys s =
      let level : List ℕ = xs ++ i ∷ [] in
      let cut : l ≡ level ++ ys = s ∙ sym (append_snoc xs i ys) in
      let divides : Each (λ j. Multiple (M j) (M i)) level = each_append (λ j. Multiple (M j) (M i)) xs (i ∷ []) (pairs_before _ xs i ys (subst (EachPair _) s h.multiples)) ((1, sym (mul-one (M i))), tt) in
      let pos : 1 ≤ bound i = each_between (λ j. 1 ≤ bound j) xs i ys s (each_both l (λ j x y. omega arith) h.bounds h.budget) in
      let many : Each (ratio i) level = each_both level (λ j d r. r d) divides (each_halves _ level ys (subst (Each _) cut (ratios i pos))).0 in
      room_of_load (blocking q ys) Q D (M i) (λ t. M i / M t.number) (fresh_tasks p e q level) (omega (arith, h.divisor)) (each_fresh p e q _ level many) (omega (arith, add-mul (blocking q ys) (sum_of (λ t. t.budget * (M i / M t.number)) (fresh_tasks p e q level)) D, load_fresh p e q M D (M i) level, h.level xs i ys s))

  bounded : Each (λ i. (1 ≤ bound i) × (bound i ≤ p i)) l
  bounded = each_both l (λ i x y. (omega arith, x.1)) h.bounds h.budget

  -- so every log of the fresh tasks obeys the on_time rule
  pub schedule_on_time : (cs : List Call) → OnTime bound e (log answer next (plain (fresh_tasks p e q l)) cs)
  schedule_on_time cs = fresh_on_time p e q bound l schedule_form bounded level_room cs

  -- with p for w too
  pub schedule_by_period : (cs : List Call) → OnTime p e (log answer next (plain (fresh_tasks p e q l)) cs)
  schedule_by_period cs = fresh_later p e q bound l schedule_form bounded level_room p (each_of l (λ i x. x.1) bounded) cs

  -- no stroke is broken
  pub schedule_unbroken : (cs : List Call) → Unbroken q (log answer next (plain (fresh_tasks p e q l)) cs)
  schedule_unbroken cs = unbroken q (plain (fresh_tasks p e q l)) (plain_form _ schedule_form) (all_fresh p e q l) (fresh_strokes p e q l) cs

  -- each goes on while its job is pending, and between strokes a tick goes by priority
  pub schedule_goes_on : (cs : List Call) → GoesOn e q (log answer next (plain (fresh_tasks p e q l)) cs)
  schedule_goes_on cs = goes_on p e q (plain (fresh_tasks p e q l)) (plain_form _ schedule_form) (all_fresh p e q l) (fresh_figures p e q l) cs

  pub schedule_free_again : (cs : List Call) → FreeAgain p e q (log answer next (plain (fresh_tasks p e q l)) cs)
  schedule_free_again cs = free_again p e q (plain (fresh_tasks p e q l)) (plain_form _ schedule_form) (all_fresh p e q l) (fresh_figures p e q l) cs

  -- and each release is answered by the ticks since the last accepted one
  pub schedule_by_history : (cs : List Call) → Each (λ j. ByHistory (p j) j (log answer next (plain (fresh_tasks p e q l)) cs) (answer (release j) (run next (plain (fresh_tasks p e q l)) cs))) l
  schedule_by_history cs = fresh_each p e q _ l (by_history (plain (fresh_tasks p e q l)) schedule_form (all_fresh p e q l) (λ ds. (schedule_on_time ds).never_late) cs)
