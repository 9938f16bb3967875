-- Where every task of a list has a t within its period that meets its demand, every run from the fresh tasks is on time; and where one has,
-- its own jobs are.
-- Assumes nothing.
use Prim.Native.Nat.{ℕ, suc, ◌+◌, ◌*◌, ◌≤◌}
use mathlib.Core.Path.{◌≡◌, refl, sym, ap, subst, fun_ext, ◌∙◌}
use mathlib.Core.List.{List, [], ◌∷◌, ◌++◌}
use native.Mathlib.Nat.{mul-one}
use lib.ListN.{length, take, drop, length-append}
use lib.Seq.{append_snoc, take_at, get_or_at}
use native.Mathlib.Omega.{arith}
use Rattle.fit.specs.Lists.{sum, Each}
use Rattle.fit.specs.Rounding.{ceiling}
use Rattle.fit.specs.Fits.{blocking}
use Rattle.fit.proofs.Lists.{each_of, each_halves, each_split, sum_append}
use Rattle.timing.specs.declared.Task.{Task}
use Rattle.timing.specs.Tasks.{pending}
use Rattle.timing.specs.Calls.{Call, answer_by, next_by, log}
use Rattle.timing.specs.Form.{Form}
use Rattle.timing.specs.OnTime.{EndsBy, OnTime}
use Rattle.timing.specs.Serving.{nth, no_task}
use Rattle.timing.proofs.Rate.{sum_of, rate}
use Rattle.timing.proofs.Demand.{Demand}
use Rattle.timing.proofs.Plain.{Ones, plain_log}
use Rattle.timing.proofs.Alone.{alone_on_time}
use Rattle.dispatcher.specs.Starts.{fresh_task, fresh_tasks}
use Rattle.dispatcher.proofs.Schedule.{blocking_ones, fresh_length, all_fresh, fresh_strokes, fresh_demand, fresh_later}
use Rattle.margin.specs.Margin.{request}
use Rattle.margin.proofs.Ceilings.{ceiling_one, ceiling_window}
use Rattle.margin.proofs.Demands.{Meets}

-- a task of a job list, fresh, and the listed ones: their strokes are of one tick
abbrev pub bench_task : (p e i : ℕ) → Task
bench_task p e i = fresh_task p e 1 i

abbrev pub bench_tasks : (p e : ℕ → ℕ) → List ℕ → List Task
bench_tasks p e l = fresh_tasks p e (λ i. 1) l

pub bench_ones : (p e : ℕ → ℕ) (l : List ℕ) → Ones (bench_tasks p e l)
bench_ones p e l = each_of _ (λ t h. sym h) (fresh_strokes p e (λ i. 1) l)

module _ (p e : ℕ → ℕ) where
  -- what a task i below the tasks xs asks for in t ticks, with all of them
  unfoldable pub level : List ℕ → ℕ → ℕ → ℕ
  level xs i t = e i + sum (request p e t) xs

  rate_fresh : (q : ℕ → ℕ) (w : ℕ) (l : List ℕ) → 1 ≤ w → Each (λ i. 1 ≤ p i) l → sum_of (rate w) (fresh_tasks p e q l) ≡ sum (request p e w) l
  unfolding sum_of sum rate request fresh_tasks Each
  rate_fresh q w [] pos h = refl
  rate_fresh q w (i ∷ l) pos h = rw (ceiling_window (p i) h.0 w pos, rate_fresh q w l pos h.1)

  -- in a window of at most its period the task itself asks for its budget once, whatever the strokes are
  pub level_window : (q : ℕ → ℕ) (w : ℕ) (l xs : List ℕ) (i : ℕ) (ys : List ℕ) → 1 ≤ w → w ≤ p i → Each (λ j. 1 ≤ p j) l → l ≡ xs ++ i ∷ ys → sum_of (rate w) (fresh_tasks p e q (xs ++ i ∷ [])) ≡ level xs i w
  unfolding level sum request
  level_window q w l xs i ys pos h periods s =
      let k = (each_halves _ (xs ++ i ∷ []) ys (subst (Each _) (s ∙ sym (append_snoc xs i ys)) periods)).0 in
      let own : e i * ceiling w (p i) ≡ e i = rw (ceiling_one (p i) (omega arith) w pos h) (mul-one (e i)) in
      omega (arith, rate_fresh q w (xs ++ i ∷ []) pos k, sum_append (request p e w) xs (i ∷ []), own)

-- each task of the list meets the demand of its level at its w, which is within its period
abbrev pub EachMeets : (p e w : ℕ → ℕ) → List ℕ → Type 0
EachMeets p e w l = (xs : List ℕ) (i : ℕ) (ys : List ℕ) → l ≡ xs ++ i ∷ ys → Meets (level p e xs i) (p i) (w i)

module _ (p e w : ℕ → ℕ) (l : List ℕ) (form : Form (bench_tasks p e l)) (periods : Each (λ i. 1 ≤ p i) l) (meets : EachMeets p e w l) where
  bounds : Each (λ i. (1 ≤ w i) × (w i ≤ p i)) l
  bounds = each_split _ l (λ xs i ys s. ((meets xs i ys s).from, (meets xs i ys s).to))

  room : (xs : List ℕ) (i : ℕ) (ys : List ℕ) → l ≡ xs ++ i ∷ ys → blocking (λ j. 1) ys + sum_of (rate (w i)) (bench_tasks p e (xs ++ i ∷ [])) ≤ w i
  room xs i ys s =
      let f = meets xs i ys s in
      omega (arith, blocking_ones ys, level_window p e (λ j. 1) (w i) l xs i ys f.from f.to periods s, f.enough)

  -- the demand test is passed, and every log obeys the on_time rule with w and with every later bound
  pub meets_demand : Demand (λ k. 0) w (bench_tasks p e l)
  meets_demand = subst (λ B. Demand B w (bench_tasks p e l)) (fun_ext (λ k. blocking_ones (drop (suc k) l))) (fresh_demand p e (λ i. 1) w l form bounds room)

  pub meets_on_time : (v : ℕ → ℕ) → Each (λ i. w i ≤ v i) l → (cs : List Call) → OnTime v e (log (answer_by pending) (next_by pending) (bench_tasks p e l) cs)
  meets_on_time v h cs = subst (OnTime v e) (plain_log cs (bench_tasks p e l) (bench_ones p e l)) (fresh_later p e (λ i. 1) w l form bounds room v h cs)

-- two parts of a list
pub fresh_append : (p e : ℕ → ℕ) (xs ys : List ℕ) → bench_tasks p e (xs ++ ys) ≡ bench_tasks p e xs ++ bench_tasks p e ys
unfolding fresh_tasks
fresh_append p e [] ys = refl
fresh_append p e (x ∷ xs) ys = ap (λ t. bench_task (p x) (e x) x ∷ t) (fresh_append p e xs ys)

-- Where one task meets the demand of its level at w, within its period, every log keeps its jobs within w, whatever the others do.
pub meets_alone : (p e : ℕ → ℕ) (l xs : List ℕ) (i : ℕ) (ys : List ℕ) (w : ℕ) → Form (bench_tasks p e l) → Each (λ j. 1 ≤ p j) l → l ≡ xs ++ i ∷ ys → Meets (level p e xs i) (p i) w → (cs : List Call) → EndsBy w (e i) i (log (answer_by pending) (next_by pending) (bench_tasks p e l) cs)
unfolding fresh_tasks
meets_alone p e l xs i ys w form periods s f cs = alone_on_time w (e i) i (length higher) (bench_tasks p e l) form (all_fresh p e (λ i. 1) l) (omega (arith, fresh_length p e (λ i. 1) l, ap length s, fresh_length p e (λ i. 1) xs, length-append xs (i ∷ ys))) (ap (λ t. t.number) place) (ap (λ t. t.budget) place) (omega (arith, f.to, ap (λ t. t.period) place)) (rw front (omega (arith, level_window p e (λ j. 1) w l xs i ys f.from f.to periods s, f.enough))) cs
  where
    higher : List Task
    higher = bench_tasks p e xs

    place : nth (bench_tasks p e l) (length higher) ≡ bench_task (p i) (e i) i
    place = ap (λ x. nth (bench_tasks p e x) (length higher)) s ∙ ap (λ x. nth x (length higher)) (fresh_append p e xs (i ∷ ys)) ∙ get_or_at higher (bench_task (p i) (e i) i) (bench_tasks p e ys) no_task (length higher) refl

    front : take (suc (length higher)) (bench_tasks p e l) ≡ bench_tasks p e (xs ++ i ∷ [])
    front = ap (λ x. take (suc (length higher)) (bench_tasks p e x)) (s ∙ sym (append_snoc xs i ys)) ∙ ap (take (suc (length higher))) (fresh_append p e (xs ++ i ∷ []) ys) ∙ take_at (bench_tasks p e (xs ++ i ∷ [])) (bench_tasks p e ys) (suc (length higher)) (omega (arith, fresh_length p e (λ i. 1) (xs ++ i ∷ []), length-append xs (i ∷ []), fresh_length p e (λ i. 1) xs))
