-- Each way out of `margin`, and the margin of a task from the tasks above it, as the code returns them.
-- Assumes nothing.
use Prim.Native.Nat.{ℕ, zero, suc, ◌+◌, ◌/◌, ◌≤◌, ◌<◌}
use mathlib.Core.Path.{◌≡◌, refl, sym, ap, fun_ext, ◌∙◌}
use Rattle.std.specs.Prelude.{None, Result, Ok, Err, All, map, pos, ◌-ℤ◌}
use mathlib.Core.List.{List, [], ◌∷◌}
use native.Mathlib.Omega.{arith}
use borrow.Author.Tests.{lt-ltb, le-ltb}
use lib.ListN.{length, get_or}
use lib.IntN.{ℤ}
use Rattle.sheet.specs.declared.Rejection.{Rejection}
use Rattle.sheet.specs.declared.Refusal.TheVariants.{Unlisted}
use Rattle.sheet.specs.Table.{scan, refusal_of}
use Rattle.fit.specs.Lists.{numbers, Each}
use Rattle.fit.proofs.Lists.{each_number, each_select}
use Rattle.jobs.specs.Jobs.{job_count, job_period, job_budget, list_rows, Listed}
use Rattle.jobs.proofs.Laws.{listed}
use Rattle.margin.specs.declared.Task.{Task}
use Rattle.margin.specs.Margin.{tasks_above, demand, smallest, margin_from, margin}
use Rattle.margin.specs.Answers.{outcome_of, margin_in, answer_from, margin_answer}
use Rattle.margin.specs.Steps.{task_at, demand_below, IsInRange}
use Rattle.margin.proofs.Requests.{asked_sum}

-- the demand below all tasks above i is that of the definition
demand_is : (p e : ℕ → ℕ) (l : List ℕ) (i : ℕ) → demand_below (map (task_at p e) (tasks_above p l i)) (e i) ≡ demand p e l i
unfolding demand
demand_is p e l i = fun_ext (λ t. ap (λ (s : ℕ). e i + s) (asked_sum p e t (tasks_above p l i)))

margin_is : (p e : ℕ → ℕ) (l : List ℕ) (i : ℕ) → margin_from (p i) (demand_below (map (task_at p e) (tasks_above p l i)) (e i) (p i)) (smallest (demand_below (map (task_at p e) (tasks_above p l i)) (e i)) (p i)) ≡ margin p e l i
unfolding margin
margin_is p e l i = ap (λ (d : ℕ → ℕ). margin_from (p i) (d (p i)) (smallest d (p i))) (demand_is p e l i)

all_map : (p e : ℕ → ℕ) (l : List ℕ) → Each (λ j. IsInRange (task_at p e j)) l → (k : ℕ) (d : Task) → k < length (map (task_at p e) l) → IsInRange (get_or (map (task_at p e) l) k d)
unfolding Each
all_map p e [] h k d q = absurd (omega arith)
all_map p e (j ∷ l) h zero d q = h.0
all_map p e (j ∷ l) h (suc k) d q = all_map p e l h.1 k d (omega arith)

module _ (l : List ℕ) (n i : ℕ) (ok : Listed 0 l) (all : n ≡ job_count l) (tasks : List Task) (g : tasks ≡ map (task_at (job_period l) (job_budget l)) (tasks_above (job_period l) (numbers 0 n) i)) where
  own : (j : ℕ) → j < n → IsInRange (task_at (job_period l) (job_budget l) j)
  own j h =
      let q : j < job_count l = omega arith in
      record { period_min = (ok.period j q).0; period_max = (ok.period j q).1; budget_max = (ok.budget j q).1 }

  pub above_ranged : All IsInRange tasks
  unfolding tasks_above
  above_ranged = rw g (all_map _ _ _ (each_select _ _ (numbers 0 n) (each_number _ 0 n (λ j a h. own j (omega arith)))))

  pub above_margin : (m : ℤ) (t : Task) (r : ℕ) → t ≡ task_at (job_period l) (job_budget l) i → m ≡ pos t.period -ℤ pos r → margin_from t.period (demand_below tasks t.budget t.period) (smallest (demand_below tasks t.budget) t.period) ≡ pos t.period -ℤ pos r → m ≡ margin_in l i
  above_margin m t r et em q =
      em ∙ sym q ∙ rw (et, g, all) (margin_is (job_period l) (job_budget l) (numbers 0 (job_count l)) i)

  pub period_most : (t : Task) → t ≡ task_at (job_period l) (job_budget l) i → i < n → t.period ≤ 60000
  period_most t e h = rw e (own i h).period_max

pub all_listed : (l : List ℕ) → length l / 4 ≡ job_count l
unfolding job_count
all_listed l = refl

module _ {A : Type 0} (l : List ℕ) (f : Result A (Rejection ℕ)) (e : refusal_of f ≡ scan (list_rows 0 l)) where
  -- 5, 4, 7 and 8
  pub margin_refused : (j : ℕ) (r : Rejection ℕ) → f ≡ Err r → outcome_of (Err r) ≡ margin_answer l j
  unfolding margin_answer answer_from
  margin_refused j r x =
      let o = sym (ap refusal_of x) ∙ e in
      rw (← o)

  module _ (v : A) (x : f ≡ Ok v) where
    clear : None ≡ scan (list_rows 0 l)
    clear = sym (ap refusal_of x) ∙ e

    pub margin_listed : Listed 0 l
    margin_listed = listed 0 l clear

    pub margin_few : length l / 4 ≤ 64
    unfolding job_count
    margin_few = margin_listed.count

    -- 17
    pub margin_unlisted : (j : ℕ) → length l / 4 ≤ j → outcome_of (Err (record { word = Unlisted; place = 0 })) ≡ margin_answer l j
    unfolding margin_answer answer_from job_count
    margin_unlisted j h = rw (← clear, le-ltb j (length l / 4) h)

    pub margin_ticks : (j : ℕ) (m : ℤ) → j < length l / 4 → m ≡ margin_in l j → outcome_of (Ok m) ≡ margin_answer l j
    unfolding margin_answer answer_from job_count
    margin_ticks j m h q = rw (← clear, lt-ltb j (length l / 4) h, q)
