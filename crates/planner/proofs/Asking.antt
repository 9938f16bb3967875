-- What first fit and the writer ask about is a set of tasks, so its figures are always those of the first trial that passes; and no pivot
-- that is skipped would have passed.
-- Assumes nothing.
use Prim.Native.Nat.{ℕ, ◌≤◌}
use mathlib.Core.Path.{◌≡◌, ap}
use mathlib.Core.Bool.{true}
use Rattle.std.specs.Prelude.{Option}
use mathlib.Core.List.{List, [], ◌∷◌, ◌++◌, map}
use native.Mathlib.Omega.{arith}
use lib.ListN.{length, set}
use Rattle.fit.specs.Lists.{Each, EachPair, at}
use Rattle.fit.specs.Priority.{Above}
use Rattle.fit.proofs.Lists.{each_of}
use Rattle.fit.proofs.Priority.{order_members, order_rising, order_count}
use Rattle.jobs.specs.Jobs.{job_count, job_period, job_budget, Listed}
use Rattle.figures.specs.Constructions.{Acceleration, sr, dct}
use Rattle.figures.specs.Passing.{first, each_pivot, trials, task_set}
use Rattle.figures.proofs.Passing.{tasks_are_set, passing_tried}
use Rattle.figures.proofs.Skips.{skip_unseen}
use Rattle.planner.specs.declared.Assignment.{Assignment}
use Rattle.planner.specs.FirstFit.{core_set, core_figures, is_some, takes}
use Rattle.planner.specs.Sheet.{or_zeros, figures_for}

-- the first trial that passes for the tasks of core k
abbrev pub tried : (ℕ → ℕ) → (ℕ → ℕ) → ℕ → List ℕ → ℕ → Option Acceleration
tried p e n core k = first (map e (core_set p n core k)) (trials (map p (core_set p n core k)))

-- the same with no pivot skipped
abbrev pub tried_all : (ℕ → ℕ) → (ℕ → ℕ) → ℕ → List ℕ → ℕ → Option Acceleration
tried_all p e n core k =
    let ps = map p (core_set p n core k) in
    first (map e (core_set p n core k)) (each_pivot (sr 2) ps ++ (each_pivot (sr 3) ps ++ each_pivot dct ps))

each_map : (P : ℕ → Type 0) (g : ℕ → ℕ) (l : List ℕ) → Each (λ i. P (g i)) l → Each P (map g l)
unfolding Each
each_map P g [] h = tt
each_map P g (i ∷ l) h = (h.0, each_map P g l h.1)

module _ (limit : ℕ) (l : List ℕ) (f : Listed limit l) where
  module _ (core : List ℕ) (k : ℕ) where
    few : length (core_set (job_period l) (job_count l) core k) ≤ 64
    unfolding core_set
    few = omega (arith, order_count (job_period l) (at core) k (job_count l), f.count)

    order : EachPair (Above (job_period l)) (core_set (job_period l) (job_count l) core k)
    unfolding core_set
    order = order_rising (job_period l) (at core) k (job_count l)

    period : Each (λ i. (1 ≤ job_period l i) × (job_period l i ≤ 60000)) (core_set (job_period l) (job_count l) core k)
    unfolding core_set
    period = each_of _ (λ i m. f.period i m.0) (order_members (job_period l) (at core) k (job_count l))

    -- of a job list without faults, whatever cores the tasks have
    pub asked_is_task_set : task_set (map (job_period l) (core_set (job_period l) (job_count l) core k)) (map (job_budget l) (core_set (job_period l) (job_count l) core k)) ≡ true
    asked_is_task_set = tasks_are_set (job_period l) (job_budget l) _ few order period

    pub core_tried : core_figures (job_period l) (job_budget l) (job_count l) core k ≡ tried (job_period l) (job_budget l) (job_count l) core k
    unfolding core_figures
    core_tried = passing_tried (job_period l) (job_budget l) _ few order period

    pub skip_unasked : tried (job_period l) (job_budget l) (job_count l) core k ≡ tried_all (job_period l) (job_budget l) (job_count l) core k
    unfolding core_set
    skip_unasked =
        skip_unseen _ _ asked_is_task_set
        (each_map (λ e. 1 ≤ e) (job_budget l) _ (each_of _ (λ i m. (f.budget i m.0).0) (order_members (job_period l) (at core) k (job_count l))))

  -- so first fit's test of core k with task i, and the figures that are written for core k
  pub takes_tried : (core : List ℕ) (i k : ℕ) → takes (job_period l) (job_budget l) (job_count l) i core k ≡ is_some (tried (job_period l) (job_budget l) (job_count l) (set core i k) k)
  unfolding takes
  takes_tried core i k = ap is_some (core_tried (set core i k) k)

  pub written_tried : (a : Assignment) (k : ℕ) → figures_for (job_period l) (job_budget l) (job_count l) a k ≡ or_zeros (tried (job_period l) (job_budget l) (job_count l) a.core k)
  unfolding figures_for
  written_tried a k = ap or_zeros (core_tried a.core k)
