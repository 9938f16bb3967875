-- What tasks ask for in t ticks: bounds, growth with t, and the sum of the definition.
-- Assumes nothing.
use Rattle.std.proofs.Common.{◌≡◌, refl, ap, ◌∙◌, ℕ, suc, ◌+◌, ◌-◌, ◌*◌, ◌/◌, ◌≤◌, List, [], ◌∷◌, arith}
use Rattle.std.specs.Prelude.{All, map, sum_by}
use Rattle.std.proofs.lemmas.List.Sums.{sum_by-cons}
use native.Mathlib.Nat.{le_trans, mul-le-mul_left, mul-le-mul_right, mul-div-le}
use Rattle.fit.specs.Lists.{sum}
use Rattle.fit.specs.Rounding.{ceiling}
use Rattle.margin.specs.declared.Task.{Task}
use Rattle.margin.specs.Margin.{request}
use Rattle.margin.specs.Steps.{task_at, asked, demand_below, IsInRange}
use Rattle.margin.proofs.Ceilings.{ceiling_mono}

-- a budget times a quotient by a period that is no shorter is at most the number divided, so what is asked is at most t and a period
pub asked_bound : (task : Task) (t : ℕ) → IsInRange task → t ≤ 60000 → asked t task ≤ 120000
unfolding ceiling
asked_bound task t r h =
    let x : ℕ = t + task.period - 1 in
    let small : task.budget * (x / task.period) ≤ x = le_trans (mul-le-mul_right (x / task.period) r.budget_max) (mul-div-le x task.period) in
    omega (arith, r.period_max)

-- what is asked grows with t
total_grows : (s t : ℕ) (tasks : List Task) → s ≤ t → All IsInRange tasks → sum_by (asked s) tasks ≤ sum_by (asked t) tasks
total_grows s t [] h r = omega arith
total_grows s t (task ∷ tasks) h r =
    let first : IsInRange task = r 0 task (omega arith) in
    let rest : All IsInRange tasks = λ k d q. r (suc k) d (omega arith) in
    rw (sum_by-cons (asked s) task tasks, sum_by-cons (asked t) task tasks) (omega (arith, mul-le-mul_left task.budget (ceiling_mono task.period first.period_min s t h), total_grows s t tasks h rest))

pub demand_grows : (tasks : List Task) (b s t : ℕ) → All IsInRange tasks → s ≤ t → demand_below tasks b s ≤ demand_below tasks b t
demand_grows tasks b s t r h = omega (arith, total_grows s t tasks h r)

-- what listed tasks ask for is the sum of the definition
pub asked_sum : (p e : ℕ → ℕ) (t : ℕ) (l : List ℕ) → sum_by (asked t) (map (task_at p e) l) ≡ sum (request p e t) l
unfolding sum request
asked_sum p e t [] = refl
asked_sum p e t (j ∷ l) = sum_by-cons (asked t) (task_at p e j) (map (task_at p e) l) ∙ ap (λ (s : ℕ). e j * ceiling t (p j) + s) (asked_sum p e t l)
