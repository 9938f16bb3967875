-- First fit as the code walks it: the figures of a core, whether it takes a task, the core for a task, and the walk.
-- Assumes nothing.
use Prim.Native.Nat.{ℕ, suc, ◌+◌, ◌≤◌, ◌<◌}
use mathlib.Core.Path.{◌≡◌, refl, sym, ap, ap₂, ◌∙◌}
use mathlib.Core.Logic.{◌⊎◌, inl, inr}
use mathlib.Core.Bool.{Bool, true, false, cond}
use Rattle.std.specs.Prelude.{Option, None, Some}
use Rattle.std.specs.Bool.{then_some}
use Rattle.std.specs.List.{find as std_find, range_with_len}
use Rattle.std.specs.Option.{option_or, is_some as std_is_some}
use Rattle.sheet.proofs.Options.{some-injective, none-ne-some}
use mathlib.Core.List.{List, map}
use native.Mathlib.Numerals.{add-one}
use native.Mathlib.Omega.{arith}
use borrow.Author.Tests.{lt-ltb, le-ltb, ltb-true}
use lib.ListN.{length, take, drop, get_or, drop_of_length-le}
use lib.Seq.{drop-cons, take_all}
use lib.Dec.{ltb}
use Rattle.fit.specs.declared.By.TheVariants.{Period}
use Rattle.fit.specs.Priority.{is_on}
use Rattle.fit.specs.Lists.{numbers, find, select, at}
use Rattle.fit.specs.Ring.{order_by}
use Rattle.fit.proofs.Lists.{select_length}
use Rattle.fit.proofs.Priority.{order_count}
use Rattle.fit.proofs.Selecting.{select_order}
use Rattle.fit.proofs.Finds.{find_some_lem}
use Rattle.fit.proofs.Words.{find_range}
use Rattle.jobs.specs.Jobs.{job_count, job_period, job_budget}
use Rattle.figures.specs.declared.CoreFigures.{CoreFigures}
use Rattle.figures.specs.Constructions.{Acceleration}
use Rattle.figures.specs.Passing.{first_passing}
use Rattle.figures.specs.Answers.{outcome}
use Rattle.planner.specs.declared.Assignment.{Assignment}
use Rattle.planner.specs.FirstFit.{unassigned, core_set, core_figures, is_some, takes, chosen, core_for, assign, placed, unplaced, onward, first_fit}
use Rattle.planner.specs.Steps.{figures_in, takes_in, core_in, walk_in}

-- a job list of at most 64 entries, and its tasks in priority order
pub record Prioritized (l order : List ℕ) : Type 0 where
  pub few : job_count l ≤ 64
  pub tasks : order ≡ order_by Period (job_period l) (job_count l)

pub prioritized : (l order : List ℕ) → job_count l ≤ 64 → order ≡ order_by Period (job_period l) (job_count l) → Prioritized l order
prioritized l order h e = record { few = h; tasks = e }

-- the priority order has at most 64 tasks
pub prioritized_few : (l order : List ℕ) → Prioritized l order → length order ≤ 64
unfolding order_by
prioritized_few l order p = rw p.tasks (omega (arith, p.few, order_count (job_period l) (λ i. 0) 0 (job_count l)))

-- the tasks of a core, picked out of it
pub picked : (l order core : List ℕ) (k : ℕ) → Prioritized l order → select (is_on (at core) k) order ≡ core_set (job_period l) (job_count l) core k
unfolding order_by core_set is_on
picked l order core k p = rw p.tasks (select_order (job_period l) (at core) k (job_count l))

-- the figures of a core, from the periods and budgets of its tasks
pub figures_found : (l order core tasks : List ℕ) (k j : ℕ) (ps es : List ℕ) (r : Option CoreFigures) → Prioritized l order → tasks ≡ select (is_on (at core) k) order → length tasks ≤ j → ps ≡ map (job_period l) (take j tasks) → es ≡ map (job_budget l) (take j tasks) → r ≡ outcome (first_passing ps es) → r ≡ outcome (figures_in l core k)
unfolding core_figures
figures_found l order core tasks k j ps es r p t h a b e =
    let all : take j tasks ≡ core_set (job_period l) (job_count l) core k = take_all j tasks h ∙ t ∙ picked l order core k p in
    e ∙ ap outcome (ap₂ first_passing (a ∙ ap (map (job_period l)) all) (b ∙ ap (map (job_budget l)) all))

-- a core has at most 64 tasks
pub tasks_few : (l order core : List ℕ) (k : ℕ) → Prioritized l order → length (select (is_on (at core) k) order) ≤ 64
tasks_few l order core k p = omega (arith, select_length (is_on (at core) k) order, prioritized_few l order p)

-- a core takes a task if the tasks pass together
passes_some : (x : Option Acceleration) → std_is_some (outcome x) ≡ is_some x
unfolding is_some
passes_some None = refl
passes_some (Some a) = refl

pub taken : (l : List ℕ) (i k : ℕ) (a next : Assignment) (r : Option CoreFigures) → next ≡ assign i k a → r ≡ outcome (figures_in l next.core k) → std_is_some r ≡ takes_in l i a.core k
unfolding takes assign
taken l i k a next r q h = ap std_is_some h ∙ passes_some _ ∙ rw q

-- the core for a task: one that is open, a new one, or none
chosen_or : (o : Option ℕ) (limit cores : ℕ) → option_or o (then_some (ltb cores limit) cores) ≡ chosen o limit cores
unfolding chosen
chosen_or None limit cores = by (ltb cores limit)
  where
    by : (b : Bool) → then_some b cores ≡ cond b (Some cores) None
    by true = refl
    by false = refl
chosen_or (Some k) limit cores = refl

pub core_found : (l : List ℕ) (limit i : ℕ) (a : Assignment) (o : Option ℕ) → o ≡ std_find (takes_in l i a.core) (range_with_len 0 a.cores) → option_or o (then_some (ltb a.cores limit) a.cores) ≡ core_in l limit i a
unfolding core_for
core_found l limit i a o h = chosen_or o limit a.cores ∙ ap (λ t. chosen t limit a.cores) (h ∙ find_range _ 0 a.cores)

-- the core that is found is open, or the next one and below the limit
pub core_choice : (p e : ℕ → ℕ) (n limit i k : ℕ) (a : Assignment) → Some k ≡ core_for p e n limit i a → ((k < a.cores) × (takes p e n i a.core k ≡ true)) ⊎ ((k ≡ a.cores) × (a.cores < limit))
unfolding core_for chosen
core_choice p e n limit i k a h = by (find (takes p e n i a.core) (numbers 0 a.cores)) refl h
  where
    new : (b : Bool) → ltb a.cores limit ≡ b → Some k ≡ cond b (Some a.cores) None → (k ≡ a.cores) × (a.cores < limit)
    new true t q = (some-injective k a.cores q, ltb-true a.cores limit t)
    new false t q = absurd (none-ne-some k (sym q))

    by : (o : Option ℕ) → find (takes p e n i a.core) (numbers 0 a.cores) ≡ o → Some k ≡ chosen o limit a.cores → ((k < a.cores) × (takes p e n i a.core k ≡ true)) ⊎ ((k ≡ a.cores) × (a.cores < limit))
    by None t q = inr (new (ltb a.cores limit) refl q)
    by (Some j) t q =
        let w = find_some_lem (takes p e n i a.core) 0 a.cores j t in
        let same : k ≡ j = some-injective k j q in
        rw same (inl (omega (arith, w.0), w.1))

-- so no more cores are open than the limit allows
assign_cores : (p e : ℕ → ℕ) (n limit i k : ℕ) (a : Assignment) → a.cores ≤ limit → Some k ≡ core_for p e n limit i a → (assign i k a).cores ≤ limit
unfolding assign
assign_cores p e n limit i k a h q = by (core_choice p e n limit i k a q)
  where
    by : ((k < a.cores) × (takes p e n i a.core k ≡ true)) ⊎ ((k ≡ a.cores) × (a.cores < limit)) → cond (ltb k a.cores) a.cores (a.cores + 1) ≤ limit
    by (inl x) = rw (lt-ltb k a.cores x.0) h
    by (inr x) = rw (le-ltb k a.cores (omega (arith, x.0))) (omega (arith, x.1))

-- what is left of the walk
pub record Walked (l : List ℕ) (limit : ℕ) (tasks : List ℕ) (j : ℕ) (a : Assignment) : Type 0 where
  pub cores : a.cores ≤ limit
  pub rest : walk_in l limit tasks ≡ first_fit (job_period l) (job_budget l) (job_count l) limit (drop j tasks) a

pub walk_start : (l : List ℕ) (limit : ℕ) (tasks : List ℕ) (a : Assignment) → a ≡ unassigned → Walked l limit tasks 0 a
unfolding unassigned
walk_start l limit tasks a e = record { cores = rw e (omega arith); rest = rw e }

module _ (l : List ℕ) (limit : ℕ) (tasks : List ℕ) (j : ℕ) (a : Assignment) (w : Walked l limit tasks j a) where
  module _ (h : j < length tasks) where
    walk_step : (o : Option ℕ) → o ≡ core_in l limit (get_or tasks j 0) a → walk_in l limit tasks ≡ onward (get_or tasks j 0) (λ k. first_fit (job_period l) (job_budget l) (job_count l) limit (drop (suc j) tasks) (assign (get_or tasks j 0) k a)) o
    unfolding first_fit
    walk_step o q = w.rest ∙ rw (drop-cons tasks j 0 h, q)

    pub walk_stop : None ≡ core_in l limit (get_or tasks j 0) a → walk_in l limit tasks ≡ unplaced (get_or tasks j 0)
    unfolding onward
    walk_stop q = walk_step None q

    pub walk_turn : (k : ℕ) (next : Assignment) → Some k ≡ core_in l limit (get_or tasks j 0) a → next ≡ assign (get_or tasks j 0) k a → Walked l limit tasks (j + 1) next
    unfolding onward
    walk_turn k next q s =
        record { cores = rw s (assign_cores (job_period l) (job_budget l) (job_count l) limit (get_or tasks j 0) k a w.cores q); rest = walk_step (Some k) q ∙ rw (s, add-one j) }

  pub walk_end : length tasks ≤ j → walk_in l limit tasks ≡ placed a
  unfolding first_fit
  walk_end h = w.rest ∙ rw (drop_of_length-le tasks h)
