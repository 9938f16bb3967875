-- The two views of an accepted sheet fit alike, and what follows for each core by task number.
-- Assumes nothing.
use Prim.Native.Nat.{ℕ, ◌*◌, ◌≤◌, ◌<◌}
use mathlib.Core.Path.{◌≡◌, refl, sym, ap, subst, ◌∙◌}
use mathlib.Core.Logic.{◌↔◌}
use mathlib.Core.Bool.{Bool, true, false}
use mathlib.Core.List.{List}
use native.Mathlib.Nat.{le_trans}
use native.Mathlib.Omega.{arith}
use lib.ListN.{drop}
use Rattle.sheet.specs.Records.{Figures, number_at, count_at, task_count, core_count}
use Rattle.sheet.specs.Views.{is_grouped, is_stroked, position_of_number, number_of_position, positioned_in, renumbered, by_position, figures}
use Rattle.fit.specs.Lists.{Each}
use Rattle.fit.specs.Priority.{order}
use Rattle.fit.specs.Cores.{order_on}
use Rattle.fit.proofs.Lists.{each_of, each_both}
use Rattle.fit.proofs.Priority.{order_members, order_count, order_rising}
use Rattle.fit.proofs.Levels.{multiples_pairs, within_period}
use Rattle.fit.proofs.Blocking.{levels_fit_exactly, budget_within}
use Rattle.views.specs.Renamed.{Renamed, Agree}
use Rattle.views.proofs.ByNumber.{position_below}
use Rattle.views.proofs.Renamed.{renamed_multiples, multiples_renamed, renamed_levels, view_renamed, agree_renamed}
use Rattle.checker.specs.Verdict.{accepted, verdict}
use Rattle.checker.specs.Accepted.{LoadAtMostOne, TasksInRange, CoresInRange, CoresFit, Fitting, OrderKept, Schedulable, CoreOf}
use Rattle.checker.proofs.Acceptance.{accepted_exactly}

-- figures under other numbers fit alike
module _ (f g : Figures) (r : ℕ → ℕ) (s : Renamed f g r) where
  load_to_lem : (k : ℕ) → k < f.cores → LoadAtMostOne f k → LoadAtMostOne g k
  unfolding LoadAtMostOne
  load_to_lem k h t = (levels_fit_exactly _ _ _ _ _ _).0 (renamed_levels f g r s k h ∙ (levels_fit_exactly _ _ _ _ _ _).1 t)

  load_back : (k : ℕ) → k < f.cores → LoadAtMostOne g k → LoadAtMostOne f k
  unfolding LoadAtMostOne
  load_back k h t = (levels_fit_exactly _ _ _ _ _ _).0 (sym (renamed_levels f g r s k h) ∙ (levels_fit_exactly _ _ _ _ _ _).1 t)

  renamed_fits : Fitting f → Fitting g
  renamed_fits t = record { tasks = tasks; cores = cores; fits = fits }
    where
      -- what holds of every task of f holds of every task of g
      each : (P : ℕ → Type 0) → ((j : ℕ) → j < f.tasks → P (r j)) → (i : ℕ) → i < g.tasks → P i
      each P h i b =
          let (j, a, e) = s.found i (rw s.tasks at b) in
          subst P e (h j a)

      tasks : TasksInRange g
      tasks = record {
        period = each (λ i. (1 ≤ g.period i) × (g.period i ≤ 60000)) (λ j a. rw (s.period j a) (t.tasks.period j a));
        budget = each (λ i. (1 ≤ g.budget i) × (g.budget i ≤ g.period i)) (λ j a. rw (s.budget j a, s.period j a) (t.tasks.budget j a));
        stroke = each (λ i. (1 ≤ g.stroke i) × (g.stroke i ≤ g.budget i)) (λ j a. rw (s.stroke j a, s.budget j a) (t.tasks.stroke j a));
        core = each (λ i. g.core i < g.cores) (λ j a. rw (s.core j a, s.cores) (t.tasks.core j a));
      }

      cores : CoresInRange g
      cores = record {
        not_bare = λ k h. let (j, a, e) = t.cores.not_bare k (rw s.cores at h) in (r j, rw s.tasks (s.below j a), s.core j a ∙ e);
        factor = each (λ i. (1 ≤ g.factor i) × (g.factor i ≤ 120000)) (λ j a. rw (s.factor j a) (t.cores.factor j a));
        pivot = λ k h. let b : k < f.cores = rw s.cores at h in rw (s.pivot k b) (t.cores.pivot k b);
        divisor = λ k h. let b : k < f.cores = rw s.cores at h in rw (s.divisor k b) (t.cores.divisor k b);
        accelerated = each (λ i. g.pivot (g.core i) * g.factor i ≤ g.period i * g.divisor (g.core i)) (λ j a. rw (s.core j a, s.pivot (f.core j) (t.tasks.core j a), s.divisor (f.core j) (t.tasks.core j a), s.factor j a, s.period j a) (t.cores.accelerated j a));
      }

      fits : CoresFit g
      fits = record {
        simply_periodic = λ k h. renamed_multiples f g r s k (t.fits.simply_periodic k (rw s.cores at h));
        load = λ k h. let b : k < f.cores = rw s.cores at h in load_to_lem k b (t.fits.load k b);
      }

  fits_renamed : Fitting g → Fitting f
  fits_renamed t = record { tasks = tasks; cores = cores; fits = fits }
    where
      at_task : (j : ℕ) → j < f.tasks → r j < g.tasks
      at_task j a = rw s.tasks (s.below j a)

      at_core : (k : ℕ) → k < f.cores → k < g.cores
      at_core k h = rw s.cores h

      tasks : TasksInRange f
      tasks = record {
        period = λ j a. rw (s.period j a) at (t.tasks.period (r j) (at_task j a));
        budget = λ j a. rw (s.budget j a, s.period j a) at (t.tasks.budget (r j) (at_task j a));
        stroke = λ j a. rw (s.stroke j a, s.budget j a) at (t.tasks.stroke (r j) (at_task j a));
        core = λ j a. rw (s.core j a, s.cores) at (t.tasks.core (r j) (at_task j a));
      }

      cores : CoresInRange f
      cores = record {
        not_bare = λ k h. let (i, a, e) = t.cores.not_bare k (at_core k h) in let (j, b, q) = s.found i (rw s.tasks at a) in (j, b, sym (s.core j b) ∙ ap g.core q ∙ e);
        factor = λ j a. rw (s.factor j a) at (t.cores.factor (r j) (at_task j a));
        pivot = λ k h. rw (s.pivot k h) at (t.cores.pivot k (at_core k h));
        divisor = λ k h. rw (s.divisor k h) at (t.cores.divisor k (at_core k h));
        accelerated = λ j a. rw (s.core j a, s.pivot (f.core j) (tasks.core j a), s.divisor (f.core j) (tasks.core j a), s.factor j a, s.period j a) at (t.cores.accelerated (r j) (at_task j a));
      }

      fits : CoresFit f
      fits = record {
        simply_periodic = λ k h. multiples_renamed f g r s k (t.fits.simply_periodic k (at_core k h));
        load = λ k h. load_back k h (t.fits.load k (at_core k h));
      }

  renamed_exactly : Fitting f ↔ Fitting g
  renamed_exactly = (renamed_fits, fits_renamed)

-- figures that agree fit alike
pub agree_fits : (f g : Figures) → Agree f g → Fitting f ↔ Fitting g
agree_fits f g s = renamed_exactly f g (λ i. i) (agree_renamed f g s)

-- the views of a sheet whose records are in order
pub views_renamed : (grouped stroked : Bool) (n c : ℕ) (records : List ℕ) → OrderKept grouped stroked n c records → Renamed (positioned_in grouped stroked n c records) (renumbered (position_of_number grouped n records) (positioned_in grouped stroked n c records)) (number_of_position grouped records)
unfolding OrderKept
views_renamed true stroked n c records h = view_renamed (positioned_in true stroked n c records) (number_at records) (positioned_in true stroked n c records).core (count_at (drop (10 * n) records)) refl (h refl)
views_renamed false stroked n c records h = agree_renamed (positioned_in false stroked n c records) (positioned_in false stroked n c records) (record { tasks = refl; cores = refl; period = λ i b. refl; budget = λ i b. refl; core = λ i b. refl; stroke = λ i b. refl; factor = λ i b. refl; pivot = λ k b. refl; divisor = λ k b. refl })

-- a task whose number is below n stands at a position below n
pub position_in : (grouped stroked : Bool) (n c : ℕ) (records : List ℕ) → OrderKept grouped stroked n c records → (i : ℕ) → i < n → position_of_number grouped n records i < n
unfolding OrderKept
position_in true stroked n c records h i q = position_below (number_at records) n (h refl).numbers i q
position_in false stroked n c records h i q = q

pub sheet_renamed : (s : List ℕ) → OrderKept (is_grouped s) (is_stroked s) (task_count s) (core_count s) (drop 8 s) → Renamed (by_position s) (figures s) (number_of_position (is_grouped s) (drop 8 s))
sheet_renamed s h = views_renamed (is_grouped s) (is_stroked s) (task_count s) (core_count s) (drop 8 s) h

-- The figures of a sheet whose records are in order fit by position exactly when they fit by task number.
pub views_fit : (s : List ℕ) → OrderKept (is_grouped s) (is_stroked s) (task_count s) (core_count s) (drop 8 s) → Fitting (by_position s) ↔ Fitting (figures s)
views_fit s h = renamed_exactly (by_position s) (figures s) (number_of_position (is_grouped s) (drop 8 s)) (sheet_renamed s h)

-- what a dispatcher may rely on, for core k of figures that fit
schedulable : (f : Figures) (k : ℕ) → f.tasks ≤ 64 → k < f.cores → Fitting f → Schedulable f.period f.budget f.stroke f.factor (f.pivot k) (f.divisor k) (order_on f k)
unfolding order_on LoadAtMostOne
schedulable f k n h g =
    let l : List ℕ = order f.period f.core k f.tasks in
    let members : Each (λ i. (i < f.tasks) × (f.core i ≡ k)) l = order_members f.period f.core k f.tasks in
    let positive : Each (λ i. 0 < f.factor i) l = each_of l (λ i m. (g.cores.factor i m.0).0) members in
    let fast : Each (λ i. f.pivot k * f.factor i ≤ f.period i * f.divisor k) l = each_of l (λ i m. rw m.1 at (g.cores.accelerated i m.0)) members in
    record {
      count = le_trans (order_count f.period f.core k f.tasks) n;
      number = each_of l (λ i m. le_trans m.0 n) members;
      order = order_rising f.period f.core k f.tasks;
      period = each_of l (λ i m. g.tasks.period i m.0) members;
      budget = each_of l (λ i m. g.tasks.budget i m.0) members;
      stroke = each_of l (λ i m. g.tasks.stroke i m.0) members;
      factor = positive;
      divisor = (g.cores.divisor k h).0;
      accelerated = fast;
      multiples = multiples_pairs f.factor 1 l (g.fits.simply_periodic k h);
      level = g.fits.load k h;
      bounds = each_both l (λ i a b. (a, b)) (budget_within f.budget f.stroke f.factor (f.pivot k) (f.divisor k) l (g.cores.divisor k h).0 positive (g.fits.load k h)) (each_of l (λ i a. within_period (f.pivot k) (f.divisor k) (f.factor i) (f.period i) a) fast);
    }

-- The acceptance contract: all that a dispatcher uses of an accepted sheet.
pub core_of : (s : List ℕ) (n c k : ℕ) → verdict s ≡ accepted n c → k < c → CoreOf s n c k
core_of s n c k e h =
    let w = (accepted_exactly s n c).0 e in
    let few : n ≤ 64 = omega (arith, w.0.frame.tasks, w.1) in
    record {
      tasks = w.1;
      cores = w.2;
      few = few;
      size = omega (arith, w.0.frame.size, w.1, w.2);
      core = h;
      views = sheet_renamed s w.0.order;
      schedulable = schedulable (figures s) k w.0.frame.tasks (rw w.2 at h) ((views_fit s w.0.order).0 w.0.fitting);
    }
