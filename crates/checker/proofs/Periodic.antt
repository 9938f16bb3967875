-- A sheet is accepted exactly when it has its form, its figures are in range, and every core's tasks are an accelerated simply periodic
-- set that rises in priority order.
-- Assumes nothing.
use Prim.Native.Nat.{ℕ, ◌*◌, ◌≤◌, ◌<◌}
use mathlib.Core.Path.{◌≡◌, refl}
use mathlib.Core.Logic.{◌↔◌}
use mathlib.Core.List.{List}
use lib.ListN.{drop}
use Rattle.sheet.specs.Records.{Figures, task_count, core_count}
use Rattle.sheet.specs.Views.{is_grouped, is_stroked, by_position}
use Rattle.fit.specs.Lists.{Each}
use Rattle.fit.specs.Fits.{Multiples}
use Rattle.fit.specs.Cores.{order_on}
use Rattle.fit.specs.Periodic.{AcceleratedSet, BlockedSet, Rising}
use Rattle.fit.proofs.Lists.{each_of, each_occurs}
use Rattle.fit.proofs.Priority.{order_members, order_holds}
use Rattle.fit.proofs.Periodic.{paper_exactly}
use Rattle.checker.specs.Verdict.{accepted, verdict}
use Rattle.checker.specs.Accepted.{LoadAtMostOne, Framed, SparesZero, OrderKept, CoresFit, Fitting}
use Rattle.checker.specs.Periodic.{FiguresInRange, CoresAccelerated}
use Rattle.checker.proofs.Acceptance.{accepted_exactly}

module _ (f : Figures) (r : FiguresInRange f) where
  members : (k : ℕ) → Each (λ i. (i < f.tasks) × (f.core i ≡ k)) (order_on f k)
  unfolding order_on
  members k = order_members f.period f.core k f.tasks

  -- of one core
  core_exactly : (k : ℕ) → k < f.cores → (AcceleratedSet f.period f.budget f.factor (f.pivot k) (f.divisor k) (order_on f k) × BlockedSet f.budget f.stroke f.factor (f.pivot k) (f.divisor k) (order_on f k) × Rising f.factor (f.pivot k) (f.divisor k) (order_on f k)) ↔ (Each (λ i. f.pivot k * f.factor i ≤ f.period i * f.divisor k) (order_on f k) × Multiples f.factor 1 (order_on f k) × LoadAtMostOne f k)
  unfolding LoadAtMostOne
  core_exactly k h = paper_exactly f.period f.budget f.stroke f.factor (f.pivot k) (f.divisor k) (r.pivot k h).0 (r.divisor k h).0 (order_on f k) (each_of (order_on f k) (λ i m. (r.factor i m.0).0) (members k))

  -- Where rules 7 to 11 and 25 are kept, rules 12, 13 and 14 are kept exactly when every core's tasks are such a set.
  pub cores_exactly : (((i : ℕ) → i < f.tasks → f.pivot (f.core i) * f.factor i ≤ f.period i * f.divisor (f.core i)) × CoresFit f) ↔ CoresAccelerated f
  unfolding CoresAccelerated order_on
  cores_exactly = (to, back)
    where
      to : ((i : ℕ) → i < f.tasks → f.pivot (f.core i) * f.factor i ≤ f.period i * f.divisor (f.core i)) × CoresFit f → CoresAccelerated f
      to t k h = (core_exactly k h).1 (each_of (order_on f k) (λ i m. rw m.1 at (t.0 i m.0)) (members k), t.1.simply_periodic k h, t.1.load k h)

      back : CoresAccelerated f → ((i : ℕ) → i < f.tasks → f.pivot (f.core i) * f.factor i ≤ f.period i * f.divisor (f.core i)) × CoresFit f
      back g = (
        (λ i h. each_occurs (λ j. f.pivot (f.core i) * f.factor j ≤ f.period j * f.divisor (f.core i)) i (order_on f (f.core i)) (order_holds f.period f.core (f.core i) f.tasks i h refl) ((core_exactly (f.core i) (r.tasks.core i h)).0 (g (f.core i) (r.tasks.core i h))).0),
        record { simply_periodic = λ k h. ((core_exactly k h).0 (g k h)).1; load = λ k h. ((core_exactly k h).0 (g k h)).2 },
      )

-- The figures fit exactly when rules 7 to 11 and 25 are kept and every core's tasks are such a set.
pub fitting_exactly : (f : Figures) → Fitting f ↔ (FiguresInRange f × CoresAccelerated f)
fitting_exactly f = (to, back)
  where
    to : Fitting f → FiguresInRange f × CoresAccelerated f
    to g =
        let r : FiguresInRange f = record { tasks = g.tasks; not_bare = g.cores.not_bare; factor = g.cores.factor; pivot = g.cores.pivot; divisor = g.cores.divisor } in
        (r, (cores_exactly f r).0 (g.cores.accelerated, g.fits))

    back : FiguresInRange f × CoresAccelerated f → Fitting f
    back t =
        let r : FiguresInRange f = t.0 in
        let w = (cores_exactly f r).1 t.1 in
        record { tasks = r.tasks; cores = record { not_bare = r.not_bare; factor = r.factor; pivot = r.pivot; divisor = r.divisor; accelerated = w.0 }; fits = w.1 }

-- The verdict is "accepted with n and c" exactly when the sheet has its form, its order and those counts, and all this holds of its
-- figures.
pub accepted_periodic : (s : List ℕ) (n c : ℕ) → (verdict s ≡ accepted n c) ↔ (Framed s × SparesZero s × OrderKept (is_grouped s) (is_stroked s) (task_count s) (core_count s) (drop 8 s) × FiguresInRange (by_position s) × CoresAccelerated (by_position s) × (n ≡ task_count s) × (c ≡ core_count s))
accepted_periodic s n c = (
  (λ v. let (a, en, ec) = (accepted_exactly s n c).0 v in let (r, g) = (fitting_exactly (by_position s)).0 a.fitting in (a.frame, a.spares, a.order, r, g, en, ec)),
  (λ t. (accepted_exactly s n c).1 (record { frame = t.0; spares = t.1; order = t.2; fitting = (fitting_exactly (by_position s)).1 (t.3, t.4) }, t.5, t.6)),
)
