-- Figures whose strokes are of one tick in place of their own: they fit where the figures do, and have the same lines.
-- Assumes nothing.
use Prim.Native.Nat.{ℕ}
use mathlib.Core.Path.{◌≡◌, refl}
use mathlib.Core.List.{List}
use native.Mathlib.Nat.{le_refl}
use Rattle.sheet.specs.Records.{Figures}
use Rattle.fit.specs.Lists.{joined}
use Rattle.fit.specs.Cores.{order_on, within_on}
use Rattle.fit.proofs.Lists.{each_of}
use Rattle.fit.proofs.Priority.{order_members}
use Rattle.fit.proofs.Blocking.{levels_fewer}
use Rattle.checker.specs.Accepted.{Fitting, LoadAtMostOne}
use Rattle.listing.specs.Listing.{task_line, load_of, core_line}
use Rattle.listing.specs.Steps.{one_tick}

abbrev pub unbroken : Figures → Figures
unbroken f =
    record { tasks = f.tasks; cores = f.cores; period = f.period; budget = f.budget; core = f.core; stroke = one_tick; factor = f.factor; pivot = f.pivot; divisor = f.divisor }

pub unbroken_fits : (f : Figures) → Fitting f → Fitting (unbroken f)
unfolding LoadAtMostOne order_on
unbroken_fits f g = record {
  tasks = record { period = g.tasks.period; budget = g.tasks.budget; stroke = λ i h. (le_refl 1, (g.tasks.budget i h).0); core = g.tasks.core };
  cores = record { not_bare = g.cores.not_bare; factor = g.cores.factor; pivot = g.cores.pivot; divisor = g.cores.divisor; accelerated = g.cores.accelerated };
  fits = record {
    simply_periodic = g.fits.simply_periodic;
    load = λ k h. levels_fewer f.budget f.stroke one_tick f.factor (f.pivot k) (f.divisor k) (order_on f k) (each_of _ (λ i m. (g.tasks.stroke i m.0).0) (order_members f.period f.core k f.tasks)) (g.fits.load k h);
  };
}

pub unbroken_tasks : (f : Figures) (l : List ℕ) → joined (task_line (unbroken f)) l ≡ joined (task_line f) l
unfolding task_line within_on
unbroken_tasks f l = refl

pub unbroken_cores : (f : Figures) (l : List ℕ) → joined (core_line (unbroken f)) l ≡ joined (core_line f) l
unfolding core_line load_of order_on
unbroken_cores f l = refl
