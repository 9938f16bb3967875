-- The same figures with the tasks under the same or other numbers: what the two views of a sheet, and a sheet and its moved sheet, share
-- (docs/SHEET.md, section 12).
use Rattle.std.specs.Prelude.{ℕ, ◌<◌, ◌≡◌, map}
use Rattle.sheet.specs.Records.{Figures}
use Rattle.fit.specs.Cores.{order_on}

-- figures that agree on all tasks and cores
pub record Agree (f g : Figures) : Type 0 where
  pub tasks : g.tasks ≡ f.tasks
  pub cores : g.cores ≡ f.cores
  pub period : (i : ℕ) → i < f.tasks → g.period i ≡ f.period i
  pub budget : (i : ℕ) → i < f.tasks → g.budget i ≡ f.budget i
  pub core : (i : ℕ) → i < f.tasks → g.core i ≡ f.core i
  pub stroke : (i : ℕ) → i < f.tasks → g.stroke i ≡ f.stroke i
  pub factor : (i : ℕ) → i < f.tasks → g.factor i ≡ f.factor i
  pub pivot : (k : ℕ) → k < f.cores → g.pivot k ≡ f.pivot k
  pub divisor : (k : ℕ) → k < f.cores → g.divisor k ≡ f.divisor k

-- g has the figures of f, those of task j under the number r j
pub record Renamed (f g : Figures) (r : ℕ → ℕ) : Type 0 where
  pub tasks : g.tasks ≡ f.tasks
  pub cores : g.cores ≡ f.cores
  pub below : (j : ℕ) → j < f.tasks → r j < f.tasks
  pub found : (i : ℕ) → i < f.tasks → (j : ℕ) × (j < f.tasks) × (r j ≡ i)
  pub period : (j : ℕ) → j < f.tasks → g.period (r j) ≡ f.period j
  pub budget : (j : ℕ) → j < f.tasks → g.budget (r j) ≡ f.budget j
  pub core : (j : ℕ) → j < f.tasks → g.core (r j) ≡ f.core j
  pub stroke : (j : ℕ) → j < f.tasks → g.stroke (r j) ≡ f.stroke j
  pub factor : (j : ℕ) → j < f.tasks → g.factor (r j) ≡ f.factor j
  pub pivot : (k : ℕ) → k < f.cores → g.pivot k ≡ f.pivot k
  pub divisor : (k : ℕ) → k < f.cores → g.divisor k ≡ f.divisor k
  pub order : (k : ℕ) → order_on g k ≡ map r (order_on f k)
