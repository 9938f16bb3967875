-- Figures that agree have the same text, and the lines of the cores stay as they are where the tasks have other numbers.
-- Assumes nothing.
use Prim.Native.Nat.{ℕ, ◌<◌}
use mathlib.Core.Path.{◌≡◌, refl, ap, ap₂, ◌∙◌}
use mathlib.Core.List.{◌++◌}
use native.Mathlib.Nat.{zero-add}
use Rattle.sheet.specs.Records.{Figures}
use Rattle.fit.specs.Lists.{numbers, joined}
use Rattle.fit.specs.Cores.{within_on}
use Rattle.fit.proofs.Laying.{records_ext}
use Rattle.views.specs.Renamed.{Renamed, Agree}
use Rattle.views.proofs.Renamed.{renamed_load, renamed_full, agree_renamed}
use Rattle.checker.specs.Accepted.{TasksInRange}
use Rattle.listing.specs.Listing.{header_line, task_line, load_of, core_line, sheet_text}

module _ (f g : Figures) (r : ℕ → ℕ) (s : Renamed f g r) where
  core_same : (k : ℕ) → k < f.cores → core_line g k ≡ core_line f k
  unfolding core_line load_of
  core_same k h = rw (renamed_load f g r s k h, renamed_full f g r s k h, s.pivot k h, s.divisor k h) refl

  pub cores_renamed : joined (core_line g) (numbers 0 g.cores) ≡ joined (core_line f) (numbers 0 f.cores)
  cores_renamed =
      ap (λ n. joined (core_line g) (numbers 0 n)) s.cores
      ∙ records_ext (core_line g) (core_line f) 0 f.cores (λ k a h. core_same k (rw zero-add at h))

module _ (f g : Figures) (s : Agree f g) (t : TasksInRange f) where
  task_same : (i : ℕ) → i < f.tasks → task_line g i ≡ task_line f i
  unfolding task_line within_on
  task_same i h = rw (s.core i h, s.period i h, s.budget i h, s.factor i h, s.pivot (f.core i) (t.core i h), s.divisor (f.core i) (t.core i h)) refl

  pub tasks_agree : joined (task_line g) (numbers 0 g.tasks) ≡ joined (task_line f) (numbers 0 f.tasks)
  tasks_agree =
      ap (λ n. joined (task_line g) (numbers 0 n)) s.tasks
      ∙ records_ext (task_line g) (task_line f) 0 f.tasks (λ i a h. task_same i (rw zero-add at h))

-- Figures that agree have the same text.
pub agree_text : (v : ℕ) (f g : Figures) → Agree f g → TasksInRange f → sheet_text v g ≡ sheet_text v f
unfolding sheet_text
agree_text v f g s t =
    ap₂ ◌++◌ (ap₂ ◌++◌ (ap₂ (header_line v) s.tasks s.cores) (tasks_agree f g s t)) (cores_renamed f g (λ i. i) (agree_renamed f g s))
