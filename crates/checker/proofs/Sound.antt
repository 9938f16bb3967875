-- One pass over the tasks: where every task keeps rules 7, 8, 25, 9, 11 and 12, those rows of the table are clear.
-- Assumes nothing.
use Prim.Native.Nat.{ℕ, ◌<◌}
use mathlib.Core.Path.{◌≡◌, refl, sym}
use mathlib.Core.Bool.{Bool, true, false, ◌||◌}
use Rattle.std.specs.Prelude.{Option, None, Some}
use mathlib.Core.List.{[], ◌∷◌, ◌++◌, append_assoc}
use native.Mathlib.Nat.{zero-add}
use borrow.Author.Tests.{not-true}
use Rattle.sheet.specs.Ranges.{bad_period, bad_budget, bad_stroke}
use Rattle.sheet.specs.Records.{Figures}
use Rattle.sheet.specs.Table.{Refused, ◌at◌, scan, whole}
use Rattle.sheet.proofs.Ranges.{neither}
use Rattle.sheet.proofs.Scans.{scan_skip}
use Rattle.fit.specs.Lists.{numbers, find}
use Rattle.fit.proofs.Finds.{none_find}
use Rattle.checker.specs.Tests.{bad_core, bad_factor, stretched_at}
use Rattle.checker.specs.Rules.{task_rows, core_rows, fit_rows, record_rows}
use Rattle.checker.specs.Steps.{sound_at, early_rows}

-- the rules at a sound task
record Parts (f : Figures) (i : ℕ) : Type 0 where
  period : bad_period f.period i ≡ false
  budget : bad_budget f.period f.budget i ≡ false
  stroke : bad_stroke f.budget f.stroke i ≡ false
  core : bad_core f.cores f.core i ≡ false
  factor : bad_factor f.factor i ≡ false
  stretch : stretched_at f i ≡ false

parts : (f : Figures) (i : ℕ) → sound_at f i ≡ true → Parts f i
unfolding sound_at
parts f i e =
    let a = neither (bad_period f.period i || (bad_budget f.period f.budget i || bad_stroke f.budget f.stroke i) || (bad_core f.cores f.core i || bad_factor f.factor i)) (stretched_at f i) (not-true _ e) in
    let b = neither (bad_period f.period i || (bad_budget f.period f.budget i || bad_stroke f.budget f.stroke i)) (bad_core f.cores f.core i || bad_factor f.factor i) a.0 in
    let c = neither (bad_period f.period i) (bad_budget f.period f.budget i || bad_stroke f.budget f.stroke i) b.0 in
    let g = neither (bad_budget f.period f.budget i) (bad_stroke f.budget f.stroke i) c.1 in
    let d = neither (bad_core f.cores f.core i) (bad_factor f.factor i) b.1 in
    record { period = c.0; budget = g.0; stroke = g.1; core = d.0; factor = d.1; stretch = a.1 }

module _ (f : Figures) (all : (i : ℕ) → i < f.tasks → sound_at f i ≡ true) where
  clear : (q : ℕ → Bool) → ((i : ℕ) → Parts f i → q i ≡ false) → None ≡ find q (numbers 0 f.tasks)
  clear q h = sym (none_find q 0 f.tasks (λ i a b. h i (parts f i (all i (rw zero-add at b)))))

  pub factors_clear : None ≡ find (bad_factor f.factor) (numbers 0 f.tasks)
  factors_clear = clear (bad_factor f.factor) (λ i p. p.factor)

  pub stretch_clear : None ≡ find (stretched_at f) (numbers 0 f.tasks)
  stretch_clear = clear (stretched_at f) (λ i p. p.stretch)

  -- rules 7, 8 and 25 are clear before rule 23, and rule 9 after it
  pub to_order : (b : Bool) (x : Option Refused) → x ≡ scan (23 at whole b ∷ 9 at find (bad_core f.cores f.core) (numbers 0 f.tasks) ∷ core_rows f) → x ≡ scan (early_rows b f)
  unfolding early_rows task_rows
  to_order b x e =
      scan_skip 7 _ _ x (clear (bad_period f.period) (λ i p. p.period)) (scan_skip 8 _ _ x (clear (bad_budget f.period f.budget) (λ i p. p.budget)) (scan_skip 25 _ _ x (clear (bad_stroke f.budget f.stroke) (λ i p. p.stroke)) e))

  pub past_order : (x : Option Refused) → x ≡ scan (core_rows f) → x ≡ scan (9 at find (bad_core f.cores f.core) (numbers 0 f.tasks) ∷ core_rows f)
  past_order x e = scan_skip 9 _ _ x (clear (bad_core f.cores f.core) (λ i p. p.core)) e

-- a row that is clear behind another
pub behind : (k j : ℕ) (o p : Option ℕ) → None ≡ p → scan (k at o ∷ []) ≡ scan (k at o ∷ j at p ∷ [])
unfolding scan
behind k j None p e = rw (← e)
behind k j (Some x) p e = refl

-- all rules are the early rows and then the last two
pub all_rows : (b : Bool) (f : Figures) → early_rows b f ++ fit_rows f ≡ record_rows b f
unfolding early_rows record_rows
all_rows b f = append_assoc (task_rows b f) (core_rows f) (fit_rows f)
