-- Versions 1 and 2, in which every stroke is of one tick: 25 is never given, and rule 14 is that the load of a core is at most one.
-- Assumes nothing.
use Prim.Native.Nat.{ℕ, ◌≤◌, ◌<◌}
use mathlib.Core.Path.{◌≡◌, refl, sym, ap, ◌∙◌}
use mathlib.Core.Logic.{◌↔◌}
use mathlib.Core.Bool.{Bool, true, false, true≢false}
use Rattle.std.specs.Prelude.{Option, None, Some}
use Rattle.std.specs.Option.{option_map}
use Rattle.sheet.proofs.Options.{some-ne-none}
use mathlib.Core.List.{List, [], ◌∷◌, ◌++◌}
use native.Mathlib.Nat.{zero-add}
use native.Mathlib.Omega.{arith}
use lib.ListN.{drop}
use Rattle.sheet.specs.Ranges.{bad_budget, bad_stroke}
use Rattle.sheet.specs.Records.{Figures, task_count, core_count}
use Rattle.sheet.specs.Table.{Refused, ◌at◌, scan, whole, has_rule}
use Rattle.sheet.specs.Views.{is_grouped, is_stroked, stroke_of_position, by_position}
use Rattle.sheet.proofs.Ranges.{in_range_lem, range_in}
use Rattle.fit.specs.Lists.{Each}
use Rattle.fit.specs.Fits.{Multiples, exact_load, full_load}
use Rattle.fit.specs.Cores.{order_on}
use Rattle.fit.proofs.Blocking.{levels_unstroked}
use Rattle.fit.proofs.Finds.{find_some_lem}
use Rattle.fit.proofs.Lists.{each_of}
use Rattle.fit.proofs.Priority.{order_members}
use Rattle.checker.specs.Rules.{frame_rows, spare_rows, task_rows, core_rows, fit_rows}
use Rattle.checker.specs.Verdict.{refused, verdict}
use Rattle.checker.specs.Accepted.{LoadAtMostOne}
use Rattle.checker.proofs.Acceptance.{kept}
use Rattle.checker.proofs.Refused.{other_rule, tasks_found}

-- every stroke is of one tick
pub unstroked : (s : List ℕ) → is_stroked s ≡ false → (i : ℕ) → (by_position s).stroke i ≡ 1
unstroked s h i = ap (λ (b : Bool). stroke_of_position b (drop 8 s) i) h

-- rule 25 is broken first among the rows of the tasks: every budget is in range, and some stroke is not
stroke_first : (a b q d : Option ℕ) (out : Bool) (x : ℕ) → scan (7 at a ∷ 8 at b ∷ 25 at q ∷ 23 at whole out ∷ 9 at d ∷ []) ≡ Some (record { number = 25; place = x }) → (b ≡ None) × (q ≡ Some x)
unfolding scan whole
stroke_first (Some y) b q d out x e = other_rule 7 _ 25 x (λ z. omega arith) e
stroke_first None (Some y) q d out x e = other_rule 8 _ 25 x (λ z. omega arith) e
stroke_first None None (Some y) d out x e = (refl, ap (option_map (λ (r : Refused). r.place)) e)
stroke_first None None None d true x e = other_rule 23 _ 25 x (λ z. omega arith) e
stroke_first None None None (Some y) false x e = other_rule 9 _ 25 x (λ z. omega arith) e
stroke_first None None None None false x e = absurd (some-ne-none _ (sym e))

-- a budget in range is no less than a stroke of one tick
one_tick_lem : (p e q : ℕ → ℕ) (i : ℕ) → bad_budget p e i ≡ false → q i ≡ 1 → bad_stroke e q i ≡ false
unfolding bad_budget bad_stroke
one_tick_lem p e q i h o = rw o (range_in (e i) 1 (omega arith) (in_range_lem (p i) (e i) h).0)

other_rows : (s : List ℕ) → has_rule 25 (frame_rows s ++ spare_rows (is_grouped s) (is_stroked s) (task_count s) (core_count s) s (drop 8 s)) ≡ false
unfolding frame_rows spare_rows has_rule
other_rows s = refl

later_rows : (f : Figures) → has_rule 25 (core_rows f ++ fit_rows f) ≡ false
unfolding core_rows fit_rows has_rule
later_rows f = refl

-- The checker answers 25 to a version 3 sheet alone.
pub unstroked_not_stroke : (s : List ℕ) (x : ℕ) → is_stroked s ≡ false → verdict s ≡ refused 25 x → ⊥
unfolding task_rows
unstroked_not_stroke s x h v =
    let f : Figures = by_position s in
    let w = stroke_first _ _ _ _ _ x (tasks_found s 25 x (other_rows s) (later_rows f) v) in
    let t = find_some_lem (bad_stroke f.budget f.stroke) 0 f.tasks x w.1 in
    let b : bad_budget f.period f.budget x ≡ false = kept (bad_budget f.period f.budget) f.tasks w.0 x (rw zero-add at t.0) in
    true≢false (sym t.1 ∙ one_tick_lem f.period f.budget f.stroke x b (unstroked s h x))

-- Where every stroke is of one tick, rule 14 is kept exactly when the load of the core is at most one.
pub unstroked_load : (f : Figures) (k : ℕ) → ((i : ℕ) → i < f.tasks → f.stroke i ≡ 1) → ((i : ℕ) → i < f.tasks → 1 ≤ f.factor i) → Multiples f.factor 1 (order_on f k) → LoadAtMostOne f k ↔ (exact_load f.budget f.factor (f.divisor k) (order_on f k) ≤ full_load f.factor (f.pivot k) (order_on f k))
unfolding LoadAtMostOne order_on
unstroked_load f k one positive chain =
    let members : Each (λ i. (i < f.tasks) × (f.core i ≡ k)) (order_on f k) = order_members f.period f.core k f.tasks in
    levels_unstroked f.budget f.stroke f.factor (f.pivot k) (f.divisor k) (order_on f k) chain (each_of _ (λ i m. positive i m.0) members) (each_of _ (λ i m. one i m.0) members)
