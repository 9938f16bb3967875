-- Rule 9 cannot be broken first in a version 2 sheet: where the task counts add up, every position lies on a core.
-- Assumes nothing.
use Prim.Native.Nat.{ℕ, ◌*◌}
use mathlib.Core.Path.{◌≡◌, refl, sym, ap, ◌∙◌}
use mathlib.Core.Bool.{Bool, true, false}
use Rattle.std.specs.Prelude.{Option, None, Some}
use Rattle.std.specs.Option.{option_map}
use Rattle.sheet.proofs.Options.{some-ne-none}
use mathlib.Core.List.{List, [], ◌∷◌, ◌++◌}
use native.Mathlib.Omega.{arith}
use borrow.Author.Tests.{lt-leb}
use lib.ListN.{drop}
use Rattle.sheet.specs.Table.{Refused, ◌at◌, scan, whole, has_rule}
use Rattle.sheet.specs.Records.{Figures, count_at, task_count, core_count}
use Rattle.sheet.specs.Views.{is_grouped, is_stroked, positioned_in, by_position}
use Rattle.fit.specs.Lists.{numbers, find}
use Rattle.views.proofs.Counts.{core_where}
use Rattle.checker.specs.Tests.{bad_core}
use Rattle.checker.specs.Rules.{frame_rows, spare_rows, task_rows, core_rows, fit_rows}
use Rattle.checker.specs.Verdict.{refused, verdict}
use Rattle.checker.specs.Accepted.{OrderKept}
use Rattle.checker.proofs.Acceptance.{keeps, order_kept}
use Rattle.checker.proofs.Refused.{other_rule, tasks_found}

-- rule 9 is broken first among the rows of the tasks
ninth : (a b q d : Option ℕ) (out : Bool) (x : ℕ) → scan (7 at a ∷ 8 at b ∷ 25 at q ∷ 23 at whole out ∷ 9 at d ∷ []) ≡ Some (record { number = 9; place = x }) → (out ≡ false) × (d ≡ Some x)
unfolding scan whole
ninth (Some y) b q d out x e = other_rule 7 _ 9 x (λ z. omega arith) e
ninth None (Some y) q d out x e = other_rule 8 _ 9 x (λ z. omega arith) e
ninth None None (Some y) d out x e = other_rule 25 _ 9 x (λ z. omega arith) e
ninth None None None d true x e = other_rule 23 _ 9 x (λ z. omega arith) e
ninth None None None None false x e = absurd (some-ne-none _ (sym e))
ninth None None None (Some y) false x e = (refl, ap (option_map (λ (r : Refused). r.place)) e)

-- in version 2's order every position is on one of the cores
all_placed : (stroked : Bool) (n c : ℕ) (records : List ℕ) → OrderKept true stroked n c records → find (bad_core c (positioned_in true stroked n c records).core) (numbers 0 n) ≡ None
unfolding OrderKept bad_core
all_placed stroked n c records h = keeps _ n (λ i b. lt-leb _ _ (core_where (count_at (drop (10 * n) records)) c i (omega (arith, (h refl).counts))).0)

other_rows : (s : List ℕ) → has_rule 9 (frame_rows s ++ spare_rows (is_grouped s) (is_stroked s) (task_count s) (core_count s) s (drop 8 s)) ≡ false
unfolding frame_rows spare_rows has_rule
other_rows s = refl

later_rows : (f : Figures) → has_rule 9 (core_rows f ++ fit_rows f) ≡ false
unfolding core_rows fit_rows has_rule
later_rows f = refl

-- The checker never answers 9 to a version 2 sheet.
pub grouped_not_core : (s : List ℕ) (x : ℕ) → is_grouped s ≡ true → verdict s ≡ refused 9 x → ⊥
unfolding task_rows
grouped_not_core s x g v =
    let w = ninth _ _ _ _ _ x (tasks_found s 9 x (other_rows s) (later_rows (by_position s)) v) in
    by (is_grouped s) g (order_kept (is_grouped s) (is_stroked s) (task_count s) (core_count s) (drop 8 s) w.0) w.1
  where
    by : (b : Bool) → b ≡ true → OrderKept b (is_stroked s) (task_count s) (core_count s) (drop 8 s) → find (bad_core (core_count s) (positioned_in b (is_stroked s) (task_count s) (core_count s) (drop 8 s)).core) (numbers 0 (task_count s)) ≡ Some x → ⊥
    by true t h e = some-ne-none _ (sym e ∙ all_placed (is_stroked s) (task_count s) (core_count s) (drop 8 s) h)
    by false t h e = let z : ◌≡◌ {A = Bool} false true = t in absurd (let y : ◌≡◌ {A = ℕ} 0 1 = cc in omega arith)
