-- The verdict is a refusal k at place x exactly when k is the first broken rule, at x; and what rules 6 and 13 say by that.
-- Assumes nothing.
use Prim.Native.Nat.{ℕ}
use mathlib.Core.Path.{◌≡◌, refl, sym, ap, subst}
use mathlib.Core.Logic.{◌↔◌}
use mathlib.Core.Bool.{Bool, false}
use Rattle.std.specs.Prelude.{Option, None, Some}
use Rattle.std.specs.Option.{option_map}
use mathlib.Core.List.{List, [], ◌∷◌, ◌++◌, append_assoc}
use native.Mathlib.Omega.{arith}
use lib.ListN.{drop}
use Rattle.sheet.specs.Table.{Row, Refused, ◌at◌, scan, AllKept, FirstBroken, has_rule}
use Rattle.sheet.specs.Records.{Figures, task_count, core_count}
use Rattle.sheet.specs.Views.{is_grouped, is_stroked, by_position}
use Rattle.sheet.proofs.Exactly.{scan_exactly, scan_kept, part_exactly, row_exactly}
use Rattle.fit.specs.Lists.{numbers, find_some}
use Rattle.fit.proofs.Firsts.{find_some_exactly, break_exactly}
use Rattle.fit.proofs.Levels.{chain_multiples, multiples_chain}
use Rattle.checker.specs.Tests.{bad_order, chain_break_on}
use Rattle.checker.specs.Rules.{frame_rows, spare_rows, task_rows, core_rows, fit_rows, record_rows, part_rows, rules}
use Rattle.checker.specs.Verdict.{refused, outcome, verdict}
use Rattle.checker.specs.Accepted.{Framed}
use Rattle.checker.specs.Places.{LowestSpare, FirstChainBreak}
use Rattle.checker.proofs.Acceptance.{frame_kept, frame_keep}
use Rattle.checker.proofs.Lowest.{spare_rows_exactly}

-- The verdict is refusal k at place x exactly when rule k is broken first, at x, and every rule before it is kept.
pub refused_exactly : (s : List ℕ) (k x : ℕ) → (verdict s ≡ refused k x) ↔ FirstBroken (rules s) k x
unfolding verdict outcome
refused_exactly s k x = ((λ e. (scan_exactly (rules s) k x).0 (by (scan (rules s)) e)), (λ b. rw ((scan_exactly (rules s) k x).1 b)))
  where
    by : (o : Option Refused) → outcome o (task_count s) (core_count s) ≡ refused k x → o ≡ Some (record { number = k; place = x })
    by None e = absurd (let z : ◌≡◌ {A = ℕ} 0 1 = cc in omega arith)
    by (Some r) e =
        let a : r.number ≡ k = cc in
        let b : r.place ≡ x = cc in
        rw (← a, ← b)

-- Rule 13: no core before it has a broken chain, and in its core it is the first task by priority that breaks it.
pub chain_exactly : (f : Figures) (x : ℕ) → (find_some (chain_break_on f) (numbers 0 f.cores) ≡ Some x) ↔ FirstChainBreak f x
unfolding chain_break_on
chain_exactly f x = (
  (λ e. let r = (find_some_exactly (chain_break_on f) f.cores x).0 e in record { core = r.number; below = r.below; breaks = (break_exactly _ 1 _ x).0 r.answers; first = λ k h. chain_multiples _ 1 _ (r.first k h) }),
  (λ t. (find_some_exactly (chain_break_on f) f.cores x).1 (record { number = t.core; below = t.below; answers = (break_exactly _ 1 _ x).1 t.breaks; first = λ k h. multiples_chain _ 1 _ (t.first k h) })),
)

-- A rule that has one row is broken first at x exactly when every row before it is kept and its place is x.
pub rule_exactly : (s : List ℕ) (k x : ℕ) (before : List Row) (o : Option ℕ) (after : List Row) → rules s ≡ before ++ k at o ∷ after → has_rule k before ≡ false → has_rule k after ≡ false → (verdict s ≡ refused k x) ↔ (AllKept before × (o ≡ Some x))
rule_exactly s k x before o after e a b =
    let part = part_exactly before (k at o ∷ []) after k x a b in
    let row = row_exactly k x o in (
      (λ v. let t = part.0 (subst (λ (rows : List Row). FirstBroken rows k x) e ((refused_exactly s k x).0 v)) in (t.0, row.0 t.1)),
      (λ t. (refused_exactly s k x).1 (subst (λ (rows : List Row). FirstBroken rows k x) (sym e) (part.1 (t.0, row.1 t.1)))),
    )

-- one rule is not another
pub other_rule : {A : Type 0} (j y k x : ℕ) → (j ≡ k → ⊥) → ◌≡◌ {A = Option Refused} (Some (record { number = j; place = y })) (Some (record { number = k; place = x })) → A
other_rule j y k x n e =
    let w : Some j ≡ Some k = ap (option_map (λ (r : Refused). r.number)) e in
    absurd (n cc)

-- A rule that stands in the rows of the tasks alone is given by them.
pub tasks_found : (s : List ℕ) (k x : ℕ) → has_rule k (frame_rows s ++ spare_rows (is_grouped s) (is_stroked s) (task_count s) (core_count s) s (drop 8 s)) ≡ false → has_rule k (core_rows (by_position s) ++ fit_rows (by_position s)) ≡ false → verdict s ≡ refused k x → scan (task_rows (bad_order (is_grouped s) (by_position s) (drop 8 s)) (by_position s)) ≡ Some (record { number = k; place = x })
unfolding rules part_rows record_rows
tasks_found s k x a b v =
    let f : Figures = by_position s in
    let out : Bool = bad_order (is_grouped s) f (drop 8 s) in
    let spares : List Row = spare_rows (is_grouped s) (is_stroked s) (task_count s) (core_count s) s (drop 8 s) in
    let all : FirstBroken ((frame_rows s ++ spares) ++ record_rows out f) k x = subst (λ (rows : List Row). FirstBroken rows k x) (sym (append_assoc (frame_rows s) spares (record_rows out f))) ((refused_exactly s k x).0 v) in
    (scan_exactly (task_rows out f) k x).1 ((part_exactly (frame_rows s ++ spares) (task_rows out f) (core_rows f ++ fit_rows f) k x a b).0 all).1

-- rule 6 stands in the spare rows alone
frame_other : (s : List ℕ) → has_rule 6 (frame_rows s) ≡ false
unfolding frame_rows has_rule
frame_other s = refl

records_other : (grouped stroked : Bool) (n c : ℕ) (records : List ℕ) → has_rule 6 (part_rows grouped stroked n c records) ≡ false
unfolding part_rows record_rows task_rows core_rows fit_rows has_rule
records_other grouped stroked n c records = refl

-- Rule 6: the verdict is 6 at x exactly when rules 1 to 5 are kept and x is the lowest offset of a spare byte that is not 0.
pub spare_exactly : (s : List ℕ) (x : ℕ) → (verdict s ≡ refused 6 x) ↔ (Framed s × LowestSpare s x)
unfolding rules
spare_exactly s x =
    let part = part_exactly (frame_rows s) (spare_rows (is_grouped s) (is_stroked s) (task_count s) (core_count s) s (drop 8 s)) (part_rows (is_grouped s) (is_stroked s) (task_count s) (core_count s) (drop 8 s)) 6 x (frame_other s) (records_other (is_grouped s) (is_stroked s) (task_count s) (core_count s) (drop 8 s)) in (
      (λ v. let t = part.0 ((refused_exactly s 6 x).0 v) in (frame_kept s (sym ((scan_kept (frame_rows s)).1 t.0)), (spare_rows_exactly s x).0 t.1)),
      (λ t. (refused_exactly s 6 x).1 (part.1 ((scan_kept (frame_rows s)).0 (frame_keep s t.0), (spare_rows_exactly s x).1 t.1))),
    )
