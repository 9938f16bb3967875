-- Rule 6: its three rows together find the lowest spare byte that is not 0.
-- Assumes nothing.
use Prim.Native.Nat.{ℕ, zero, suc, ◌+◌, ◌*◌, ◌<◌}
use mathlib.Core.Path.{◌≡◌, refl, sym, ap, ◌∙◌}
use mathlib.Core.Logic.{◌↔◌}
use mathlib.Core.Bool.{Bool, true, false, cond, true≢false}
use Rattle.std.specs.Prelude.{Option, None, Some}
use Rattle.std.specs.Option.{option_map}
use Rattle.sheet.proofs.Options.{none-ne-some}
use mathlib.Core.List.{List, [], ◌∷◌, ◌++◌, map}
use native.Mathlib.Omega.{arith}
use native.Mathlib.Nat.{add_assoc}
use lib.ListN.{drop}
use lib.Seq.{get_or-drop}
use Rattle.sheet.specs.Table.{Refused, ◌at◌, scan, FirstBroken}
use Rattle.sheet.specs.Records.{task_count, core_count}
use Rattle.sheet.specs.Views.{is_grouped, is_stroked}
use Rattle.sheet.proofs.Exactly.{scan_exactly}
use Rattle.fit.specs.Lists.{find, or_else, Each, EachPair}
use Rattle.fit.proofs.Lists.{each_append, each_halves, pairs_append}
use Rattle.fit.proofs.Firsts.{none_exactly, found_each, found_lowest, find_append}
use Rattle.checker.specs.Tests.{task_spares, core_spares, is_set}
use Rattle.checker.specs.Rules.{offset, spare_rows}
use Rattle.checker.specs.Places.{SpareOffset, header, task, core_low, core_high, LowestSpare}
use Rattle.checker.proofs.Offsets.{task_all, task_each, core_all, core_each}
use Rattle.checker.proofs.Acceptance.{is_zero, not_set}

-- the offsets of all spare bytes of a sheet of n tasks and c cores
unfoldable spares : (grouped stroked : Bool) → ℕ → ℕ → List ℕ
spares grouped stroked n c = 7 ∷ (task_spares stroked 8 n ++ core_spares grouped (8 + 10 * n) c)

module _ (P : ℕ → Type 0) (s : List ℕ) where
  spares_all : ((y : ℕ) → SpareOffset s y → P y) → Each P (spares (is_grouped s) (is_stroked s) (task_count s) (core_count s))
  unfolding spares Each
  spares_all f =
      let tasks : Each P (task_spares (is_stroked s) 8 (task_count s)) = task_all P (is_stroked s) 8 (task_count s) (λ v i h. f _ (task i h v refl)) in
      let cores : Each P (core_spares (is_grouped s) (8 + 10 * task_count s) (core_count s)) = core_all P (is_grouped s) (8 + 10 * task_count s) (core_count s) (λ k h. ((λ g. f _ (core_low k h g refl)), f _ (core_high k h refl))) in
      (f 7 (header refl), each_append P (task_spares (is_stroked s) 8 (task_count s)) (core_spares (is_grouped s) (8 + 10 * task_count s) (core_count s)) tasks cores)

  spares_each : Each P (spares (is_grouped s) (is_stroked s) (task_count s) (core_count s)) → (y : ℕ) → SpareOffset s y → P y
  unfolding spares Each
  spares_each h y o =
      let r = each_halves P (task_spares (is_stroked s) 8 (task_count s)) (core_spares (is_grouped s) (8 + 10 * task_count s) (core_count s)) h.1 in
      by (λ v. task_each P (is_stroked s) v 8 (task_count s) r.0) (core_each P (is_grouped s) (8 + 10 * task_count s) (core_count s) r.1) o
    where
      by : (is_stroked s ≡ false → (i : ℕ) → i < task_count s → P (8 + 10 * i + 5)) → ((k : ℕ) → k < core_count s → (is_grouped s ≡ false → P (8 + 10 * task_count s + 8 * k + 2)) × P (8 + 10 * task_count s + 8 * k + 3)) → SpareOffset s y → P y
      by t c (header e) = rw e h.0
      by t c (task i q v e) = rw e (t v i q)
      by t c (core_low k q g e) = rw e ((c k q).0 g)
      by t c (core_high k q e) = rw e (c k q).1

-- they rise
tasks_rise : (stroked : Bool) (a n : ℕ) → EachPair ◌<◌ (task_spares stroked a n)
unfolding task_spares EachPair
tasks_rise true a n = tt
tasks_rise false a zero = tt
tasks_rise false a (suc n) = (task_all (λ y. a + 5 < y) false (a + 10) n (λ v i h. omega arith), tasks_rise false (a + 10) n)

cores_rise : (grouped : Bool) (a c : ℕ) → EachPair ◌<◌ (core_spares grouped a c)
unfolding core_spares Each EachPair
cores_rise grouped a zero = tt
cores_rise true a (suc c) = (core_all (λ y. a + 3 < y) true (a + 8) c (λ k h. ((λ g. omega arith), omega arith)), cores_rise true (a + 8) c)
cores_rise false a (suc c) = (
  (omega arith, core_all (λ y. a + 2 < y) false (a + 8) c (λ k h. ((λ g. omega arith), omega arith))),
  (core_all (λ y. a + 3 < y) false (a + 8) c (λ k h. ((λ g. omega arith), omega arith)), cores_rise false (a + 8) c),
)

spares_rise : (grouped stroked : Bool) (n c : ℕ) → EachPair ◌<◌ (spares grouped stroked n c)
unfolding spares EachPair
spares_rise grouped stroked n c = (
  each_append _ (task_spares stroked 8 n) _ (task_all (λ y. 7 < y) stroked 8 n (λ v i h. omega arith)) (core_all (λ y. 7 < y) grouped (8 + 10 * n) c (λ k h. ((λ g. omega arith), omega arith))),
  pairs_append ◌<◌ (task_spares stroked 8 n) _ (tasks_rise stroked 8 n) (cores_rise grouped (8 + 10 * n) c)
      (task_all (λ x. Each (λ y. x < y) (core_spares grouped (8 + 10 * n) c)) stroked 8 n (λ v i h. core_all (λ y. 8 + 10 * i + 5 < y) grouped (8 + 10 * n) c (λ k q. ((λ g. omega arith), omega arith)))),
)

-- a search in the part from byte 8 is one in the sheet
set_part : (s : List ℕ) (x : ℕ) → is_set (drop 8 s) x ≡ is_set s (8 + x)
unfolding is_set
set_part s x = rw (get_or-drop 8 s x 0)

find_part : (s l : List ℕ) → offset (find (is_set (drop 8 s)) l) ≡ find (is_set s) (map (λ a. 8 + a) l)
unfolding offset find
find_part s [] = refl
find_part s (x ∷ l) = rw (set_part s x) (by (is_set s (8 + x)) (find_part s l))
  where
    by : (b : Bool) → offset (find (is_set (drop 8 s)) l) ≡ find (is_set s) (map (λ a. 8 + a) l) → offset (cond b (Some x) (find (is_set (drop 8 s)) l)) ≡ cond b (Some (8 + x)) (find (is_set s) (map (λ a. 8 + a) l))
    by true h = refl
    by false h = h

task_part : (stroked : Bool) (a n : ℕ) → map (λ x. 8 + x) (task_spares stroked a n) ≡ task_spares stroked (8 + a) n
unfolding task_spares
task_part true a n = refl
task_part false a zero = refl
task_part false a (suc n) = rw (task_part false (a + 10) n) (simp add_assoc)

core_part : (grouped : Bool) (a c : ℕ) → map (λ x. 8 + x) (core_spares grouped a c) ≡ core_spares grouped (8 + a) c
unfolding core_spares
core_part grouped a zero = refl
core_part true a (suc c) = rw (core_part true (a + 8) c) (simp add_assoc)
core_part false a (suc c) = rw (core_part false (a + 8) c) (simp add_assoc)

-- the first of three rows of rule 6 that has a place
abbrev spare_at : ℕ → Refused
spare_at x = record { number = 6; place = x }

three : (a b c : Option ℕ) → scan (6 at a ∷ 6 at b ∷ 6 at c ∷ []) ≡ option_map spare_at (or_else a (or_else b c))
unfolding scan
three (Some x) b c = refl
three None (Some x) c = refl
three None None (Some x) = refl
three None None None = refl

rows_find : (s : List ℕ) (grouped stroked : Bool) (n c : ℕ) → scan (spare_rows grouped stroked n c s (drop 8 s)) ≡ option_map spare_at (find (is_set s) (spares grouped stroked n c))
unfolding spare_rows spares
rows_find s grouped stroked n c =
    let whole : find (is_set s) (spares grouped stroked n c) ≡ or_else (find (is_set s) (7 ∷ [])) (or_else (find (is_set s) (task_spares stroked 8 n)) (find (is_set s) (core_spares grouped (8 + 10 * n) c))) = rw (find_append (is_set s) (7 ∷ []) (task_spares stroked 8 n ++ core_spares grouped (8 + 10 * n) c), find_append (is_set s) (task_spares stroked 8 n) (core_spares grouped (8 + 10 * n) c)) in
    three _ _ _
    ∙ rw (find_part s (task_spares stroked 0 n), find_part s (core_spares grouped (10 * n) c), task_part stroked 0 n, core_part grouped (10 * n) c)
    (ap (option_map spare_at) (sym whole))

-- the first of the offsets that is set is the lowest
lowest_exactly : (s : List ℕ) (x : ℕ) → (find (is_set s) (spares (is_grouped s) (is_stroked s) (task_count s) (core_count s)) ≡ Some x) ↔ LowestSpare s x
lowest_exactly s x = (to x, back)
  where
    to : (x : ℕ) → find (is_set s) (spares (is_grouped s) (is_stroked s) (task_count s) (core_count s)) ≡ Some x → LowestSpare s x
    to x e =
        let r = found_each (is_set s) x (SpareOffset s) _ e (spares_all (SpareOffset s) s (λ y h. h)) in
        record {
          spare = r.0;
          set = λ z. true≢false (sym r.1 ∙ not_set s x z);
          lowest = λ y o h. is_zero s y (spares_each (λ y. y < x → is_set s y ≡ false) s (found_lowest (is_set s) x _ (spares_rise (is_grouped s) (is_stroked s) (task_count s) (core_count s)) e) y o h);
        }

    back : LowestSpare s x → find (is_set s) (spares (is_grouped s) (is_stroked s) (task_count s) (core_count s)) ≡ Some x
    back t = by (find (is_set s) (spares (is_grouped s) (is_stroked s) (task_count s) (core_count s))) refl
      where
        by : (o : Option ℕ) → find (is_set s) (spares (is_grouped s) (is_stroked s) (task_count s) (core_count s)) ≡ o → find (is_set s) (spares (is_grouped s) (is_stroked s) (task_count s) (core_count s)) ≡ Some x
        by None e = absurd (t.set (is_zero s x (spares_each (λ y. is_set s y ≡ false) s ((none_exactly (is_set s) _).0 e) x t.spare)))
        by (Some y) e =
            let u = to y e in
            let a : y < x → ⊥ = λ h. u.set (t.lowest y u.spare h) in
            let b : x < y → ⊥ = λ h. t.set (u.lowest x t.spare h) in
            let z : y ≡ x = omega (arith, a, b) in
            e ∙ ap Some z

-- The three rows are broken first at x exactly when x is the lowest offset of a spare byte that is not 0.
pub spare_rows_exactly : (s : List ℕ) (x : ℕ) → FirstBroken (spare_rows (is_grouped s) (is_stroked s) (task_count s) (core_count s) s (drop 8 s)) 6 x ↔ LowestSpare s x
spare_rows_exactly s x = (
  (λ b. (lowest_exactly s x).0 (place _ (sym (rows_find s (is_grouped s) (is_stroked s) (task_count s) (core_count s)) ∙ (scan_exactly _ 6 x).1 b))),
  (λ t. (scan_exactly _ 6 x).0 (rows_find s (is_grouped s) (is_stroked s) (task_count s) (core_count s) ∙ rw ((lowest_exactly s x).1 t))),
)
  where
    place : (o : Option ℕ) → option_map spare_at o ≡ Some (record { number = 6; place = x }) → o ≡ Some x
    place None e = absurd (none-ne-some _ e)
    place (Some y) e = ap (option_map (λ (r : Refused). r.place)) e
