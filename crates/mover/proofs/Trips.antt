-- Moving a sheet twice gives the same bytes, from either version.
-- Assumes nothing.
use Prim.Native.Nat.{ℕ, zero, suc, ◌+◌, ◌*◌, ◌<◌}
use mathlib.Core.Path.{◌≡◌, refl, sym, ap, subst, ◌∙◌}
use mathlib.Core.Logic.{◌⊎◌, inl, inr}
use mathlib.Core.Bool.{Bool, true, false, true≢false}
use mathlib.Core.List.{List, [], ◌∷◌, ◌++◌, map, map-append}
use native.Mathlib.Omega.{arith}
use borrow.Author.Tests.{eq-eqb, eqb-true}
use lib.ListN.{length, get_or, drop, length-map}
use Rattle.sheet.specs.Records.{Figures, period_at, number_at, count_at, task_count, core_count}
use Rattle.sheet.specs.Views.{version, is_grouped, is_stroked, first_of, core_by_counts, position_of_number, positioned_in, renumbered, by_position, figures}
use Rattle.fit.specs.Lists.{numbers, at, joined}
use Rattle.fit.specs.Priority.{order}
use Rattle.fit.specs.Cores.{order_on}
use Rattle.fit.proofs.Lists.{numbers_length}
use Rattle.fit.proofs.Laying.{records_ext}
use Rattle.views.specs.Renamed.{Agree}
use Rattle.views.proofs.Renamed.{agree_order}
use Rattle.views.proofs.Positions.{core_positions, joined_positions}
use Rattle.checker.specs.Accepted.{OrderKept, Acceptable}
use Rattle.checker.proofs.Views.{views_renamed}
use Rattle.mover.specs.Moved.{laid_out, grouping, layout1, layout2, version1, version2}
use Rattle.mover.proofs.Fields.{laid_tasks, laid_cores}
use Rattle.mover.proofs.Agreeing.{version1_ungrouped, version1_agree, grouped_unstroked, ungrouped_figures, version2_grouped, version2_order, version2_agree, version2_position, grouping_below}
use Rattle.mover.proofs.Accepting.{core_part, inside, own, to_version1, version1_counts}
use Rattle.mover.proofs.Laid.{laid_ext, laid_twice, laid_own}

-- what the two sheets are laid out by
version1_of : (s : List ℕ) → version1 s ≡ laid_out (layout1 s) s
unfolding version1
version1_of s = refl

version2_of : (s : List ℕ) → version2 s ≡ laid_out (layout2 s) s
unfolding version2
version2_of s = refl

pub version2_counts : (s : List ℕ) → (task_count (version2 s) ≡ task_count s) × (core_count (version2 s) ≡ core_count s)
unfolding version2
version2_counts s = (laid_tasks (layout2 s) s, laid_cores (layout2 s) s)

-- lists by number
joined_map : (g : ℕ → ℕ) (f : ℕ → List ℕ) (l : List ℕ) → joined (λ k. map g (f k)) l ≡ map g (joined f l)
unfolding joined
joined_map g f [] = refl
joined_map g f (k ∷ l) = ap (λ (m : List ℕ). map g (f k) ++ m) (joined_map g f l) ∙ sym (map-append g (f k) (joined f l))

map_number : (g : ℕ → ℕ) (a n j : ℕ) → j < n → get_or (map g (numbers a n)) j 0 ≡ g (a + j)
unfolding numbers
map_number g a zero j h = absurd (omega arith)
map_number g a (suc n) zero h = ap g (omega arith)
map_number g a (suc n) (suc j) h = map_number g (suc a) n j (omega arith) ∙ ap g (omega arith)

-- the order of each core of a version 2 sheet by number
module _ (stroked : Bool) (n c : ℕ) (records : List ℕ) where
  abbrev count : ℕ → ℕ
  count = count_at (drop (10 * n) records)

  abbrev viewed : Bool → Figures
  viewed b = renumbered (position_of_number b n records) (positioned_in b stroked n c records)

  grouped_order : (b : Bool) → b ≡ true → OrderKept b stroked n c records → (k : ℕ) → k < c → order_on (viewed b) k ≡ map (number_at records) (numbers (first_of count k) (count k))
  unfolding OrderKept order_on
  grouped_order true e o k h = (views_renamed true stroked n c records o).order k ∙ ap (map (number_at records)) (core_positions _ (number_at records) count n c (o refl) k h)
  grouped_order false e o k h = absurd (true≢false (sym e))

  grouped_all : (b : Bool) → b ≡ true → OrderKept b stroked n c records → joined (order_on (viewed b)) (numbers 0 c) ≡ map (number_at records) (numbers 0 n)
  unfolding OrderKept order_on
  grouped_all true e o =
      records_ext _ (λ k. map (number_at records) (order (period_at records) (core_by_counts count c) k n)) 0 c (λ k a h. (views_renamed true stroked n c records o).order k)
      ∙ joined_map (number_at records) (λ k. order (period_at records) (core_by_counts count c) k n) (numbers 0 c)
      ∙ ap (map (number_at records)) (joined_positions _ (number_at records) count n c (o refl) c (omega arith) ∙ ap (numbers 0) (o refl).counts)
  grouped_all false e o = absurd (true≢false (sym e))

-- from version 1 and back
module _ (s : List ℕ) (ungrouped : is_grouped s ≡ false) (unstroked : is_stroked s ≡ false) (h : Acceptable s) where
  placed : (i : ℕ) → i < task_count s → (by_position s).core i < core_count s
  placed = h.fitting.tasks.core

  own_core : (i : ℕ) → (figures s).core i ≡ number_at (drop 8 s) i
  own_core i = rw ungrouped

  own_version : (version s ≡ 1) ⊎ ((version s ≡ 2) ⊎ (version s ≡ 3)) → 1 ≡ version s
  own_version (inl e) = sym e
  own_version (inr (inl e)) = absurd (true≢false (sym (eq-eqb (version s) 2 e) ∙ ungrouped))
  own_version (inr (inr e)) = absurd (true≢false (sym (eq-eqb (version s) 3 e) ∙ unstroked))

  pub from_ungrouped : version1 (version2 s) ≡ s
  from_ungrouped =
      trip
      ∙ laid_ext _ _ s (own_version h.frame.version) (λ i b. version2_position s ungrouped placed i b) (λ i b. (version2_agree s ungrouped placed unstroked).core i b ∙ own_core i) (λ k b. sym (sym (core_part s k 2) ∙ (h.spares.cores k b).0 ungrouped))
      ∙ laid_own s h.frame
    where
      there : (i : ℕ) → i < task_count s → (layout1 (version2 s)).from i < task_count s
      there i b = subst (λ n. position_of_number (is_grouped (version2 s)) (task_count (version2 s)) (drop 8 (version2 s)) i < n) (version2_counts s).0 (inside (version2 s) (version2_grouped s) (version2_order s ungrouped placed) i (subst (λ n. i < n) (sym (version2_counts s).0) b))

      trip : version1 (version2 s) ≡ laid_out (record { version = 1; from = λ i. (layout2 s).from ((layout1 (version2 s)).from i); byte4 = (layout1 (version2 s)).byte4; count = λ k. 0 }) s
      trip = version1_of (version2 s) ∙ ap (laid_out (layout1 (version2 s))) (version2_of s) ∙ laid_twice (layout2 s) (layout1 (version2 s)) s there

-- from version 2 and back
module _ (s : List ℕ) (g : is_grouped s ≡ true) (h : Acceptable s) where
  new : Acceptable (version1 s)
  new = to_version1 s g h.order h

  pub new_agree : Agree (figures s) (figures (version1 s))
  new_agree = subst (Agree (figures s)) (sym (ungrouped_figures (version1 s) (version1_ungrouped s))) (version1_agree s (grouped_unstroked s g))

  new_order : (k : ℕ) → order_on (figures (version1 s)) k ≡ order_on (figures s) k
  new_order = agree_order (figures s) (figures (version1 s)) new_agree

  new_grouping : grouping (figures (version1 s)) ≡ map (number_at (drop 8 s)) (numbers 0 (task_count s))
  unfolding grouping
  new_grouping =
      ap (λ c. joined (order_on (figures (version1 s))) (numbers 0 c)) (version1_counts s).1
      ∙ records_ext _ (order_on (figures s)) 0 (core_count s) (λ k a b. new_order k)
      ∙ grouped_all (is_stroked s) (task_count s) (core_count s) (drop 8 s) (is_grouped s) g h.order

  new_from : (j : ℕ) → j < task_count s → at (grouping (figures (version1 s))) j ≡ number_at (drop 8 s) j
  new_from j b =
      let z : 0 + j ≡ j = omega arith in
      ap (λ (l : List ℕ). at l j) new_grouping ∙ map_number (number_at (drop 8 s)) 0 (task_count s) j b ∙ ap (number_at (drop 8 s)) z

  new_count : (k : ℕ) → k < core_count s → length (order_on (figures (version1 s)) k) ≡ count_at (drop (10 * task_count s) (drop 8 s)) k
  new_count k b =
      ap length (new_order k ∙ grouped_order (is_stroked s) (task_count s) (core_count s) (drop 8 s) (is_grouped s) g h.order k b)
      ∙ length-map (numbers _ _) (number_at (drop 8 s)) ∙ numbers_length _ _

  pub from_grouped : version2 (version1 s) ≡ s
  from_grouped =
      trip
      ∙ laid_ext _ _ s (sym (eqb-true _ _ g)) (λ j b. ap (layout1 s).from (new_from j b) ∙ own s g h.order j b) new_from new_count
      ∙ laid_own s h.frame
    where
      there : (j : ℕ) → j < task_count s → (layout2 (version1 s)).from j < task_count s
      there j b = subst (λ n. (layout2 (version1 s)).from j < n) (version1_counts s).0 (grouping_below (version1 s) (version1_ungrouped s) new.fitting.tasks.core j (subst (λ n. j < n) (sym (version1_counts s).0) b))

      trip : version2 (version1 s) ≡ laid_out (record { version = 2; from = λ i. (layout1 s).from ((layout2 (version1 s)).from i); byte4 = (layout2 (version1 s)).byte4; count = (layout2 (version1 s)).count }) s
      trip = version2_of (version1 s) ∙ ap (laid_out (layout2 (version1 s))) (version1_of s) ∙ laid_twice (layout1 s) (layout2 (version1 s)) s there
