-- A sheet and the sheet of the other version have the same figures by task number.
-- Assumes nothing.
use Prim.Native.Nat.{ℕ, ◌*◌, ◌<◌}
use mathlib.Core.Path.{◌≡◌, refl, sym, ap, ap₂, subst, subst₂, ◌∙◌}
use mathlib.Core.Bool.{Bool, true, false}
use borrow.Author.Tests.{eqb-true}
use mathlib.Core.List.{List}
use native.Mathlib.Omega.{arith}
use lib.ListN.{length, drop}
use Rattle.sheet.specs.Records.{Figures, number_at, count_at, task_count, core_count}
use Rattle.sheet.specs.Views.{version, is_grouped, is_stroked, core_by_counts, position_of, position_of_number, positioned_in, renumbered, by_position, figures}
use Rattle.fit.specs.Lists.{numbers, at, joined}
use Rattle.fit.specs.Priority.{Higher, order}
use Rattle.fit.specs.Cores.{order_on}
use Rattle.views.specs.Order.{EachOnce, InOrder}
use Rattle.views.specs.Renamed.{Agree}
use Rattle.views.proofs.Counts.{first_ext, core_ext}
use Rattle.views.proofs.ByNumber.{position_below, number_position}
use Rattle.views.proofs.Grouping.{spot_member, grouping_order}
use Rattle.checker.specs.Accepted.{OrderKept}
use Rattle.checker.proofs.Unstroked.{unstroked}
use Rattle.mover.specs.Moved.{Layout, laid_out, grouping, layout1, layout2, version1, version2}
use Rattle.mover.proofs.Fields.{laid_version, laid_tasks, laid_cores, laid_period, laid_budget, laid_byte4, laid_factor, laid_pivot, laid_count, laid_divisor}

-- from version 2 to version 1
module _ (s : List ℕ) where
  pub version1_ungrouped : is_grouped (version1 s) ≡ false
  unfolding version1
  version1_ungrouped = rw (laid_version (layout1 s) s)

  pub version1_unstroked : is_stroked (version1 s) ≡ false
  unfolding version1
  version1_unstroked = rw (laid_version (layout1 s) s)

  -- its records by position have the figures of the sheet by number
  pub version1_agree : is_stroked s ≡ false → Agree (figures s) (by_position (version1 s))
  unfolding version1
  version1_agree u = record {
    tasks = laid_tasks (layout1 s) s;
    cores = laid_cores (layout1 s) s;
    period = λ i h. laid_period (layout1 s) s i h;
    budget = λ i h. laid_budget (layout1 s) s i h;
    core = λ i h. rw (laid_version (layout1 s) s) (laid_byte4 (layout1 s) s i h);
    stroke = λ i h. unstroked (laid_out (layout1 s) s) (rw (laid_version (layout1 s) s)) i ∙ sym (unstroked s u _);
    factor = λ i h. laid_factor (layout1 s) s i h;
    pivot = λ k h. rw (laid_tasks (layout1 s) s) (laid_pivot (layout1 s) s k h);
    divisor = λ k h. rw (laid_tasks (layout1 s) s) (laid_divisor (layout1 s) s k h);
  }

-- tasks in version 2's order, with figures that agree
module _ (p num core count p' num' core' count' : ℕ → ℕ) (n c : ℕ) (ep : (j : ℕ) → j < n → p' j ≡ p j) (en : (j : ℕ) → j < n → num' j ≡ num j) (eo : (j : ℕ) → j < n → core' j ≡ core j) (ec : (k : ℕ) → k < c → count' k ≡ count k) where
  once_ext : EachOnce num n → EachOnce num' n
  once_ext h = record {
    below = λ j b. rw (en j b) (h.below j b);
    found = λ i b. let (j, a, e) = h.found i b in (j, a, en j a ∙ e);
    once = λ i j a b e. h.once i j a b (sym (en i a) ∙ e ∙ en j b);
  }

  in_order_ext : InOrder p num core count n c → InOrder p' num' core' count' n c
  in_order_ext h = record {
    numbers = once_ext h.numbers;
    counts = first_ext count' count c ec c (omega arith) ∙ h.counts;
    rising = λ i j a b e. rise i j (omega arith) b (h.rising i j a b (sym (eo i (omega arith)) ∙ e ∙ eo j b));
  }
    where
      rise : (i j : ℕ) → i < n → j < n → Higher (p i) (num i) (p j) (num j) → Higher (p' i) (num' i) (p' j) (num' j)
      rise i j a b t = rw (ep i a, ep j b, en i a, en j b) t

order_at : (a b stroked : Bool) (n m c d : ℕ) (records : List ℕ) → a ≡ b → n ≡ m → c ≡ d → OrderKept a stroked n c records → OrderKept b stroked m d records
order_at a b stroked n m c d records x y z h = rw (← x, ← y, ← z) h

view_at : (a b stroked : Bool) (n m c d : ℕ) (records : List ℕ) → a ≡ b → n ≡ m → c ≡ d → renumbered (position_of_number a n records) (positioned_in a stroked n c records) ≡ renumbered (position_of_number b m records) (positioned_in b stroked m d records)
view_at a b stroked n m c d records x y z = rw (x, y, z)

-- from version 1 to version 2
pub version2_grouped : (s : List ℕ) → is_grouped (version2 s) ≡ true
unfolding version2
version2_grouped s = rw (laid_version (layout2 s) s)

pub version2_unstroked : (s : List ℕ) → is_stroked (version2 s) ≡ false
unfolding version2
version2_unstroked s = rw (laid_version (layout2 s) s)

pub grouped_unstroked : (s : List ℕ) → is_grouped s ≡ true → is_stroked s ≡ false
grouped_unstroked s g =
    let e : version s ≡ 2 = eqb-true (version s) 2 g in
    rw e

pub ungrouped_figures : (s : List ℕ) → is_grouped s ≡ false → figures s ≡ by_position s
ungrouped_figures s e = rw e

module _ (s : List ℕ) (ungrouped : is_grouped s ≡ false) (placed : (i : ℕ) → i < task_count s → (by_position s).core i < core_count s) where
  abbrev f : Figures
  f = by_position s

  abbrev tasks : List ℕ
  tasks = joined (λ k. order f.period f.core k (task_count s)) (numbers 0 (core_count s))

  abbrev count : ℕ → ℕ
  count k = length (order f.period f.core k (task_count s))

  -- the layout, by the figures by position
  abbrev layout : Layout
  layout = record { version = 2; from = at tasks; byte4 = at tasks; count = count }

  same_layout : layout2 s ≡ layout
  unfolding grouping order_on
  same_layout = rw (ungrouped_figures s ungrouped)

  unfoldable m : List ℕ
  m = laid_out layout s

  version2_laid : version2 s ≡ m
  unfolding version2 m
  version2_laid = ap (λ (y : Layout). laid_out y s) same_layout

  m_grouped : is_grouped m ≡ true
  unfolding m
  m_grouped = rw (laid_version layout s)

  -- its figures by position, which are by the counts
  abbrev g : Figures
  g = positioned_in true (is_stroked m) (task_count s) (core_count s) (drop 8 m)

  m_view : figures m ≡ renumbered (position_of (number_at (drop 8 m)) (task_count s)) g
  unfolding m
  m_view = view_at (is_grouped m) true (is_stroked m) _ _ _ _ (drop 8 m) m_grouped (laid_tasks layout s) (laid_cores layout s)

  m_core : (j : ℕ) → g.core j ≡ core_by_counts count (core_count s) j
  unfolding m
  m_core j = core_ext _ count (core_count s) (λ k h. laid_count layout s k h) (core_count s) j (omega arith)

  m_order : InOrder g.period (number_at (drop 8 m)) g.core (count_at (drop (10 * task_count s) (drop 8 m))) (task_count s) (core_count s)
  unfolding m
  m_order = in_order_ext _ _ _ _ _ _ _ _ (task_count s) (core_count s) (λ j h. laid_period layout s j h) (λ j h. laid_byte4 layout s j h) (λ j h. m_core j) (λ k h. laid_count layout s k h) (grouping_order f.period f.core (task_count s) (core_count s) placed)

  m_counts : (task_count m ≡ task_count s) × (core_count m ≡ core_count s)
  unfolding m
  m_counts = (laid_tasks layout s, laid_cores layout s)

  kept : OrderKept true (is_stroked m) (task_count s) (core_count s) (drop 8 m)
  unfolding OrderKept
  kept e = m_order

  m_kept : OrderKept (is_grouped m) (is_stroked m) (task_count m) (core_count m) (drop 8 m)
  m_kept = order_at true (is_grouped m) (is_stroked m) _ _ _ _ (drop 8 m) (sym m_grouped) (sym m_counts.0) (sym m_counts.1) kept

  pub version2_order : OrderKept (is_grouped (version2 s)) (is_stroked (version2 s)) (task_count (version2 s)) (core_count (version2 s)) (drop 8 (version2 s))
  version2_order = rw version2_laid m_kept

  -- the number at a position, and the position of a number
  m_position : (i : ℕ) → i < task_count s → (position_of (number_at (drop 8 m)) (task_count s) i < task_count s) × (at tasks (position_of (number_at (drop 8 m)) (task_count s) i) ≡ i)
  unfolding m
  m_position i h =
      let b = position_below (number_at (drop 8 m)) (task_count s) m_order.numbers i h in
      (b, sym (laid_byte4 layout s _ b) ∙ number_position (number_at (drop 8 m)) (task_count s) m_order.numbers i h)

  abbrev position : ℕ → ℕ
  position = position_of (number_at (drop 8 m)) (task_count s)

  m_agree : is_stroked s ≡ false → Agree f (renumbered position g)
  unfolding m
  m_agree u = record {
    tasks = refl;
    cores = refl;
    period = λ i h. let (b, e) = m_position i h in laid_period layout s _ b ∙ ap f.period e;
    budget = λ i h. let (b, e) = m_position i h in laid_budget layout s _ b ∙ ap f.budget e;
    core = λ i h. let (b, e) = m_position i h in m_core _ ∙ sym (spot_member f.period f.core (task_count s) (core_count s) placed _ b).1 ∙ ap f.core e;
    stroke = λ i h. unstroked (laid_out layout s) (rw (laid_version layout s)) _ ∙ sym (unstroked s u i);
    factor = λ i h. let (b, e) = m_position i h in laid_factor layout s _ b ∙ ap f.factor e;
    pivot = λ k h. laid_pivot layout s k h;
    divisor = λ k h. laid_divisor layout s k h;
  }

  pub version2_agree : is_stroked s ≡ false → Agree (figures s) (figures (version2 s))
  version2_agree u = subst₂ Agree (sym (ungrouped_figures s ungrouped)) (sym (ap figures version2_laid ∙ m_view)) (m_agree u)

  -- every position of the new sheet comes from one of the old
  pub grouping_below : (i : ℕ) → i < task_count s → (layout2 s).from i < task_count s
  grouping_below i h = subst (λ (y : Layout). y.from i < task_count s) (sym same_layout) (spot_member f.period f.core (task_count s) (core_count s) placed i h).0

  -- and each task number comes from its position
  m_from : (i : ℕ) → i < task_count s → at tasks (position_of_number (is_grouped m) (task_count m) (drop 8 m) i) ≡ i
  m_from i h = ap (at tasks) (ap₂ (λ b n. position_of_number b n (drop 8 m) i) m_grouped m_counts.0) ∙ (m_position i h).1

  pub version2_position : (i : ℕ) → i < task_count s → (layout2 s).from (position_of_number (is_grouped (version2 s)) (task_count (version2 s)) (drop 8 (version2 s)) i) ≡ i
  version2_position i h = ap₂ (λ (y : Layout) (x : List ℕ). y.from (position_of_number (is_grouped x) (task_count x) (drop 8 x) i)) same_layout version2_laid ∙ m_from i h
