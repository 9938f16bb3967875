-- Rules 7 to 14, 23 and 25 of the part from byte 8, as the code goes: it reads the cores from a column, and needs no sort where the records
-- are grouped.
-- Assumes nothing.
use Prim.Native.Nat.{ℕ, ◌+◌, ◌-◌, ◌*◌, ◌≤◌, ◌<◌, min}
use mathlib.Core.Path.{◌≡◌, sym, ap, subst, ◌∙◌}
use mathlib.Core.Bool.{Bool, true, false, ◌&&◌}
use mathlib.Core.List.{List, ◌++◌}
use Rattle.std.specs.Prelude.{None}
use native.Mathlib.Omega.{arith}
use lib.ListN.{length, take, drop, get_or, length-drop}
use lib.Seq.{get_or-drop}
use Rattle.fit.proofs.Lists.{part}
use Rattle.sheet.specs.Table.{scan}
use Rattle.sheet.specs.Records.{Figures, period_at, number_at, count_at, task_count, core_count, figures_with}
use Rattle.sheet.specs.Views.{is_grouped, is_stroked, core_by_counts, core_of_position, stroke_of_position}
use Rattle.sheet.proofs.Scans.{scan_clear, scan_clears, whole_clear}
use Rattle.fit.specs.Lists.{at}
use Rattle.fit.specs.Answers.{Column}
use Rattle.views.specs.Order.{misordered}
use Rattle.views.proofs.Counts.{core_rises}
use Rattle.views.proofs.Grouped.{grouped_sorted}
use Rattle.checker.specs.Tests.{bad_order}
use Rattle.checker.specs.Rules.{task_rows, core_rows, fit_rows, part_rows}
use Rattle.checker.specs.Accepted.{Framed, TasksInRange}
use Rattle.checker.specs.Steps.{early_rows, Sorted, InRange}
use Rattle.checker.proofs.Columns.{rows_same, order_same}
use Rattle.checker.proofs.Acceptance.{tasks_kept, cores_kept}
use Rattle.checker.proofs.Sound.{all_rows}

-- where rules 7 to 12, 23 and 25 are kept, rule 23 is, and rules 13 and 14 have what they need
clear_order : (b : Bool) (f : Figures) → None ≡ scan (early_rows b f) → b ≡ false
unfolding early_rows task_rows
clear_order b f e =
    let rows = (scan_clears (task_rows b f) (core_rows f) e).0 in
    let period = scan_clear 7 _ _ rows in
    let budget = scan_clear 8 _ _ period.1 in
    let stroke = scan_clear 25 _ _ budget.1 in
    whole_clear b (scan_clear 23 _ _ stroke.1).0

clear_range : (b : Bool) (f : Figures) → f.tasks ≤ 64 → f.cores < 256 → None ≡ scan (early_rows b f) → InRange f
unfolding early_rows
clear_range b f n c e =
    let rows = scan_clears (task_rows b f) (core_rows f) e in
    let tasks : TasksInRange f = (tasks_kept b f rows.0).1 in
    record { count = n; cores = λ i z. omega (arith, tasks.core i z); factors = λ i z. ((cores_kept f rows.1).factor i z).0 }

module _ (grouped stroked : Bool) (records cores on : List ℕ) (n c : ℕ) (after : cores ≡ drop (10 * n) records) (few : n ≤ 64) (small : c < 256) (column : Column (core_of_position grouped c records cores) (min n 64) on) (b : Bool) (order : b ≡ (grouped && misordered (period_at records) (number_at records) (at on) (count_at cores) n c)) where
  abbrev f : Figures
  f = figures_with (at on) (stroke_of_position stroked records) n c records cores

  same : (i : ℕ) → i < n → at on i ≡ core_of_position grouped c records cores i
  same i h = column.below i (omega arith)

  pub rows : early_rows b f ++ fit_rows f ≡ part_rows grouped stroked n c records
  unfolding part_rows bad_order
  rows =
      all_rows b f
      ∙ rows_same (at on) (core_of_position grouped c records cores) n c same (stroke_of_position stroked records) records cores b
      ∙ rw (order, order_same (at on) (core_of_position grouped c records cores) n c same (period_at records) (number_at records) (count_at cores), after)

  module _ (e : None ≡ scan (early_rows b f)) where
    -- where the records are grouped, the cores are by the counts and the order is kept
    counted : grouped ≡ true → (i : ℕ) → i < n → at on i ≡ core_by_counts (count_at cores) c i
    counted g i l = subst (λ x. at on i ≡ core_of_position x c records cores i) g (same i l)

    ordered : grouped ≡ true → misordered (period_at records) (number_at records) (core_by_counts (count_at cores) c) (count_at cores) n c ≡ false
    ordered g =
        let kept : b ≡ misordered (period_at records) (number_at records) (at on) (count_at cores) n c = rw g at order in
        sym (order_same (at on) (core_by_counts (count_at cores) c) n c (counted g) (period_at records) (number_at records) (count_at cores)) ∙ sym kept ∙ clear_order b f e

    -- what rules 13 and 14 need
    pub part_ready : InRange f × (grouped ≡ true → Sorted f)
    part_ready = (
      clear_range b f few small e,
      λ g. record {
        cores = λ i j l m. rw (counted g i (omega arith), counted g j m) (core_rises (count_at cores) c i j (omega arith));
        above = λ i j l m q. grouped_sorted (period_at records) (number_at records) (count_at cores) n c (ordered g) i j l m (sym (counted g i (omega arith)) ∙ q ∙ counted g j m);
      },
    )

-- the same of the code's parts of a sheet
module _ (s : List ℕ) (framed : Framed s) (bytes : (i : ℕ) → get_or s i 0 < 256) (grouped stroked : Bool) (n m c : ℕ) (eg : grouped ≡ is_grouped s) (es : stroked ≡ is_stroked s) (en : n ≡ task_count s) (em : m ≡ n) (ec : c ≡ core_count s) (on : List ℕ) where
  abbrev records : List ℕ
  records = take (length s - 8) (drop 8 s)

  abbrev cores : List ℕ
  cores = take (length records - 10 * m) (drop (10 * m) records)

  abbrev held : Figures
  held = figures_with (at on) (stroke_of_position stroked records) n c records cores

  after : cores ≡ drop (10 * n) records
  after = part records (10 * m) ∙ rw em

  few : n ≤ 64
  few = rw en framed.tasks

  small : c < 256
  small = omega (arith, framed.cores)

  byte : (i : ℕ) → get_or records i 0 < 256
  byte i = rw (part s 8, get_or-drop 8 s i 0) (bytes (8 + i))

  module _ (column : Column (core_of_position grouped c records cores) (min n 64) on) (b : Bool) (order : b ≡ (grouped && misordered (period_at records) (number_at records) (at on) (count_at cores) n c)) where
    pub held_rows : scan (early_rows b held ++ fit_rows held) ≡ scan (part_rows (is_grouped s) (is_stroked s) (task_count s) (core_count s) (drop 8 s))
    held_rows = ap scan (rows grouped stroked records cores on n c after few small column b order) ∙ rw (part s 8, en, ec, eg, es)

    pub held_ready : None ≡ scan (early_rows b held) → (10 * n ≤ length records) × InRange held × (grouped ≡ true → Sorted held)
    held_ready e =
        let ready : InRange held × (grouped ≡ true → Sorted held) = part_ready grouped stroked records cores on n c after few small column b order e in
        (rw (part s 8) (simp length-drop (omega (arith, framed.size))), ready.0, ready.1)
