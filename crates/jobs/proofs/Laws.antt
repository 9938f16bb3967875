-- What a job list is that breaks no rule.
-- Assumes nothing.
use Prim.Native.Nat.{ℕ, ◌≤◌, ◌<◌, zero-le}
use mathlib.Core.Path.{◌≡◌, sym, ◌∙◌}
use mathlib.Core.Logic.{◌⊎◌, inl, inr}
use mathlib.Core.Bool.{Bool, not, ◌||◌}
use Rattle.std.specs.Prelude.{Option, None, Some}
use Rattle.std.specs.List as std
use mathlib.Core.List.{List}
use native.Mathlib.Nat.{zero-add}
use borrow.Author.Tests.{ltb-false, lt-ltb, le-ltb, eqb-true, eq-eqb, ne_eqb, not-false}
use lib.Dec.{ltb, eqb}
use Rattle.sheet.specs.Ranges.{bad_period, bad_budget}
use Rattle.sheet.specs.Table.{scan, whole}
use Rattle.sheet.proofs.Ranges.{neither, in_range_lem}
use Rattle.sheet.proofs.Scans.{scan_clear, whole_clear}
use Rattle.fit.specs.Lists.{numbers, find}
use Rattle.fit.proofs.Finds.{find_none}
use Rattle.fit.proofs.Words.{find_range}
use Rattle.jobs.specs.Jobs.{job_count, job_period, job_budget, list_rows, Listed}

-- the rules of the whole list, broken and kept
pub uneven : (m : ℕ) → (m ≡ 0 → ⊥) → Some 0 ≡ whole (not (eqb m 0))
unfolding whole
uneven m h = rw (ne_eqb m 0 h)

pub even : (m : ℕ) → m ≡ 0 → None ≡ whole (not (eqb m 0))
unfolding whole
even m h = rw (eq-eqb m 0 h)

pub over_count : (n limit : ℕ) → (64 < n) ⊎ ((n ≤ 64) × (8 < limit)) → Some 0 ≡ whole (ltb 64 n || ltb 8 limit)
unfolding whole
over_count n limit (inl h) = rw (lt-ltb 64 n h)
over_count n limit (inr h) = rw (le-ltb 64 n h.0, lt-ltb 8 limit h.1)

pub within_count : (n limit : ℕ) → n ≤ 64 → limit ≤ 8 → None ≡ whole (ltb 64 n || ltb 8 limit)
unfolding whole
within_count n limit a b = rw (le-ltb 64 n a, le-ltb 8 limit b)

-- the first entry that breaks a rule, in std's words
pub entry_at : (q : ℕ → Bool) (n m i x : ℕ) (r : Option ℕ) → r ≡ std.find q (std.range_with_len 0 n) → r ≡ Some i → n ≡ m → x ≡ i → Some x ≡ find q (numbers 0 m)
entry_at q n m i x r e h z p = rw (p, ← z, ← (find_range q 0 n)) (sym h ∙ e)

pub entry_none : (q : ℕ → Bool) (n m : ℕ) (r : Option ℕ) → r ≡ std.find q (std.range_with_len 0 n) → r ≡ None → n ≡ m → None ≡ find q (numbers 0 m)
entry_none q n m r e h z = rw (← z, ← (find_range q 0 n)) (sym h ∙ e)

-- a list that passes the rules
pub listed : (limit : ℕ) (l : List ℕ) → None ≡ scan (list_rows limit l) → Listed limit l
unfolding list_rows bad_period bad_budget
listed limit l e =
    let a = scan_clear 5 _ _ e in
    let b = scan_clear 4 _ _ a.1 in
    let c = scan_clear 7 _ _ b.1 in
    let d = scan_clear 8 _ _ c.1 in
    let n = neither (ltb 64 (job_count l)) (ltb 8 limit) (whole_clear _ b.0) in
    record {
      even = eqb-true _ _ (not-false _ (whole_clear _ a.0));
      count = ltb-false _ _ n.0;
      limit_max = ltb-false _ _ n.1;
      period = λ i h. in_range_lem 60000 _ (find_none (bad_period (job_period l)) 0 (job_count l) c.0 i zero-le (rw zero-add h));
      budget = λ i h. in_range_lem (job_period l i) _ (find_none (bad_budget (job_period l) (job_budget l)) 0 (job_count l) d.0 i zero-le (rw zero-add h));
    }
