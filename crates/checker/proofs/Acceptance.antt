-- The verdict is "accepted" exactly when the sheet is acceptable; and what follows for each core.
-- Assumes nothing.
use Prim.Native.Nat.{ℕ, ◌*◌, ◌<◌, zero-le}
use mathlib.Core.Path.{◌≡◌, refl, sym, ◌∙◌}
use mathlib.Core.Logic.{◌↔◌, ◌⊎◌, inl, inr}
use mathlib.Core.Bool.{Bool, true, false, ◌||◌, true≢false}
use Rattle.std.specs.Prelude.{Option, None, Some}
use Rattle.sheet.proofs.Options.{some-ne-none}
use mathlib.Core.List.{List, [], ◌∷◌, ◌++◌}
use native.Mathlib.Omega.{arith}
use native.Mathlib.Nat.{zero-add}
use borrow.Author.Tests.{ltb-false, le-ltb, leb-false, lt-leb, eqb-true, eqb-false, eq-eqb, not-false}
use lib.ListN.{length, get_or, drop}
use lib.Dec.{ltb, eqb}
use Rattle.sheet.specs.Table.{Row, ◌at◌, scan, whole, core, Refused}
use Rattle.sheet.specs.Ranges.{out_of, bad_period, bad_budget, bad_stroke}
use Rattle.sheet.specs.Records.{Figures, task_count, core_count}
use Rattle.sheet.specs.Views.{version, is_grouped, is_stroked, positioned_in, by_position}
use Rattle.sheet.proofs.Ranges.{neither, in_range_lem, range_in, both}
use Rattle.sheet.proofs.Scans.{scan_clear, scan_clears, scan_skip, scan_second, scan_none, whole_clear, core_clear}
use Rattle.fit.specs.Lists.{numbers, find, Each}
use Rattle.fit.specs.Priority.{is_on}
use Rattle.fit.specs.Fits.{stretched}
use Rattle.fit.proofs.Finds.{find_none, none_find, find_some_lem, find_some_none, none_find_some}
use Rattle.fit.proofs.Firsts.{none_exactly}
use Rattle.fit.proofs.Lists.{each_of}
use Rattle.fit.proofs.Levels.{chain_multiples, multiples_chain}
use Rattle.fit.proofs.Blocking.{levels_fit_exactly}
use Rattle.views.proofs.Grouped.{in_order, order_in}
use Rattle.checker.specs.Tests.{is_marked, bad_version, is_set, bad_order, bad_core, is_none, bare, bad_factor, bad_pivot, stretched_at, chain_break_on, overloaded_on}
use Rattle.checker.specs.Rules.{offset, frame_rows, spare_rows, task_rows, core_rows, fit_rows, record_rows, part_rows, rules}
use Rattle.checker.proofs.Offsets.{task_all, task_each, core_all, core_each}
use Rattle.checker.specs.Verdict.{accepted, outcome, verdict}
use Rattle.checker.specs.Accepted.{LoadAtMostOne, Framed, SparesZero, TasksInRange, CoresInRange, CoresFit, Fitting, OrderKept, Acceptable}

-- a table is clear exactly when each of its rows is
row_clear : (k : ℕ) (o : Option ℕ) (rows : List Row) → o ≡ None → scan rows ≡ None → scan (k at o ∷ rows) ≡ None
row_clear k o rows e h = sym (scan_skip k o rows None (sym e) (sym h))

end_clear : scan [] ≡ None
end_clear = sym scan_none

both_clear : (a b : List Row) → scan a ≡ None → scan b ≡ None → scan (a ++ b) ≡ None
both_clear a b e h = sym (scan_second a b None (sym e) (sym h))

whole_none : (b : Bool) → b ≡ false → whole b ≡ None
unfolding whole
whole_none b e = rw e

core_none : (o : Option ℕ) → o ≡ None → core o ≡ None
unfolding core
core_none o e = rw e

offset_none : (o : Option ℕ) → o ≡ None → offset o ≡ None
unfolding offset
offset_none o e = rw e

offset_clear : (o : Option ℕ) → offset o ≡ None → o ≡ None
unfolding offset
offset_clear None e = refl
offset_clear (Some a) e = absurd (some-ne-none _ e)

-- a rule at tasks or cores is kept exactly when its test is false at each
module _ (q : ℕ → Bool) (n : ℕ) where
  pub kept : find q (numbers 0 n) ≡ None → (i : ℕ) → i < n → q i ≡ false
  kept e i h = find_none q 0 n e i zero-le (rw zero-add h)

  pub keeps : ((i : ℕ) → i < n → q i ≡ false) → find q (numbers 0 n) ≡ None
  keeps f = none_find q 0 n (λ i a b. f i (rw zero-add at b))

-- rules 7 to 9, 23 and 25
pub tasks_kept : (out : Bool) (f : Figures) → None ≡ scan (task_rows out f) → (out ≡ false) × TasksInRange f
unfolding task_rows bad_period bad_budget bad_stroke bad_core
tasks_kept out f e =
    let a = scan_clear 7 _ _ e in
    let b = scan_clear 8 _ _ a.1 in
    let g = scan_clear 25 _ _ b.1 in
    let d = scan_clear 23 _ _ g.1 in
    let c = scan_clear 9 _ _ d.1 in (
      whole_clear _ d.0,
      record {
        period = λ i h. in_range_lem 60000 _ (kept (bad_period f.period) _ a.0 i h);
        budget = λ i h. in_range_lem (f.period i) _ (kept (bad_budget f.period f.budget) _ b.0 i h);
        stroke = λ i h. in_range_lem (f.budget i) _ (kept (bad_stroke f.budget f.stroke) _ g.0 i h);
        core = λ i h. leb-false _ _ (kept (bad_core f.cores f.core) _ c.0 i h);
      },
    )

tasks_keep : (out : Bool) (f : Figures) → out ≡ false → TasksInRange f → scan (task_rows out f) ≡ None
unfolding task_rows bad_period bad_budget bad_stroke bad_core
tasks_keep out f e t =
    row_clear 7 _ _ (keeps (bad_period f.period) _ (λ i h. range_in 60000 _ (t.period i h).0 (t.period i h).1))
    (row_clear 8 _ _ (keeps (bad_budget f.period f.budget) _ (λ i h. range_in (f.period i) _ (t.budget i h).0 (t.budget i h).1))
    (row_clear 25 _ _ (keeps (bad_stroke f.budget f.stroke) _ (λ i h. range_in (f.budget i) _ (t.stroke i h).0 (t.stroke i h).1))
    (row_clear 23 _ _ (whole_none _ e)
    (row_clear 9 _ _ (keeps (bad_core f.cores f.core) _ (λ i h. lt-leb _ _ (t.core i h))) end_clear))))

-- rule 10: a core has a task exactly when it is not bare
not_bare : (n : ℕ) (on : ℕ → ℕ) (k : ℕ) → bare n on k ≡ false → (i : ℕ) × (i < n) × (on i ≡ k)
unfolding bare is_on is_none
not_bare n on k e = by (find (is_on on k) (numbers 0 n)) refl
  where
    by : (o : Option ℕ) → find (is_on on k) (numbers 0 n) ≡ o → (i : ℕ) × (i < n) × (on i ≡ k)
    by None t = absurd (true≢false (rw t at e))
    by (Some i) t =
        let w = find_some_lem (is_on on k) 0 n i t in
        (i, rw zero-add at w.0, eqb-true _ _ w.1)

has_task : (n : ℕ) (on : ℕ → ℕ) (k i : ℕ) → i < n → on i ≡ k → bare n on k ≡ false
unfolding bare is_none is_on
has_task n on k i h e = by (find (is_on on k) (numbers 0 n)) refl
  where
    by : (o : Option ℕ) → find (is_on on k) (numbers 0 n) ≡ o → is_none o ≡ false
    by None t = absurd (eqb-false _ _ (kept (is_on on k) n t i h) e)
    by (Some j) t = refl

-- rules 10 to 12
pub cores_kept : (f : Figures) → None ≡ scan (core_rows f) → CoresInRange f
unfolding core_rows bad_factor bad_pivot stretched_at stretched
cores_kept f e =
    let a = scan_clear 10 _ _ e in
    let b = scan_clear 11 _ _ a.1 in
    let c = scan_clear 11 _ _ b.1 in
    let d = scan_clear 12 _ _ c.1 in
    let ends : (k : ℕ) → k < f.cores → (out_of 60000 (f.pivot k) ≡ false) × (out_of 120000 (f.divisor k) ≡ false) = λ k h. neither _ (out_of 120000 (f.divisor k)) (kept (bad_pivot f.pivot f.divisor) _ (core_clear _ c.0) k h) in
    record {
      not_bare = λ k h. not_bare _ _ k (kept (bare f.tasks f.core) _ (core_clear _ a.0) k h);
      factor = λ i h. in_range_lem 120000 _ (kept (bad_factor f.factor) _ b.0 i h);
      pivot = λ k h. in_range_lem 60000 _ (ends k h).0;
      divisor = λ k h. in_range_lem 120000 _ (ends k h).1;
      accelerated = λ i h. ltb-false _ _ (kept (stretched_at f) _ d.0 i h);
    }

cores_keep : (f : Figures) → CoresInRange f → scan (core_rows f) ≡ None
unfolding core_rows bad_factor bad_pivot stretched_at stretched
cores_keep f t =
    row_clear 10 _ _ (core_none _ (keeps (bare f.tasks f.core) _ (λ k h. has_task _ _ k (t.not_bare k h).0 (t.not_bare k h).1 (t.not_bare k h).2)))
    (row_clear 11 _ _ (keeps (bad_factor f.factor) _ (λ i h. range_in 120000 _ (t.factor i h).0 (t.factor i h).1))
    (row_clear 11 _ _ (core_none _ (keeps (bad_pivot f.pivot f.divisor) _ (λ k h. rw (range_in 60000 _ (t.pivot k h).0 (t.pivot k h).1, range_in 120000 _ (t.divisor k h).0 (t.divisor k h).1))))
    (row_clear 12 _ _ (keeps (stretched_at f) _ (λ i h. le-ltb _ _ (t.accelerated i h))) end_clear)))

-- rules 13 and 14
fits_kept : (f : Figures) → None ≡ scan (fit_rows f) → CoresFit f
unfolding fit_rows chain_break_on overloaded_on LoadAtMostOne
fits_kept f e =
    let a = scan_clear 13 _ _ e in
    let b = scan_clear 14 _ _ a.1 in
    record {
      simply_periodic = λ k h. chain_multiples _ 1 _ (find_some_none (chain_break_on f) 0 f.cores a.0 k zero-le (rw zero-add h));
      load = λ k h. (levels_fit_exactly _ _ _ _ _ _).0 (kept (overloaded_on f) _ (core_clear _ b.0) k h);
    }

fits_keep : (f : Figures) → CoresFit f → scan (fit_rows f) ≡ None
unfolding fit_rows chain_break_on overloaded_on LoadAtMostOne
fits_keep f t =
    row_clear 13 _ _ (none_find_some (chain_break_on f) 0 f.cores (λ k a h. multiples_chain _ 1 _ (t.simply_periodic k (rw zero-add at h))))
    (row_clear 14 _ _ (core_none _ (keeps (overloaded_on f) _ (λ k h. (levels_fit_exactly _ _ _ _ _ _).1 (t.load k h)))) end_clear)

-- rule 6: a byte is zero exactly when it is not set
pub is_zero : (r : List ℕ) (x : ℕ) → is_set r x ≡ false → get_or r x 0 ≡ 0
unfolding is_set
is_zero r x e = eqb-true _ _ (not-false _ e)

pub not_set : (r : List ℕ) (x : ℕ) → get_or r x 0 ≡ 0 → is_set r x ≡ false
unfolding is_set
not_set r x e = rw e

-- nothing is found among spare bytes exactly when each is zero
spared : (r l : List ℕ) → find (is_set r) l ≡ None → Each (λ x. get_or r x 0 ≡ 0) l
spared r l e = each_of l (is_zero r) ((none_exactly (is_set r) l).0 e)

spares_none : (r l : List ℕ) → Each (λ x. get_or r x 0 ≡ 0) l → find (is_set r) l ≡ None
spares_none r l h = (none_exactly (is_set r) l).1 (each_of l (not_set r) h)

-- rule 3
versioned : (s : List ℕ) → bad_version s ≡ false → (version s ≡ 1) ⊎ ((version s ≡ 2) ⊎ (version s ≡ 3))
unfolding bad_version
versioned s e = by (eqb (version s) 1) (is_grouped s) refl refl (not-false _ e)
  where
    by : (a b : Bool) → eqb (version s) 1 ≡ a → is_grouped s ≡ b → (a || (b || is_stroked s)) ≡ true → (version s ≡ 1) ⊎ ((version s ≡ 2) ⊎ (version s ≡ 3))
    by true b t g h = inl (eqb-true _ _ t)
    by false true t g h = inr (inl (eqb-true _ _ g))
    by false false t g h = inr (inr (eqb-true _ _ h))

version_good : (s : List ℕ) → (version s ≡ 1) ⊎ ((version s ≡ 2) ⊎ (version s ≡ 3)) → bad_version s ≡ false
unfolding bad_version
version_good s (inl e) = rw e
version_good s (inr (inl e)) = rw e
version_good s (inr (inr e)) = rw e

-- rules 1 to 5
pub frame_kept : (s : List ℕ) → None ≡ scan (frame_rows s) → Framed s
unfolding frame_rows is_marked
frame_kept s e =
    let a = scan_clear 1 _ _ e in
    let b = scan_clear 2 _ _ a.1 in
    let c = scan_clear 3 _ _ b.1 in
    let d = scan_clear 4 _ _ c.1 in
    let g = scan_clear 5 _ _ d.1 in
    let m = both (eqb (get_or s 0 0) 0x54) _ (not-false _ (whole_clear _ b.0)) in
    let m' = both (eqb (get_or s 1 0) 0x53) (eqb (get_or s 2 0) 0x48) m.1 in
    let n = neither (ltb 64 (task_count s)) (ltb 8 (core_count s)) (whole_clear _ d.0) in
    record {
      mark = (eqb-true _ _ m.0, eqb-true _ _ m'.0, eqb-true _ _ m'.1);
      version = versioned s (whole_clear _ c.0);
      tasks = ltb-false _ _ n.0;
      cores = ltb-false _ _ n.1;
      size = eqb-true _ _ (not-false _ (whole_clear _ g.0));
    }

pub frame_keep : (s : List ℕ) → Framed s → scan (frame_rows s) ≡ None
unfolding frame_rows is_marked
frame_keep s t =
    row_clear 1 _ _ (whole_none _ (le-ltb (length s) 8 (omega (arith, t.size))))
    (row_clear 2 _ _ (whole_none _ (rw (t.mark.0, t.mark.1, t.mark.2)))
    (row_clear 3 _ _ (whole_none _ (version_good s t.version))
    (row_clear 4 _ _ (whole_none _ (rw (le-ltb 64 (task_count s) t.tasks, le-ltb 8 (core_count s) t.cores)))
    (row_clear 5 _ _ (whole_none _ (rw (eq-eqb _ _ t.size))) end_clear))))

-- the verdict and the table
clear_accepted : (s : List ℕ) → scan (rules s) ≡ None → verdict s ≡ accepted (task_count s) (core_count s)
unfolding verdict outcome
clear_accepted s e = rw e

accepted_clear : (s : List ℕ) (n c : ℕ) → verdict s ≡ accepted n c → (None ≡ scan (rules s)) × (n ≡ task_count s) × (c ≡ core_count s)
unfolding verdict outcome
accepted_clear s n c e = by (scan (rules s)) e
  where
    by : (o : Option Refused) → outcome o (task_count s) (core_count s) ≡ accepted n c → (None ≡ o) × (n ≡ task_count s) × (c ≡ core_count s)
    by None t = (refl, cc, cc)
    by (Some r) t = absurd (let z : ◌≡◌ {A = ℕ} 0 1 = cc in omega arith)

-- rule 23, as a row and as a proposition
pub order_kept : (grouped stroked : Bool) (n c : ℕ) (records : List ℕ) → bad_order grouped (positioned_in grouped stroked n c records) records ≡ false → OrderKept grouped stroked n c records
unfolding bad_order OrderKept
order_kept true stroked n c records e g = in_order _ _ _ n c e
order_kept false stroked n c records e g = absurd (true≢false (sym g))

order_keep : (grouped stroked : Bool) (n c : ℕ) (records : List ℕ) → OrderKept grouped stroked n c records → bad_order grouped (positioned_in grouped stroked n c records) records ≡ false
unfolding bad_order OrderKept
order_keep true stroked n c records h = order_in _ _ _ n c (h refl)
order_keep false stroked n c records h = refl

-- acceptance, from the table and back
from_table : (s : List ℕ) → None ≡ scan (rules s) → Acceptable s
unfolding rules spare_rows part_rows record_rows Each
from_table s e =
    let f : Figures = by_position s in
    let out : Bool = bad_order (is_grouped s) f (drop 8 s) in
    let a = scan_clears (frame_rows s) (spare_rows (is_grouped s) (is_stroked s) (task_count s) (core_count s) s (drop 8 s) ++ record_rows out f) e in
    let b = scan_clears (spare_rows (is_grouped s) (is_stroked s) (task_count s) (core_count s) s (drop 8 s)) (record_rows out f) a.1 in
    let d = scan_clears (task_rows out f) (core_rows f ++ fit_rows f) b.1 in
    let g = scan_clears (core_rows f) (fit_rows f) d.1 in
    let x = scan_clear 6 (find (is_set s) (7 ∷ [])) _ b.0 in
    let y = scan_clear 6 _ _ x.1 in
    let z = scan_clear 6 _ _ y.1 in
    let t = tasks_kept out f d.0 in
    record {
      frame = frame_kept s a.0;
      spares =
          record {
            header = (spared s (7 ∷ []) x.0).0;
            tasks = λ v i h. rw (zero-add (10 * i)) at (task_each (λ x. get_or (drop 8 s) x 0 ≡ 0) (is_stroked s) v 0 (task_count s) (spared (drop 8 s) _ (offset_clear _ y.0)) i h);
            cores = core_each (λ x. get_or (drop 8 s) x 0 ≡ 0) (is_grouped s) (10 * task_count s) (core_count s) (spared (drop 8 s) _ (offset_clear _ z.0));
          };
      order = order_kept (is_grouped s) (is_stroked s) (task_count s) (core_count s) (drop 8 s) t.0;
      fitting = record { tasks = t.1; cores = cores_kept f g.0; fits = fits_kept f g.1 };
    }

to_table : (s : List ℕ) → Acceptable s → scan (rules s) ≡ None
unfolding rules spare_rows part_rows record_rows Each
to_table s t =
    let f : Figures = by_position s in
    let out : Bool = bad_order (is_grouped s) f (drop 8 s) in
    let g : Fitting f = t.fitting in
    let b : SparesZero s = t.spares in
    both_clear (frame_rows s) _ (frame_keep s t.frame)
    (both_clear (spare_rows (is_grouped s) (is_stroked s) (task_count s) (core_count s) s (drop 8 s)) _
    (row_clear 6 _ _ (spares_none s (7 ∷ []) (b.header, tt))
    (row_clear 6 _ _ (offset_none _ (spares_none (drop 8 s) _ (task_all (λ x. get_or (drop 8 s) x 0 ≡ 0) (is_stroked s) 0 (task_count s) (λ v i h. rw (zero-add (10 * i)) (b.tasks v i h)))))
    (row_clear 6 _ _ (offset_none _ (spares_none (drop 8 s) _ (core_all (λ x. get_or (drop 8 s) x 0 ≡ 0) (is_grouped s) (10 * task_count s) (core_count s) b.cores))) end_clear)))
    (both_clear (task_rows out f) _ (tasks_keep out f (order_keep (is_grouped s) (is_stroked s) (task_count s) (core_count s) (drop 8 s) t.order) g.tasks)
    (both_clear (core_rows f) _ (cores_keep f g.cores) (fits_keep f g.fits))))

-- The verdict is "accepted with n and c" exactly when the sheet is acceptable and n and c are its counts.
pub accepted_exactly : (s : List ℕ) (n c : ℕ) → (verdict s ≡ accepted n c) ↔ (Acceptable s × (n ≡ task_count s) × (c ≡ core_count s))
accepted_exactly s n c = (
  (λ e. let w = accepted_clear s n c e in (from_table s w.0, w.1, w.2)),
  (λ t. clear_accepted s (to_table s t.0) ∙ rw (t.1, t.2)),
)
