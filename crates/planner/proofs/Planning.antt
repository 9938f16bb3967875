-- The planner's answers as the code gives them: a refusal before the walk, a task without a core, and a sheet.
-- Assumes nothing.
use Prim.Native.Nat.{ℕ, ◌/◌, ◌≤◌, ◌<◌, min}
use mathlib.Core.Path.{◌≡◌, refl, sym, ap, ◌∙◌}
use mathlib.Core.Bool.{Bool, true, false, cond, not}
use Rattle.std.specs.Prelude.{None, Some, Result, Ok, Err}
use Rattle.std.specs.Result.{IsErrAnd}
use mathlib.Core.List.{List}
use native.Mathlib.Omega.{arith}
use borrow.Author.Tests.{ltb-false, leb-false, eqb-true, not-false}
use lib.ListN.{length, take, drop}
use lib.Seq.{take_at}
use lib.Dec.{leb, eqb}
use Rattle.sheet.specs.declared.Refusal.TheVariants.{NoFit}
use Rattle.sheet.specs.declared.Rejection.{Rejection}
use Rattle.sheet.specs.Refusals.{number_of}
use Rattle.sheet.specs.Table.{scan, refused_by}
use Rattle.sheet.proofs.Scans.{scan_first, scan_second, scan_clears, scan_clear, scan_hit, scan_skip, scan_none, whole_clear}
use Rattle.fit.specs.declared.By.{By}
use Rattle.fit.specs.declared.By.TheVariants.{Period, Ring}
use Rattle.fit.specs.Lists.{over}
use Rattle.fit.proofs.Lists.{numbers_length}
use Rattle.fit.specs.Ring.{key_of, order_by}
use Rattle.fit.proofs.Priority.{order_length}
use Rattle.fit.proofs.Rings.{all_tasks}
use Rattle.jobs.specs.Jobs.{job_count, job_period, job_budget, list_rows, Listed}
use Rattle.jobs.proofs.Laws.{listed}
use Rattle.checker.specs.Verdict.{verdict, accepted}
use Rattle.planner.specs.declared.Assignment.{Assignment}
use Rattle.planner.specs.FirstFit.{Fit, rotate, placed, unplaced}
use Rattle.planner.specs.Sheet.{sheet_of}
use Rattle.planner.specs.Plan.{fit_of, bad_start, no_fit, call_rows, plan_rows, sheet_for, cores_for, written, refused, unless, plan_outcome, laid_over, plan_output}
use Rattle.planner.specs.Steps.{walk_in, Assigned, fitted}
use Rattle.planner.proofs.Settling.{fit_settled}
use Rattle.planner.proofs.Accepting.{sheet_accepted}

-- all tasks, in order
pub all_listed : (by : By) (l o : List ℕ) (n : ℕ) → n ≡ job_count l → job_count l ≤ 64 → o ≡ order_by by (job_period l) (min n 64) → o ≡ order_by by (job_period l) (job_count l)
all_listed by l o n e few h =
    let all : min n 64 ≡ job_count l = omega arith in
    rw all at h

pub all_sorted : (by : By) (p : ℕ → ℕ) (n : ℕ) → length (order_by by p n) ≡ n
unfolding order_by
all_sorted by p n = order_length (key_of by p) (λ i. 0) 0 n ∙ rw (all_tasks n) (numbers_length 0 n)

-- all tasks are as many as the list has, in either order
pub sorted_long : (by : By) (l o : List ℕ) (n : ℕ) → n ≡ job_count l → job_count l ≤ 64 → o ≡ order_by by (job_period l) (min n 64) → length o ≡ job_count l
sorted_long by l o n e few h = ap length (all_listed by l o n e few h) ∙ all_sorted by (job_period l) (job_count l)

-- the ring of a list, walked from a start
pub ring_walked : (l ring : List ℕ) (n : ℕ) → n ≡ job_count l → job_count l ≤ 64 → ring ≡ order_by Ring (job_period l) (min n 64) → (limit start : ℕ) (turned : List ℕ) → turned ≡ rotate start ring → walk_in l limit turned ≡ fit_of l limit start
unfolding fit_of
ring_walked l ring n e few h limit start turned t = rw (t, all_listed Ring l ring n e few h)

-- what a `?` hands on
pub err_is : {A : Type 0} (g : Result A (Rejection ℕ)) (r : Rejection ℕ) → IsErrAnd g (λ e. e ≡ r) → g ≡ Err r
err_is (Ok v) r i = absurd i
err_is (Err e) r i = ap Err i

-- what is not refused before the walk
module _ (l : List ℕ) (limit start : ℕ) (out : List ℕ) (clear : None ≡ scan (call_rows l limit start (length out))) where
  list_clear : Listed limit l
  unfolding call_rows
  list_clear = listed limit l (scan_clears (list_rows limit l) _ clear).0

  start_clear : bad_start (job_count l) start ≡ false
  unfolding call_rows
  start_clear = whole_clear _ (scan_clear 22 _ _ (scan_clears (list_rows limit l) _ clear).1).0

  pub room_enough : 712 ≤ length out
  unfolding call_rows
  room_enough = ltb-false _ _ (whole_clear _ (scan_clear 16 _ _ (scan_clear 22 _ _ (scan_clears (list_rows limit l) _ clear).1).1).0)

  pub count_few : job_count l ≤ 64
  count_few = list_clear.count

  pub count_fits : length l / 4 < 256
  unfolding job_count
  count_fits = omega (arith, count_few)

  pub limit_few : limit ≤ 8
  limit_few = list_clear.limit_max

  pub start_inside : start ≤ job_count l
  unfolding bad_start
  start_inside = by (eqb (job_count l) 0) start_clear
    where
      by : (b : Bool) → cond b (not (eqb start 0)) (leb (job_count l) start) ≡ false → start ≤ job_count l
      by true q = omega (arith, eqb-true start 0 (not-false _ q))
      by false q = omega (arith, leb-false (job_count l) start q)

  pub in_priority : (o : List ℕ) → o ≡ order_by Period (job_period l) (min (length l / 4) 64) → o ≡ order_by Period (job_period l) (job_count l)
  unfolding job_count
  in_priority o h = all_listed Period l o (length l / 4) refl count_few h

  -- a task finds no core
  module _ (i : ℕ) (t : fit_of l limit start ≡ unplaced i) where
    unfit : Some (record { number = 15; place = i }) ≡ scan (plan_rows l limit start (length out))
    unfolding plan_rows no_fit
    unfit = scan_second (call_rows l limit start (length out)) _ _ clear (scan_hit 15 i _ _ (rw t))

    pub unfit_outcome : refused 15 i ≡ plan_outcome l limit start (length out)
    unfolding plan_outcome unless
    unfit_outcome = rw (← unfit)

    pub unfit_output : out ≡ plan_output l limit start out
    unfolding plan_output laid_over
    unfit_output = rw (← unfit)

  -- every task has one
  module _ (a : Assignment) (t : fit_of l limit start ≡ placed a) where
    pub assigned_all : Assigned l a
    assigned_all = (fit_settled l limit start a list_clear t).1

    fit : None ≡ scan (plan_rows l limit start (length out))
    unfolding plan_rows no_fit
    fit = scan_second (call_rows l limit start (length out)) _ _ clear (scan_skip 15 _ _ _ (rw t) scan_none)

    module _ (size : ℕ) (new : List ℕ) (s : size ≡ length (sheet_of (job_period l) (job_budget l) (job_count l) a)) (z : new ≡ over (sheet_of (job_period l) (job_budget l) (job_count l) a) out) where
      pub fit_outcome : written (job_count l) a.cores size ≡ plan_outcome l limit start (length out)
      unfolding plan_outcome unless cores_for sheet_for
      fit_outcome = rw (← fit, t, s)

      pub fit_output : new ≡ plan_output l limit start out
      unfolding plan_output laid_over sheet_for
      fit_output = rw (← fit, t) z

      pub fit_accepted : verdict (take size new) ≡ accepted (job_count l) a.cores
      unfolding over
      fit_accepted =
          let (settled, there) = fit_settled l limit start a list_clear t in
          rw (z, take_at (sheet_of (job_period l) (job_budget l) (job_count l) a) (drop (length (sheet_of (job_period l) (job_budget l) (job_count l) a)) out) size (sym s))
          (sheet_accepted (job_period l) (job_budget l) (job_count l) limit a list_clear.limit_max list_clear.count list_clear.period list_clear.budget settled there.core)

-- a refusal before the walk
module _ (l : List ℕ) (limit start : ℕ) (out : List ℕ) (r : Rejection ℕ) (e : Some (refused_by r) ≡ scan (call_rows l limit start (length out))) where
  stops : Some (refused_by r) ≡ scan (plan_rows l limit start (length out))
  unfolding plan_rows
  stops = scan_first (call_rows l limit start (length out)) _ _ e

  pub refused_outcome : refused (number_of r.word) r.place ≡ plan_outcome l limit start (length out)
  unfolding plan_outcome unless
  refused_outcome = rw (← stops)

  pub refused_output : out ≡ plan_output l limit start out
  unfolding plan_output laid_over
  refused_output = rw (← stops)

-- the walk's answer, taken apart
pub fit_placed : (f : Fit) (a : Assignment) → Ok a ≡ fitted f → f ≡ placed a
fit_placed (placed b) a e = cc
fit_placed (unplaced i) a e = cc

pub fit_unplaced : (f : Fit) (r : Rejection ℕ) → Err r ≡ fitted f → (f ≡ unplaced r.place) × (r.word ≡ NoFit)
fit_unplaced (placed b) r e = cc
fit_unplaced (unplaced i) r e = let same : r ≡ record { word = NoFit; place = i } = cc in rw same (refl, refl)
