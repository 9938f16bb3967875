-- What the bytes that a plan leaves in the buffer say of its job list.
-- Assumes nothing.
use Prim.Native.Nat.{ℕ, ◌<◌}
use mathlib.Core.Path.{◌≡◌, refl, sym, ap}
use Rattle.std.specs.Prelude.{Option, None, Some}
use mathlib.Core.List.{List}
use native.Mathlib.Omega.{arith}
use lib.ListN.{length, take, drop}
use lib.Seq.{take_at}
use Rattle.sheet.specs.Table.{Refused, scan}
use Rattle.sheet.specs.Records.{task_count}
use Rattle.sheet.specs.Views.{figures}
use Rattle.sheet.proofs.Scans.{scan_clear, scan_clears}
use Rattle.fit.specs.Lists.{over}
use Rattle.jobs.specs.Jobs.{job_count, job_period, job_budget, list_rows, Listed}
use Rattle.jobs.proofs.Laws.{listed}
use Rattle.planner.specs.declared.Assignment.{Assignment}
use Rattle.planner.specs.FirstFit.{Fit, placed, unplaced}
use Rattle.planner.specs.Sheet.{header, sheet_of}
use Rattle.planner.specs.Plan.{fit_of, no_fit, call_rows, plan_rows, sheet_for, written, unless, plan_outcome, laid_over, plan_output}
use Rattle.planner.proofs.Settling.{fit_settled}
use Rattle.planner.proofs.Accepting.{sheet_period, sheet_budget}

-- no task is without a core
all_placed : (f : Fit) → no_fit f ≡ None → (a : Assignment) × (f ≡ placed a)
unfolding no_fit
all_placed (placed a) h = (a, refl)
all_placed (unplaced i) h = let never : ◌≡◌ {A = ℕ} 0 1 = cc in absurd (omega arith)

module _ (l out : List ℕ) (limit start n c size : ℕ) (w : written n c size ≡ plan_outcome l limit start (length out)) where
  -- nothing was refused, and the answer has the length of the sheet
  unrefused : (None ≡ scan (plan_rows l limit start (length out))) × (size ≡ length (sheet_for l (fit_of l limit start)))
  unfolding plan_outcome unless
  unrefused = by (scan (plan_rows l limit start (length out))) _ _ w
    where
      by : (f : Option Refused) (x y : ℕ) → written n c size ≡ unless f (written x y (length (sheet_for l (fit_of l limit start)))) → (None ≡ f) × (size ≡ length (sheet_for l (fit_of l limit start)))
      by None x y q = (refl, cc)
      by (Some r) x y q = let never : ◌≡◌ {A = ℕ} 0 1 = cc in absurd (omega arith)

  listed_here : Listed limit l
  unfolding plan_rows call_rows
  listed_here = listed limit l (scan_clears (list_rows limit l) _ (scan_clears (call_rows l limit start (length out)) _ unrefused.0).0).0

  assignment : (a : Assignment) × (fit_of l limit start ≡ placed a)
  unfolding plan_rows
  assignment = all_placed _ (scan_clear 15 _ _ (scan_clears (call_rows l limit start (length out)) _ unrefused.0).1).0

  -- the front of the buffer is the sheet of the assignment
  front : take size (plan_output l limit start out) ≡ sheet_of (job_period l) (job_budget l) (job_count l) assignment.0
  unfolding plan_output laid_over over sheet_for
  front =
      rw (← unrefused.0, take_at (sheet_for l (fit_of l limit start)) (drop (length (sheet_for l (fit_of l limit start))) out) size (sym unrefused.1))
      (ap (sheet_for l) assignment.1)

  -- The sheet that is written has the tasks of the job list, by number with their periods and budgets.
  pub written_tasks : task_count (take size (plan_output l limit start out)) ≡ job_count l
  unfolding sheet_of header
  written_tasks = rw front

  pub written_period : (i : ℕ) → i < job_count l → (figures (take size (plan_output l limit start out))).period i ≡ job_period l i
  written_period i h =
      let s = fit_settled l limit start assignment.0 listed_here assignment.1 in
      rw front
      (sheet_period (job_period l) (job_budget l) (job_count l) limit assignment.0 listed_here.limit_max listed_here.count listed_here.period listed_here.budget s.0 s.1.core i h)

  pub written_budget : (i : ℕ) → i < job_count l → (figures (take size (plan_output l limit start out))).budget i ≡ job_budget l i
  written_budget i h =
      let s = fit_settled l limit start assignment.0 listed_here assignment.1 in
      rw front
      (sheet_budget (job_period l) (job_budget l) (job_count l) limit assignment.0 listed_here.limit_max listed_here.count listed_here.period listed_here.budget s.0 s.1.core i h)
