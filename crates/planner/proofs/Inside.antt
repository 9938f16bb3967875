-- A sheet that is written lies within the output.
-- Assumes nothing.
use Prim.Native.Nat.{ℕ, ◌+◌, ◌*◌, ◌≤◌}
use mathlib.Core.Path.{◌≡◌, sym}
use Rattle.std.specs.Prelude.{Option, None, Some, Result, Ok}
use mathlib.Core.List.{List}
use native.Mathlib.Omega.{arith}
use lib.ListN.{length, take, drop, length-append, length-take}
use lib.Seq.{length-take-le}
use Rattle.sheet.specs.Table.{Refused, scan}
use Rattle.sheet.specs.declared.Rejection.{Rejection}
use Rattle.checker.specs.Verdict.{verdict, accepted}
use Rattle.checker.proofs.Acceptance.{accepted_exactly}
use Rattle.planner.specs.declared.Planned.{Planned}
use Rattle.fit.specs.Lists.{over}
use Rattle.planner.specs.Plan.{written, unless, plan_rows, fit_of, sheet_for, plan_outcome, laid_over, plan_output, outcome_of, Accepting}

module _ (r : Result Planned (Rejection ℕ)) (p : Planned) (jobs out new : List ℕ) (limit start : ℕ) (e : r ≡ Ok p) (h : outcome_of r ≡ plan_outcome jobs limit start (length out)) (o : new ≡ plan_output jobs limit start out) where
  pub sheet_inside : p.length ≤ length new
  unfolding plan_outcome plan_output unless laid_over over
  sheet_inside = by (scan (plan_rows jobs limit start (length out))) _ _ (rw e at h) o
    where
      sheet : List ℕ
      sheet = sheet_for jobs (fit_of jobs limit start)

      by : (f : Option Refused) (a b : ℕ) → written p.tasks p.cores p.length ≡ unless f (written a b (length sheet)) → new ≡ laid_over f sheet out → p.length ≤ length new
      by None a b q z =
          let w : p.length ≡ length sheet = cc in
          rw (z, length-append sheet (drop (length sheet) out)) (omega (arith, w))
      by (Some x) a b q z = let never : ◌≡◌ {A = ℕ} 0 1 = cc in absurd (omega arith)

  -- and that front of it is as long
  pub sheet_front : p.length ≡ length (take p.length new)
  sheet_front = sym (length-take-le p.length new sheet_inside)

-- the records of an accepted sheet lie within the output
module _ (r : Result Planned (Rejection ℕ)) (p : Planned) (out : List ℕ) (e : r ≡ Ok p) (a : Accepting r out) where
  pub records_inside : 8 + 10 * p.tasks + 8 * p.cores ≤ length out
  records_inside =
      let v : verdict (take p.length out) ≡ accepted p.tasks p.cores = rw e at a in
      let (good, tasks, cores) = (accepted_exactly (take p.length out) p.tasks p.cores).0 v in
      omega (arith, good.frame.size, tasks, cores, length-take p.length out)

  pub tasks_inside : 8 + 10 * p.tasks ≤ length out
  tasks_inside = omega (arith, records_inside)
