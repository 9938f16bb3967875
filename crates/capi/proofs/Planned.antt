-- The sheet of a plan runs its jobs on time: what the planner, the checker and the dispatcher promise, joined.
-- Assumes nothing.
use Prim.Native.Nat.{ℕ, ◌<◌}
use mathlib.Core.Path.{◌≡◌, sym, ap}
use mathlib.Core.List.{List}
use native.Mathlib.Omega.{arith}
use borrow.Author.Tests.{lt-ltb}
use lib.ListN.{length, take}
use Rattle.std.specs.Prelude.{Result, Ok, Err}
use Rattle.sheet.specs.declared.Rejection.{Rejection}
use Rattle.sheet.specs.Records.{task_count}
use Rattle.jobs.specs.Jobs.{job_count}
use Rattle.checker.specs.Verdict as check
use Rattle.checker.proofs.Acceptance.{accepted_exactly}
use Rattle.checker.proofs.Views.{views_fit}
use Rattle.planner.specs.declared.Planned.{Planned}
use Rattle.planner.specs.Plan as plan
use Rattle.planner.proofs.Written.{written_tasks, written_period, written_budget}
use Rattle.timing.specs.Calls.{Call, accepted}
use Rattle.dispatcher.specs.Starts.{sheet_answer, sheet_state}
use Rattle.dispatcher.specs.OnTime.{Kept}
use Rattle.dispatcher.proofs.Starts.{sheet_kept}
use Rattle.capi.specs.declared.PlanAnswer.{PlanAnswer}
use Rattle.capi.specs.Answers.{planned_of}
use Rattle.capi.specs.Planned.{RunsOnTime}
use Rattle.capi.proofs.Answers.{positive}

-- a core of a sheet that is accepted starts, and is on time
module _ (s : List ℕ) (n c k : ℕ) (e : check.verdict s ≡ check.accepted n c) (h : k < c) where
  core_starts : sheet_answer (check.verdict s) k ≡ accepted
  unfolding sheet_answer
  core_starts = rw (e, lt-ltb k c h)

  core_on_time : (cs : List Call) → Kept s k (sheet_state (check.verdict s) s k) cs
  core_on_time cs = sheet_kept s k core_starts cs

-- the promise of a plan that was written
module _ (p : Planned) (l out new : List ℕ) (limit start : ℕ) (w : plan.written p.tasks p.cores p.length ≡ plan.plan_outcome l limit start (length out)) (o : new ≡ plan.plan_output l limit start out) (e : check.verdict (take p.length new) ≡ check.accepted p.tasks p.cores) where
  written_runs : RunsOnTime l (take p.length new) p.cores
  written_runs =
      let (good, tasks, cores) = (accepted_exactly (take p.length new) p.tasks p.cores).0 e in
      let same : take p.length new ≡ take p.length (plan.plan_output l limit start out) = rw o in
      let count : task_count (take p.length new) ≡ job_count l = rw same (written_tasks l out limit start p.tasks p.cores p.length w) in
      record {
        tasks = count;
        cores_same = sym cores;
        period = rw same (written_period l out limit start p.tasks p.cores p.length w);
        budget = rw same (written_budget l out limit start p.tasks p.cores p.length w);
        core = λ i b. omega (arith, cores, ((views_fit (take p.length new) good.order).0 good.fitting).tasks.core i (omega (arith, count)));
        start = λ k b. core_starts (take p.length new) p.tasks p.cores k e b;
        kept = λ k b. core_on_time (take p.length new) p.tasks p.cores k e b;
      }

-- the same in terms of the C answer: a refusal's number is not 0, so a refused plan promises nothing
pub runs_on_time : (v : Result Planned (Rejection ℕ)) (l out new : List ℕ) (limit start : ℕ) (r : PlanAnswer) → r ≡ planned_of (plan.outcome_of v) → plan.outcome_of v ≡ plan.plan_outcome l limit start (length out) → new ≡ plan.plan_output l limit start out → plan.Accepting v new → r.refusal ≡ 0 → RunsOnTime l (take r.length new) r.cores
unfolding planned_of
runs_on_time (Ok p) l out new limit start r e h o a z = rw e (written_runs p l out new limit start h o a)
runs_on_time (Err x) l out new limit start r e h o a z = absurd (omega (arith, positive x.word, ap (λ (q : PlanAnswer). q.refusal) e))
