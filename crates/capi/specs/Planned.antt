-- What a plan is for (docs/SHEET.md, sections 5 and 7): the sheet that it writes runs the listed jobs on time.
use Rattle.std.specs.Prelude.{ℕ, ◌<◌, ◌≡◌, List}
use Rattle.sheet.specs.Records.{task_count, core_count}
use Rattle.sheet.specs.Views.{figures}
use Rattle.jobs.specs.Jobs.{job_count, job_period, job_budget}
use Rattle.checker.specs.Verdict.{verdict}
use Rattle.timing.specs.Calls.{Call, accepted}
use Rattle.dispatcher.specs.Starts.{sheet_answer, sheet_state}
use Rattle.dispatcher.specs.OnTime.{Kept}

-- What sheet s holds of job list l: its counts; by number each task's period and budget, on one of the cores; and of each core a start
-- that is accepted and from which every list of calls keeps the on_time rule.
pub record RunsOnTime (l s : List ℕ) (cores : ℕ) : Type 0 where
  pub tasks : task_count s ≡ job_count l
  pub cores_same : core_count s ≡ cores
  pub period : (i : ℕ) → i < job_count l → (figures s).period i ≡ job_period l i
  pub budget : (i : ℕ) → i < job_count l → (figures s).budget i ≡ job_budget l i
  pub core : (i : ℕ) → i < job_count l → (figures s).core i < cores
  pub start : (k : ℕ) → k < cores → sheet_answer (verdict s) k ≡ accepted
  pub kept : (k : ℕ) → k < cores → (cs : List Call) → Kept s k (sheet_state (verdict s) s k) cs
