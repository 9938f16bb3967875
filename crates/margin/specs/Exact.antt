-- What the margins of a job list tell of its runs, and those of a sheet's core of its figures (docs/SHEET.md, section 11).
use Rattle.std.specs.Prelude.{ℕ, ◌+◌, ◌<◌, ◌≡◌, List, ◌∷◌, ◌++◌, ℤ, pos, ◌-ℤ◌, ◌≤ℤ◌}
use Rattle.sheet.specs.Table.{scan}
use Rattle.sheet.specs.Views.{figures}
use Rattle.fit.specs.Lists.{Each}
use Rattle.fit.specs.Cores.{order_on, within_on}
use Rattle.jobs.specs.Jobs.{job_period, job_budget, list_rows}
use Rattle.timing.specs.Calls.{Call, release, accepted, Entry, entry, log}
use Rattle.timing.specs.OnTime.{count, is_tick, Ended, EndsBy, OnTime}
use Rattle.state.specs.Operations.{ask, step}
use Rattle.dispatcher.specs.Starts.{list_state}
use Rattle.margin.specs.Margin.{margin}
use Rattle.margin.specs.Answers.{ticks, margin_answer}

-- every margin that is answered for a list is zero or more
unfoldable pub NoneBelowZero : List ℕ → Type 0
NoneBelowZero l = (j : ℕ) (m : ℤ) → margin_answer l j ≡ ticks m → pos 0 ≤ℤ m

-- the log of a list of calls from the bench start of a job list
abbrev pub bench_log : List ℕ → List Call → List Entry
bench_log l cs = log ask step (list_state (scan (list_rows 0 l)) l) cs

-- no run from the bench start leaves a job pending once p ticks have passed since its release
unfoldable pub NonePending : List ℕ → Type 0
NonePending l = (cs : List Call) (j : ℕ) → EndsBy (job_period l j) (job_budget l j) j (bench_log l cs)

-- a run from the bench start in which a job of task j has not ended once t ticks have passed since its release
pub record PendingAfter (l : List ℕ) (j t : ℕ) : Type 0 where
  pub calls : List Call
  pub before : List Entry
  pub since : List Entry
  pub split : bench_log l calls ≡ before ++ entry (release j) accepted ∷ since
  pub ticks_since : count is_tick since ≡ t
  pub pending : Ended (job_budget l j) j since → ⊥

-- What the margins of a list tell.
pub record Exact (l : List ℕ) : Type 0 where
  -- every margin is zero or more exactly when no run leaves a job pending once its period has passed
  pub enough : NoneBelowZero l → NonePending l
  pub needed : NonePending l → NoneBelowZero l
  -- then every run obeys the on_time rule with the periods
  pub on_time : NoneBelowZero l → (cs : List Call) → OnTime (job_period l) (job_budget l) (bench_log l cs)
  -- whatever the other margins are, a margin m of zero or more leaves each job of its task m ticks to spare
  pub ends : (j m t : ℕ) → margin_answer l j ≡ ticks (pos m) → t + m ≡ job_period l j → (cs : List Call) → EndsBy t (job_budget l j) j (bench_log l cs)
  -- and where no margin is below zero, no more than these: some job of the task is pending until then
  pub no_sooner : NoneBelowZero l → (j m t : ℕ) → margin_answer l j ≡ ticks (pos m) → t + m < job_period l j → PendingAfter l j t

-- on core k of sheet s each margin is at least p - w
unfoldable pub MarginsAtLeast : List ℕ → ℕ → Type 0
MarginsAtLeast s k =
    let f = figures s in
    Each (λ i. (pos (f.period i) -ℤ pos (within_on f k i)) ≤ℤ margin f.period f.budget (order_on f k) i) (order_on f k)
