-- What the code's own steps ask and give; no public contract speaks of it.
use Rattle.std.specs.Prelude.{ℕ, suc, ◌≤◌, ◌<◌, ◌≡◌, Bool, List, [], ◌∷◌, set, get_or}
use Rattle.std.specs.Prelude.{Option}
use Rattle.std.specs.Prelude.{Result, Ok, Err}
use Rattle.sheet.specs.declared.Refusal.TheVariants.{NoFit}
use Rattle.sheet.specs.declared.Rejection.{Rejection}
use Rattle.fit.specs.Lists.{at}
use Rattle.jobs.specs.Jobs.{job_count, job_period, job_budget}
use Rattle.figures.specs.Constructions.{Acceleration}
use Rattle.planner.specs.declared.Assignment.{Assignment}
use Rattle.planner.specs.declared.sets.CoreRate.{CoreRate}
use Rattle.planner.specs.declared.sets.Rates.{Rates}
use Rattle.planner.specs.FirstFit.{unassigned, core_figures, takes, core_for, Fit, placed, unplaced, first_fit}
use Rattle.planner.specs.Sheet.{task_record, core_record, figures_for, factor_for}

-- of a job list: the figures of core k, whether core k takes task i, the core for task i, and a walk that begins with no core open
abbrev pub figures_in : List ℕ → List ℕ → ℕ → Option Acceleration
figures_in l core k = core_figures (job_period l) (job_budget l) (job_count l) core k

abbrev pub takes_in : List ℕ → ℕ → List ℕ → ℕ → Bool
takes_in l i core k = takes (job_period l) (job_budget l) (job_count l) i core k

abbrev pub core_in : List ℕ → ℕ → ℕ → Assignment → Option ℕ
core_in l limit i a = core_for (job_period l) (job_budget l) (job_count l) limit i a

abbrev pub walk_in : List ℕ → ℕ → List ℕ → Fit
walk_in l limit tasks = first_fit (job_period l) (job_budget l) (job_count l) limit tasks unassigned

-- every task of a list has one of at most 8 open cores
pub record Assigned (l : List ℕ) (a : Assignment) : Type 0 where
  pub few : a.cores ≤ 8
  pub core : (i : ℕ) → i < job_count l → at a.core i < a.cores

-- the outcome of a walk as the code tells it
abbrev pub fitted : Fit → Result Assignment (Rejection ℕ)
fitted (placed a) = Ok a
fitted (unplaced i) = Err (record { word = NoFit; place = i })

-- factors by task number, in which the listed tasks one after the other get a core's own factors from place m on
unfoldable pub spread : List ℕ → List ℕ → ℕ → List ℕ → List ℕ
spread own [] m factors = factors
spread own (i ∷ l) m factors = spread own l (suc m) (set factors i (at own m))

-- what stands at a place of a list of cores, and zeros past its end
abbrev pub rate_at : List CoreRate → ℕ → CoreRate
rate_at cores k = get_or cores k (record { pivot = 0; divisor = 0 })

-- pivots and divisors of the open cores, and factors of the tasks, as the sheet has them
pub record Rated (l : List ℕ) (a : Assignment) (r : Rates) : Type 0 where
  pub pivot : (k : ℕ) → k < a.cores → (rate_at r.cores k).pivot ≡ (figures_for (job_period l) (job_budget l) (job_count l) a k).Q
  pub divisor : (k : ℕ) → k < a.cores → (rate_at r.cores k).divisor ≡ (figures_for (job_period l) (job_budget l) (job_count l) a k).D
  pub factor : (i : ℕ) → i < job_count l → at r.factors i ≡ factor_for (job_period l) (job_budget l) (job_count l) a i

-- the record of task i and of core k, with core, factor, pivot and divisor from arrays
unfoldable pub task_bytes : List ℕ → List ℕ → List ℕ → ℕ → List ℕ
task_bytes l core factors i = task_record (job_period l i) (job_budget l i) (at core i) (at factors i)

unfoldable pub core_bytes : List CoreRate → ℕ → List ℕ
core_bytes cores k = core_record (rate_at cores k).pivot (rate_at cores k).divisor
