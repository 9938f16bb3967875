-- The header, the task records and the core records, decoded (docs/SHEET.md, section 2).
use Rattle.std.specs.Prelude.{ℕ, ◌+◌, ◌*◌, List, get_or}
use Rattle.sheet.specs.Numbers.{word, long}

-- The fields of task i in the part that starts at byte 8. A record has 10 bytes: period (2), budget (2), core (1), spare (1), factor (4).
abbrev pub period_at : List ℕ → ℕ → ℕ
period_at tasks i = word tasks (10 * i)

abbrev pub budget_at : List ℕ → ℕ → ℕ
budget_at tasks i = word tasks (10 * i + 2)

abbrev pub core_at : List ℕ → ℕ → ℕ
core_at tasks i = get_or tasks (10 * i + 4) 0

-- in version 2 the same byte is the task's old number
abbrev pub number_at : List ℕ → ℕ → ℕ
number_at tasks j = get_or tasks (10 * j + 4) 0

-- byte 5 is spare, and in version 3 the stroke length
abbrev pub stroke_at : List ℕ → ℕ → ℕ
stroke_at tasks i = get_or tasks (10 * i + 5) 0

abbrev pub factor_at : List ℕ → ℕ → ℕ
factor_at tasks i = long tasks (10 * i + 6)

-- The fields of core k in the part after the last task. A record has 8 bytes: pivot period (2), spare (2), divisor (4). In version 2 the
-- first of the two spare bytes is the core's task count.
abbrev pub pivot_at : List ℕ → ℕ → ℕ
pivot_at cores k = word cores (8 * k)

abbrev pub divisor_at : List ℕ → ℕ → ℕ
divisor_at cores k = long cores (8 * k + 4)

abbrev pub count_at : List ℕ → ℕ → ℕ
count_at cores k = get_or cores (8 * k + 2) 0

-- The figures of a sheet: the counts n and c; period p, budget e, core, stroke length q and factor M by task number or by position; pivot Q
-- and divisor D by core number.
pub record Figures : Type 0 where
  pub tasks : ℕ
  pub cores : ℕ
  pub period : ℕ → ℕ
  pub budget : ℕ → ℕ
  pub core : ℕ → ℕ
  pub stroke : ℕ → ℕ
  pub factor : ℕ → ℕ
  pub pivot : ℕ → ℕ
  pub divisor : ℕ → ℕ

-- the figures of n task records on these cores and with these stroke lengths, and of c core records
abbrev pub figures_with : (core stroke : ℕ → ℕ) → ℕ → ℕ → List ℕ → List ℕ → Figures
figures_with core stroke n c tasks cores =
    record { tasks = n; cores = c; period = period_at tasks; budget = budget_at tasks; core = core; stroke = stroke; factor = factor_at tasks; pivot = pivot_at cores; divisor = divisor_at cores }

-- the counts: n is byte 5 of the header, c is byte 6
abbrev pub task_count : List ℕ → ℕ
task_count s = get_or s 5 0

abbrev pub core_count : List ℕ → ℕ
core_count s = get_or s 6 0
