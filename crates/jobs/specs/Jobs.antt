-- The job list (docs/SHEET.md, section 5): entries of 4 bytes, period and budget with two each. A task's number is its place in the list.
use Rattle.std.specs.Prelude.{ℕ, ◌+◌, ◌*◌, ◌/◌, ◌%◌, ◌≤◌, ◌<◌, ◌≡◌, not, ◌||◌, List, [], ◌∷◌, length, ltb, eqb}
use Rattle.sheet.specs.Numbers.{word}
use Rattle.sheet.specs.Ranges.{bad_period, bad_budget}
use Rattle.sheet.specs.Table.{Row, ◌at◌, whole}
use Rattle.fit.specs.Lists.{numbers, find}

-- the number of entries, and the period and budget of entry i
unfoldable pub job_count : List ℕ → ℕ
job_count l = length l / 4

abbrev pub job_period : List ℕ → ℕ → ℕ
job_period l i = word l (4 * i)

abbrev pub job_budget : List ℕ → ℕ → ℕ
job_budget l i = word l (4 * i + 2)

-- 5 Length: no multiple of 4. 4 Count: over 64 entries, or a core limit above 8. 7 Period and 8 Budget at the first entry.
unfoldable pub list_rows : ℕ → List ℕ → List Row
list_rows limit l =
    5 at whole (not (eqb (length l % 4) 0))
    ∷ 4 at whole (ltb 64 (job_count l) || ltb 8 limit)
    ∷ 7 at find (bad_period (job_period l)) (numbers 0 (job_count l))
    ∷ 8 at find (bad_budget (job_period l) (job_budget l)) (numbers 0 (job_count l))
    ∷ []

-- a job list and a core limit that break none of these rules
pub record Listed (limit : ℕ) (l : List ℕ) : Type 0 where
  pub even : length l % 4 ≡ 0
  pub count : job_count l ≤ 64
  pub limit_max : limit ≤ 8
  pub period : (i : ℕ) → i < job_count l → (1 ≤ job_period l i) × (job_period l i ≤ 60000)
  pub budget : (i : ℕ) → i < job_count l → (1 ≤ job_budget l i) × (job_budget l i ≤ job_period l i)
