-- The ranges of a task's period p and budget e, by task number, in a sheet and in a job list (docs/SHEET.md, section 2), and of its stroke
-- length q (section 14).
use Rattle.std.specs.Prelude.{ℕ, Bool, ◌||◌, ltb, eqb}

-- x is not in the range 1 to m
unfoldable pub out_of : ℕ → ℕ → Bool
out_of m x = eqb x 0 || ltb m x

-- 7 Period: the period of task i is not 1 to 60,000
unfoldable pub bad_period : (ℕ → ℕ) → ℕ → Bool
bad_period p i = out_of 60000 (p i)

-- 8 Budget: the budget of task i is not 1 to its period
unfoldable pub bad_budget : (ℕ → ℕ) → (ℕ → ℕ) → ℕ → Bool
bad_budget p e i = out_of (p i) (e i)

-- 25 Stroke: the stroke length of task i is not 1 to its budget
unfoldable pub bad_stroke : (ℕ → ℕ) → (ℕ → ℕ) → ℕ → Bool
bad_stroke e q i = out_of (e i) (q i)
