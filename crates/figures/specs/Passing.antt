-- The load test, the order in which constructions are tried, and the first that passes (docs/SHEET.md, section 5).
use Rattle.std.specs.Prelude.{ℕ, Bool, true, cond, not, ◌&&◌, List, [], ◌∷◌, ◌++◌, map, length, leb, eqb}
use Rattle.std.specs.Prelude.{Option, None, Some}
use Rattle.fit.specs.Lists.{numbers, select, at}
use Rattle.fit.specs.Fits.{overloaded}
use Rattle.figures.specs.Constructions.{Acceleration, sr, dct}

-- The load of tasks with these budgets is at most one. A task is named by its place in priority order.
unfoldable pub passes : List ℕ → Acceleration → Bool
passes es a = not (overloaded (at es) (at a.factors) a.Q a.D (numbers 0 (length es)))

-- the first of a list of accelerations that passes
unfoldable pub first : List ℕ → List Acceleration → Option Acceleration
first es [] = None
first es (a ∷ l) = let later = first es l in cond (passes es a) (Some a) later

-- a construction with each task as pivot by priority
unfoldable pub each_pivot : (List ℕ → ℕ → Acceleration) → List ℕ → List Acceleration
each_pivot construction ps = map (construction ps) (numbers 0 (length ps))

-- each of a list is at most b
unfoldable pub at_most : ℕ → List ℕ → Bool
at_most b [] = true
at_most b (x ∷ l) = leb x b && at_most b l

-- the divisor and each factor are at most 120,000
unfoldable pub in_range : Acceleration → Bool
in_range a = at_most 120000 (a.D ∷ a.factors)

-- The trials in their order: Sr on base 2 with each task as pivot by priority, then Sr on base 3 with each, but a pivot whose divisor or one
-- of whose factors is above 120,000 is skipped, then DCT with each.
unfoldable pub trials : List ℕ → List Acceleration
trials ps = each_pivot (sr 2) ps ++ (select in_range (each_pivot (sr 3) ps) ++ each_pivot dct ps)

-- periods in priority order: none below the one before it, which is a before the first, and none above 60,000
unfoldable pub sorted_periods : ℕ → List ℕ → Bool
sorted_periods a [] = true
sorted_periods a (p ∷ ps) = leb a p && leb p 60000 && sorted_periods p ps

-- a set of tasks: at most 64, each with a period of 1 to 60,000 and a budget, no period below the one before it
unfoldable pub task_set : List ℕ → List ℕ → Bool
task_set ps es = leb (length ps) 64 && eqb (length ps) (length es) && sorted_periods 1 ps

-- The figures of the first trial that passes; a set passes if there is one. Anything but a set of tasks does not pass.
unfoldable pub first_passing : List ℕ → List ℕ → Option Acceleration
first_passing ps es = cond (task_set ps es) (first es (trials ps)) None
