-- 23 Order: when the task records of a version 2 sheet are not in its order (docs/SHEET.md, section 12). Period, old number and core are by
-- position, task counts by core number.
use Rattle.std.specs.Prelude.{ℕ, suc, ◌-◌, ◌<◌, ◌≡◌, Bool, not, ◌&&◌, ◌||◌, map, eqb}
use Rattle.sheet.specs.Views.{first_of}
use Rattle.fit.specs.Lists.{numbers, occurs, some_below}
use Rattle.fit.specs.Priority.{higher, Higher}

-- the old numbers of n tasks are not each of 0 to n - 1 once
unfoldable pub bad_numbers : (ℕ → ℕ) → ℕ → Bool
bad_numbers number n = some_below (λ i. not (eqb (occurs i (map number (numbers 0 n))) 1)) n

-- the task counts of c cores do not add up to n
unfoldable pub bad_counts : (ℕ → ℕ) → ℕ → ℕ → Bool
bad_counts count n c = not (eqb (first_of count c) n)

-- the task at position j + 1 is on the core of the one at position j, which has no priority over it
unfoldable pub falls_at : (period number core : ℕ → ℕ) → ℕ → Bool
falls_at period number core j = eqb (core j) (core (suc j)) && not (higher (period j) (number j) (period (suc j)) (number (suc j)))

-- of n tasks, some core's are out of priority order
unfoldable pub bad_sequence : (period number core : ℕ → ℕ) → ℕ → Bool
bad_sequence period number core n = some_below (falls_at period number core) (n - 1)

-- n tasks on c cores are not in the order of version 2
unfoldable pub misordered : (period number core count : ℕ → ℕ) → ℕ → ℕ → Bool
misordered period number core count n c = bad_numbers number n || (bad_counts count n c || bad_sequence period number core n)

-- each of 0 to n - 1 is the old number of exactly one of n tasks, and no task has another
pub record EachOnce (number : ℕ → ℕ) (n : ℕ) : Type 0 where
  pub below : (j : ℕ) → j < n → number j < n
  pub found : (i : ℕ) → i < n → (j : ℕ) × (j < n) × (number j ≡ i)
  pub once : (i j : ℕ) → i < n → j < n → number i ≡ number j → i ≡ j

-- n tasks on c cores are in the order of version 2: each number stands once, the counts add up to n, and on each core the tasks stand in
-- priority order
pub record InOrder (period number core count : ℕ → ℕ) (n c : ℕ) : Type 0 where
  pub numbers : EachOnce number n
  pub counts : first_of count c ≡ n
  pub rising : (i j : ℕ) → i < j → j < n → core i ≡ core j → Higher (period i) (number i) (period j) (number j)
