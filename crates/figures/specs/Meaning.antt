-- What Sr, DCT and the written form mean over exact fractions (docs/SHEET.md, section 5). An accelerated period is Q × M / D.
use Rattle.std.specs.Prelude.{ℕ, suc, ◌*◌, ◌/◌, ◌^◌, ◌≤◌, ◌<◌, ◌≡◌, List, [], ◌∷◌, length}
use Rattle.fit.specs.Lists.{at}
use Rattle.fit.specs.Rounding.{ceiling}
use Rattle.fit.specs.Fits.{Multiple}
use Rattle.figures.specs.Constructions.{Acceleration, Power}

-- periods in priority order: none below the one before it, which is a before the first, and none above 60,000
unfoldable pub SortedPeriods : ℕ → List ℕ → Type 0
SortedPeriods a [] = Unit {0}
SortedPeriods a (p ∷ ps) = (a ≤ p) × (p ≤ 60000) × SortedPeriods p ps

-- Sr, at a task with period p: M / D is a power of b, its exponent negative or not, with Q × M / D ≤ p, and the largest: every power
-- b ^ j / b ^ k with Q × b ^ j / b ^ k ≤ p is at most M / D.
pub record Multiplier (b Q p M D : ℕ) : Type 0 where
  pub factor : Power b M
  pub divisor : Power b D
  pub fits : Q * M ≤ p * D
  pub largest : (j k : ℕ) → Q * b ^ j ≤ p * b ^ k → b ^ j * D ≤ M * b ^ k

-- DCT with the pivot at place i, where the accelerated period is Q. After it each accelerated period is the one before, x, times p / x
-- rounded down; before it each is the one after, x, divided by x / p rounded up; p is the task's own period.
pub record DctPeriods (ps : List ℕ) (i Q D : ℕ) (M : ℕ → ℕ) : Type 0 where
  pub pivot : M i ≡ D
  pub up : (k : ℕ) → i ≤ k → suc k < length ps → M (suc k) ≡ M k * (at ps (suc k) * D / (Q * M k))
  pub down : (k : ℕ) → k < i → M (suc k) ≡ M k * ceiling (Q * M (suc k)) (at ps k * D)

-- m is a factor for period p, after a factor d: Q × m ≤ p × D, m is a multiple of d and at least 1
pub record Factor (Q D d p m : ℕ) : Type 0 where
  pub accelerated : Q * m ≤ p * D
  pub multiple : Multiple d m
  pub positive : 0 < m

-- a factor for each of these periods, the first after a factor d
unfoldable pub Factors : ℕ → ℕ → ℕ → List ℕ → List ℕ → Type 0
Factors Q D d [] [] = Unit {0}
Factors Q D d [] (m ∷ ms) = ⊥
Factors Q D d (p ∷ ps) [] = ⊥
Factors Q D d (p ∷ ps) (m ∷ ms) = Factor Q D d p m × Factors Q D m ps ms

-- The written form: Q is in range, the first task has factor 1, no accelerated period is above its period, the factors are a chain, and D
-- is below b × Q. So D is below b × 60,000, and so is each M: on base 2 below 120,000, on base 3 below 180,000.
pub record Sound (b : ℕ) (ps : List ℕ) (a : Acceleration) : Type 0 where
  pub pivot : (1 ≤ a.Q) × (a.Q ≤ 60000)
  pub divisor : (1 ≤ a.D) × (a.D < b * a.Q)
  pub one : at a.factors 0 ≡ 1
  pub factors : Factors a.Q a.D 1 ps a.factors
