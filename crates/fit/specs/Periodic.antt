-- Accelerated simply periodic sets of tasks, over exact fractions and in no other terms (docs/SHEET.md, section 3).
-- p, e and M are by task number; Q and D are the core's. The list is the core's tasks in priority order.
use Rattle.std.specs.Prelude.{ℕ, ◌+◌, ◌*◌, ◌≤◌, ◌≡◌, List, [], ◌∷◌, ◌++◌}
use Rattle.fit.specs.Lists.{Each, EachPair}
use Rattle.fit.specs.Fits.{blocking}

-- a fraction of two whole numbers, never rounded; the lower one is not 0
pub record Fraction : Type 0 where
  pub upper : ℕ
  pub lower : ℕ

-- a whole number
unfoldable pub whole_number : ℕ → Fraction
whole_number n = record { upper = n; lower = 1 }

-- a is at most b, by cross multiplication
unfoldable pub AtMost : Fraction → Fraction → Type 0
AtMost a b = a.upper * b.lower ≤ b.upper * a.lower

-- b is c times a, by cross multiplication
unfoldable pub Times : ℕ → Fraction → Fraction → Type 0
Times c a b = b.upper * a.lower ≡ c * a.upper * b.lower

-- the longer of two periods is a whole number of times the shorter
unfoldable pub WholeRatio : Fraction → Fraction → Type 0
WholeRatio a b = (AtMost a b → (c : ℕ) × Times c a b) × (AtMost b a → (c : ℕ) × Times c b a)

-- a / b + c / d is (a d + c b) / (b d)
unfoldable pub plus : Fraction → Fraction → Fraction
plus x y = record { upper = x.upper * y.lower + y.upper * x.lower; lower = x.lower * y.lower }

-- the sum of a fraction over a list
unfoldable pub total : (ℕ → Fraction) → List ℕ → Fraction
total f [] = whole_number 0
total f (i ∷ l) = plus (f i) (total f l)

-- the accelerated period of a task, Q × M / D
unfoldable pub accelerated : (ℕ → ℕ) → ℕ → ℕ → ℕ → Fraction
accelerated M Q D i = record { upper = Q * M i; lower = D }

-- the part of the time that a task takes: its budget divided by its period t
unfoldable pub utilisation : ℕ → Fraction → Fraction
utilisation e t = record { upper = e * t.lower; lower = t.upper }

-- each task's accelerated period is at most its period, of each two the longer is a whole number of times the shorter, and together the
-- tasks take at most the whole time
pub record AcceleratedSet (p e M : ℕ → ℕ) (Q D : ℕ) (l : List ℕ) : Type 0 where
  pub faster : Each (λ i. AtMost (accelerated M Q D i) (whole_number (p i))) l
  pub simply_periodic : EachPair (λ i j. WholeRatio (accelerated M Q D i) (accelerated M Q D j)) l
  pub full : AtMost (total (λ i. utilisation (e i) (accelerated M Q D i)) l) (whole_number 1)

-- with strokes q: at each task, with the tasks xs above it and ys below it, what it and those above it take of the time, and what a task
-- below it may hold the core for of its accelerated period, are together at most the whole
unfoldable pub BlockedSet : (e q M : ℕ → ℕ) (Q D : ℕ) → List ℕ → Type 0
BlockedSet e q M Q D l =
    (xs : List ℕ) (i : ℕ) (ys : List ℕ) → l ≡ xs ++ i ∷ ys → AtMost (plus (total (λ j. utilisation (e j) (accelerated M Q D j)) (xs ++ i ∷ [])) (utilisation (blocking q ys) (accelerated M Q D i))) (whole_number 1)

-- in priority order the accelerated periods do not fall
unfoldable pub Rising : (ℕ → ℕ) → ℕ → ℕ → List ℕ → Type 0
Rising M Q D l = EachPair (λ i j. AtMost (accelerated M Q D i) (accelerated M Q D j)) l
