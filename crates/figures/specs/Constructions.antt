-- Sr and DCT (docs/SHEET.md, section 5). A construction takes the periods of a core's tasks in priority order and the place of its pivot.
use Rattle.std.specs.Prelude.{ℕ, zero, suc, ◌*◌, ◌/◌, ◌^◌, ◌≡◌, cond, List, [], ◌∷◌, ◌++◌, map, take, drop, leb}
use Rattle.fit.specs.Lists.{at}
use Rattle.fit.specs.Rounding.{ceiling}

-- The figures of a core: the accelerated period of the task at place i is the fraction Q × M / D, where M is its factor.
pub record Acceleration : Type 0 where
  pub Q : ℕ
  pub D : ℕ
  pub factors : List ℕ

-- the figures where there are none
abbrev pub no_figures : Acceleration
no_figures = record { Q = 0; D = 0; factors = [] }

-- m is a power of b
unfoldable pub Power : ℕ → ℕ → Type 0
Power b m = (k : ℕ) × (m ≡ b ^ k)

-- the first of m, m × b, m × b × b .. with q ≤ p × it, or the last that n steps reach
unfoldable pub least : ℕ → ℕ → ℕ → ℕ → ℕ → ℕ
least b q p zero m = m
least b q p (suc n) m = let more = least b q p n (m * b) in cond (leb q (p * m)) m more

-- the least power of b with q ≤ p × it; q steps are enough
unfoldable pub least_power : ℕ → ℕ → ℕ → ℕ
least_power b q p = least b q p q 1

-- the last of m, m × b, m × b × b .. before the first with q × it above x, or the last that n steps reach
unfoldable pub largest : ℕ → ℕ → ℕ → ℕ → ℕ → ℕ
largest b q x zero m = m
largest b q x (suc n) m = let more = largest b q x n (m * b) in cond (leb (q * (m * b)) x) more m

-- the largest power of b with q × it ≤ x; x steps are enough
unfoldable pub largest_power : ℕ → ℕ → ℕ → ℕ
largest_power b q x = largest b q x x 1

-- Sr on base b. Q is the pivot's period. A task with period p has the accelerated period Q × M / D, where M / D is the largest power of b,
-- its exponent negative or not, with Q × M / D ≤ p. D is one for all: the least power with Q ≤ p × D at the first task, where M is then 1.
unfoldable pub sr : ℕ → List ℕ → ℕ → Acceleration
sr b ps i =
    let q = at ps i in
    let d = least_power b q (at ps 0) in
    record { Q = q; D = d; factors = map (λ p. largest_power b q (p * d)) ps }

-- DCT, one step to a shorter period p: from the accelerated period x of the task after it, x divided by the least whole number that is not
-- below x / p. An accelerated period is Q / d, and this gives d from that of the task after it.
unfoldable pub down : ℕ → ℕ → ℕ → ℕ
down q p d = d * ceiling q (d * p)

-- the d of each task before the pivot, and of the pivot, which is 1
unfoldable pub downs : ℕ → List ℕ → List ℕ
downs q [] = 1 ∷ []
downs q (p ∷ ps) = let next = downs q ps in down q p (at next 0) ∷ next

-- DCT, one step to a longer period p: from the accelerated period x of the task before it, x times the whole part of p / x. An accelerated
-- period is Q × m, and this gives m from that of the task before it.
unfoldable pub up : ℕ → ℕ → ℕ → ℕ
up q p m = m * (p / (q * m))

-- the m of each task after one whose m is given
unfoldable pub ups : ℕ → ℕ → List ℕ → List ℕ
ups q m [] = []
ups q m (p ∷ ps) = let next = up q p m in next ∷ ups q next ps

-- DCT. Q is the pivot's period, and D is the first d, so that the first factor is 1. As Q × M / D, Q / d has M = D / d, and Q × m has
-- M = D × m.
unfoldable pub dct : List ℕ → ℕ → Acceleration
dct ps i =
    let q = at ps i in
    let ds = downs q (take i ps) in
    let d = at ds 0 in
    record { Q = q; D = d; factors = map (λ x. d / x) ds ++ map (λ m. d * m) (ups q 1 (drop (suc i) ps)) }
