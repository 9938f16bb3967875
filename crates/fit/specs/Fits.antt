-- When a core fits: acceleration, simply periodic factors, load at most one; the bound w (docs/SHEET.md, section 3); and the load with
-- strokes (section 14). p, e, q and M are by task number; Q and D are the core's. The list is the core's tasks in priority order.
use Rattle.std.specs.Prelude.{ℕ, ◌+◌, ◌-◌, ◌*◌, ◌/◌, ◌%◌, ◌≤◌, max, ◌≡◌, Bool, false, cond, ◌||◌, List, [], ◌∷◌, ◌++◌, ltb, eqb}
use Rattle.std.specs.Prelude.{Option, None, Some}
use Rattle.fit.specs.Lists.{sum}

-- 12 Stretch: Q × M is above p × D, which means that the accelerated period Q × M / D is above the period p.
unfoldable pub stretched : ℕ → ℕ → ℕ → ℕ → Bool
stretched Q D p M = ltb (p * D) (Q * M)

-- 13 Chain: the first task of the list whose factor is no multiple of the factor before it; d stands before the first.
unfoldable pub chain_break : (ℕ → ℕ) → ℕ → List ℕ → Option ℕ
chain_break M d [] = None
chain_break M d (i ∷ l) = cond (eqb (M i % d) 0) (chain_break M (M i) l) (Some i)

-- m is a multiple of d
unfoldable pub Multiple : ℕ → ℕ → Type 0
Multiple d m = (c : ℕ) × (m ≡ d * c)

-- simply periodic: each factor along the list is a multiple of the one before it, the first one of d
unfoldable pub Multiples : (ℕ → ℕ) → ℕ → List ℕ → Type 0
Multiples M d [] = Unit {0}
Multiples M d (i ∷ l) = Multiple d (M i) × Multiples M (M i) l

-- the factor of the last task of the list; d where the list is empty
unfoldable pub last_factor : (ℕ → ℕ) → ℕ → List ℕ → ℕ
last_factor M d [] = d
last_factor M d (i ∷ l) = last_factor M (M i) l

-- The sum of e × D × (L / M) over the list. Where L is a multiple of every M nothing is rounded, and this is Q × L times the load, the sum
-- of e / (Q × M / D).
unfoldable pub load : (ℕ → ℕ) → (ℕ → ℕ) → ℕ → ℕ → List ℕ → ℕ
load e M D L l = sum (λ i. e i * D * (L / M i)) l

-- that sum with L the last factor of the list, and Q × L, which it comes to where the load is one; L is 1 for an empty list
abbrev pub exact_load : (ℕ → ℕ) → (ℕ → ℕ) → ℕ → List ℕ → ℕ
exact_load e M D l = load e M D (last_factor M 1 l) l

abbrev pub full_load : (ℕ → ℕ) → ℕ → List ℕ → ℕ
full_load M Q l = Q * last_factor M 1 l

-- the load is above one, which is 14 Overload where every stroke is of one tick
unfoldable pub overloaded : (ℕ → ℕ) → (ℕ → ℕ) → ℕ → ℕ → List ℕ → Bool
overloaded e M Q D l = ltb (full_load M Q l) (exact_load e M D l)

-- B of a task, by the list of the tasks below it: the largest q - 1 among them, 0 where there are none
unfoldable pub blocking : (ℕ → ℕ) → List ℕ → ℕ
blocking q [] = 0
blocking q (i ∷ l) = max (q i - 1) (blocking q l)

-- The load at task i with the tasks xs above it and ys below it: the sum of e × D × (M i / M) over it and those above it, plus B × D.
unfoldable pub level_load : (e q M : ℕ → ℕ) → ℕ → List ℕ → ℕ → List ℕ → ℕ
level_load e q M D xs i ys = load e M D (M i) (xs ++ i ∷ []) + blocking q ys * D

-- at some task of a list, which has the tasks xs above it, the load at the task is above Q × M
unfoldable pub overloaded_below : (e q M : ℕ → ℕ) → ℕ → ℕ → List ℕ → List ℕ → Bool
overloaded_below e q M Q D xs [] = false
overloaded_below e q M Q D xs (i ∷ l) = ltb (Q * M i) (level_load e q M D xs i l) || overloaded_below e q M Q D (xs ++ i ∷ []) l

-- 14 Overload: at some task of the core
unfoldable pub level_overloaded : (e q M : ℕ → ℕ) → ℕ → ℕ → List ℕ → Bool
level_overloaded e q M Q D l = overloaded_below e q M Q D [] l

-- the opposite as a proposition: at each task the load is at most Q × M
unfoldable pub LevelsFit : (e q M : ℕ → ℕ) → ℕ → ℕ → List ℕ → Type 0
LevelsFit e q M Q D l = (xs : List ℕ) (i : ℕ) (ys : List ℕ) → l ≡ xs ++ i ∷ ys → level_load e q M D xs i ys ≤ Q * M i

-- w, the whole part of the accelerated period Q × M / D
unfoldable pub within : ℕ → ℕ → ℕ → ℕ
within Q D M = Q * M / D
