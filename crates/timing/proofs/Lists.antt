-- Lists of tasks: a property of each task, the task at a place, and sums.
-- Assumes nothing.
use Prim.Native.Nat.{ℕ, zero, suc, ◌+◌, ◌≤◌, ◌<◌}
use mathlib.Core.Path.{◌≡◌, refl, ap}
use mathlib.Core.Logic.{◌⊎◌, inl, inr}
use mathlib.Core.List.{List, [], ◌∷◌, map}
use native.Mathlib.Omega.{arith}
use lib.ListN.{length, take, drop}
use Rattle.fit.specs.Lists.{Each}
use Rattle.timing.specs.declared.Task.{Task}
use Rattle.timing.specs.Serving.{nth}
use Rattle.timing.proofs.Rate.{sum_of}

-- a number is zero or positive
pub zero_or_pos : (n : ℕ) → (n ≡ 0) ⊎ (0 < n)
zero_or_pos zero = inl refl
zero_or_pos (suc n) = inr (omega arith)

-- what a change of one task gives, the same change of every task gives
pub each_map : (P Q : Task → Type 0) (g : Task → Task) (s : List Task) → ((t : Task) → P t → Q (g t)) → Each P s → Each Q (map g s)
unfolding Each
each_map P Q g [] f h = tt
each_map P Q g (t ∷ s) f h = (f t h.0, each_map P Q g s f h.1)

-- a property of each task of a level is one of the task at its place
pub each_level : (P : Task → Type 0) (s : List Task) (i : ℕ) → i < length s → Each P (take (suc i) s) → P (nth s i)
unfolding Each
each_level P [] i lt h = absurd (omega arith)
each_level P (t ∷ s) zero lt h = h.0
each_level P (t ∷ s) (suc i) lt h = each_level P s i (omega arith) h.1

-- what holds of the task at each place holds of each task
pub nth_each : (P : Task → Type 0) (s : List Task) → ((i : ℕ) → i < length s → P (nth s i)) → Each P s
unfolding Each
nth_each P [] f = tt
nth_each P (t ∷ s) f = (f zero (omega arith), nth_each P s (λ i lt. f (suc i) (omega arith)))

-- only a task of the list is pending
pub pending_place : (s : List Task) (i : ℕ) → 0 < (nth s i).left → i < length s
pending_place [] i p = absurd (omega arith)
pending_place (t ∷ s) zero p = omega arith
pending_place (t ∷ s) (suc i) p = omega (arith, pending_place s i p)

-- a figure of one task is at most the sum of its level
pub nth_le_sum : (f : Task → ℕ) (s : List Task) (i : ℕ) → i < length s → f (nth s i) ≤ sum_of f (take (suc i) s)
unfolding sum_of
nth_le_sum f [] i lt = absurd (omega arith)
nth_le_sum f (t ∷ s) zero lt = omega arith
nth_le_sum f (t ∷ s) (suc i) lt = omega (arith, nth_le_sum f s i (omega arith))

-- a sum of smaller figures is smaller
pub sum_le : (f g : Task → ℕ) (s : List Task) → Each (λ t. f t ≤ g t) s → sum_of f s ≤ sum_of g s
unfolding sum_of Each
sum_le f g [] h = omega arith
sum_le f g (t ∷ s) h = omega (arith, sum_le f g s h.1)

-- a sum over changed tasks is the sum of the changed figures
pub sum_map : (f : Task → ℕ) (g : Task → Task) (s : List Task) → sum_of f (map g s) ≡ sum_of (λ t. f (g t)) s
unfolding sum_of
sum_map f g [] = refl
sum_map f g (t ∷ s) = ap (λ n. f (g t) + n) (sum_map f g s)

-- the first k of the changed tasks are the changed first k tasks
pub take_map : (g : Task → Task) (k : ℕ) (s : List Task) → take k (map g s) ≡ map g (take k s)
take_map g zero s = refl
take_map g (suc k) [] = refl
take_map g (suc k) (t ∷ s) = ap (λ l. g t ∷ l) (take_map g k s)

-- and those from place k on the changed ones from there
pub drop_map : (g : Task → Task) (k : ℕ) (s : List Task) → drop k (map g s) ≡ map g (drop k s)
drop_map g zero s = refl
drop_map g (suc k) [] = refl
drop_map g (suc k) (t ∷ s) = drop_map g k s
