-- Laws of lists: what stands at a place, and sums by place.
-- Assumes nothing.
use Prim.Native.Nat.{ℕ, zero, suc, ◌+◌, ◌<◌}
use mathlib.Core.Path.{◌≡◌, refl, sym, ap, ap₂, ◌∙◌}
use mathlib.Core.List.{List, [], ◌∷◌, map}
use native.Mathlib.Nat.{add-zero, add-suc, suc-add}
use native.Mathlib.Omega.{arith}
use lib.ListN.{length}
use Rattle.fit.specs.Lists.{numbers, sum, at}
use Rattle.fit.specs.Fits.{last_factor}

pub at_map : (f : ℕ → ℕ) (l : List ℕ) (i : ℕ) → i < length l → at (map f l) i ≡ f (at l i)
at_map f [] i h = absurd (omega arith)
at_map f (x ∷ l) zero h = refl
at_map f (x ∷ l) (suc i) h = at_map f l i (omega arith)

-- f by number along a list is g by place from k on
unfoldable pub ByPlace : (ℕ → ℕ) → (ℕ → ℕ) → ℕ → List ℕ → Type 0
ByPlace f g k [] = Unit {0}
ByPlace f g k (i ∷ l) = (f i ≡ g k) × ByPlace f g (suc k) l

pub by_place : (f g : ℕ → ℕ) (k : ℕ) (l : List ℕ) → ((j : ℕ) → j < length l → f (at l j) ≡ g (k + j)) → ByPlace f g k l
unfolding ByPlace
by_place f g k [] h = tt
by_place f g k (i ∷ l) h = (h 0 (omega arith) ∙ ap g (add-zero k), by_place f g (suc k) l (λ j q. h (suc j) (omega arith) ∙ ap g (add-suc k j ∙ sym (suc-add k j))))

pub sum_by_place : (f g : ℕ → ℕ) (k : ℕ) (l : List ℕ) → ByPlace f g k l → sum f l ≡ sum g (numbers k (length l))
unfolding ByPlace sum numbers
sum_by_place f g k [] h = refl
sum_by_place f g k (i ∷ l) h = ap₂ (λ s t. s + t) h.0 (sum_by_place f g (suc k) l h.1)

pub last_by_place : (f g : ℕ → ℕ) (d k : ℕ) (l : List ℕ) → ByPlace f g k l → last_factor f d l ≡ last_factor g d (numbers k (length l))
unfolding ByPlace last_factor numbers
last_by_place f g d k [] h = refl
last_by_place f g d k (i ∷ l) h = rw h.0 (last_by_place f g (g k) (suc k) l h.1)
