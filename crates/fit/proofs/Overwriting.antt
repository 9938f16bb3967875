-- A list that is overwritten from the front with f of the elements of another, or of its own.
-- Assumes nothing.
use Prim.Native.Nat.{ℕ, zero, suc, ◌+◌, ◌≤◌, ◌<◌}
use mathlib.Core.Path.{◌≡◌, refl, ap, ◌∙◌}
use mathlib.Core.List.{List, [], ◌∷◌, ◌++◌, map}
use native.Mathlib.Numerals.{add-one}
use native.Mathlib.Omega.{arith}
use lib.ListN.{length, get_or, take, drop, set}
use lib.Seq.{take_all}

module _ {A B : Type 0} (f : A → B) where
  -- the first i are f of those of xs, and the rest are those of ys
  abbrev pub overwritten : List A → List B → ℕ → List B
  overwritten xs ys i = map f (take i xs) ++ drop i ys

  pub over_length : (xs : List A) (ys : List B) (i : ℕ) → i ≤ length xs → i ≤ length ys → length (overwritten xs ys i) ≡ length ys
  over_length xs ys zero h k = refl
  over_length [] ys (suc i) h k = absurd (omega arith)
  over_length (x ∷ xs) [] (suc i) h k = absurd (omega arith)
  over_length (x ∷ xs) (y ∷ ys) (suc i) h k = ap suc (over_length xs ys i (omega arith) (omega arith))

  -- what is not overwritten yet
  pub over_at : (xs : List A) (ys : List B) (i : ℕ) (d : B) → i < length xs → i < length ys → get_or (overwritten xs ys i) i d ≡ get_or ys i d
  over_at xs ys zero d h k = refl
  over_at [] ys (suc i) d h k = absurd (omega arith)
  over_at (x ∷ xs) [] (suc i) d h k = absurd (omega arith)
  over_at (x ∷ xs) (y ∷ ys) (suc i) d h k = over_at xs ys i d (omega arith) (omega arith)

  one_more : (xs : List A) (ys : List B) (i : ℕ) (d : A) → i < length xs → i < length ys → set (overwritten xs ys i) i (f (get_or xs i d)) ≡ overwritten xs ys (suc i)
  one_more [] ys i d h k = absurd (omega arith)
  one_more (x ∷ xs) [] i d h k = absurd (omega arith)
  one_more (x ∷ xs) (y ∷ ys) zero d h k = refl
  one_more (x ∷ xs) (y ∷ ys) (suc i) d h k = ap (λ l. f x ∷ l) (one_more xs ys i d (omega arith) (omega arith))

  pub over_turn : (xs : List A) (ys : List B) (i : ℕ) (d : A) → i < length xs → i < length ys → set (overwritten xs ys i) i (f (get_or xs i d)) ≡ overwritten xs ys (i + 1)
  over_turn xs ys i d h k = rw (add-one i) (one_more xs ys i d h k)

  pub over_end : (xs : List A) (ys : List B) (i : ℕ) → i ≡ length xs → overwritten xs ys i ≡ map f xs ++ drop (length xs) ys
  over_end xs ys i e = rw (e, take_all (length xs) xs (omega arith))

-- a list that is overwritten with f of its own elements
module _ {A : Type 0} (f : A → A) where
  pub self_turn : (xs : List A) (i : ℕ) (d : A) → i < length xs → set (overwritten f xs xs i) i (f (get_or (overwritten f xs xs i) i d)) ≡ overwritten f xs xs (i + 1)
  self_turn xs i d h = ap (λ x. set (overwritten f xs xs i) i (f x)) (over_at f xs xs i d h h) ∙ over_turn f xs xs i d h h

  pub self_end : (xs : List A) (i : ℕ) → i ≡ length xs → overwritten f xs xs i ≡ map f xs
  self_end xs i e = over_end f xs xs i e ∙ go xs
    where
      go : (l : List A) → map f l ++ drop (length l) l ≡ map f l
      go [] = refl
      go (x ∷ l) = ap (λ r. f x ∷ r) (go l)
