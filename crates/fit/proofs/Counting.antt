-- Counting with sums over the numbers below n, and how often a function takes a value below n.
-- Assumes nothing.
use Prim.Native.Nat.{ℕ, zero, suc, ◌+◌, ◌≤◌, ◌<◌, zero-le}
use mathlib.Core.Path.{◌≡◌, refl, sym, ap, ◌∙◌}
use mathlib.Core.Bool.{Bool, true, false, cond}
use mathlib.Core.List.{List, [], ◌∷◌, ◌++◌, map}
use native.Mathlib.Nat.{zero-add, add-zero, le_refl}
use native.Mathlib.Omega.{arith}
use native.Mathlib.Decide.{dec_lt, ℕ_discrete}
use borrow.Author.Tests.{lt-ltb, le-ltb, eq-eqb, ne_eqb}
use lib.Arith.{lt_of_le-ne}
use lib.Dec.{ltb, eqb}
use lib.ListN.{length}
use Rattle.fit.specs.Lists.{numbers, sum, select, occurs, Each}
use Rattle.fit.proofs.Lists.{sum_numbers, numbers_last, select_length}

-- how many of a list are below one number more
below_next : (n : ℕ) (l : List ℕ) → length (select (λ x. ltb x (suc n)) l) ≡ length (select (λ x. ltb x n) l) + occurs n l
unfolding select occurs
below_next n [] = refl
below_next n (x ∷ l) = by (dec_lt x n) (ℕ_discrete x n) (below_next n l)
  where
    by : Dec (x < n) → Dec (x ≡ n) → length (select (λ x. ltb x (suc n)) l) ≡ length (select (λ x. ltb x n) l) + occurs n l → length (select (λ x. ltb x (suc n)) (x ∷ l)) ≡ length (select (λ x. ltb x n) (x ∷ l)) + occurs n (x ∷ l)
    by (yes a) b e = rw (lt-ltb x n a, lt-ltb x (suc n) (omega arith), ne_eqb x n (λ z. omega arith)) (omega arith)
    by (no a) (yes b) e = rw (le-ltb x n (omega arith), lt-ltb x (suc n) (omega arith), eq-eqb x n b) (omega arith)
    by (no a) (no b) e =
        let c : n < x = lt_of_le-ne (omega arith) (λ z. b (sym z)) in
        rw (le-ltb x n (omega arith), le-ltb x (suc n) (omega arith), ne_eqb x n b) e

none_below : (l : List ℕ) → length (select (λ x. ltb x 0) l) ≡ 0
unfolding select
none_below [] = refl
none_below (x ∷ l) = rw (le-ltb x 0 zero-le) (none_below l)

-- Added up over the numbers below n, how often each stands in a list is how many of the list are below n.
pub sum_occurs : (l : List ℕ) (n : ℕ) → sum (λ i. occurs i l) (numbers 0 n) ≡ length (select (λ x. ltb x n) l)
unfolding sum numbers
sum_occurs l zero = sym (none_below l)
sum_occurs l (suc n) = sum_numbers (λ i. occurs i l) 0 n ∙ rw (zero-add n, sum_occurs l n) (sym (below_next n l))

-- n ones add up to n; n numbers of at most one add up to at most n, and to n only where each is one
module _ (f : ℕ → ℕ) where
  pub sum_ones : (n : ℕ) → ((i : ℕ) → i < n → f i ≡ 1) → sum f (numbers 0 n) ≡ n
  unfolding sum numbers
  sum_ones zero h = refl
  sum_ones (suc n) h =
      let a : f (0 + n) ≡ 1 = rw (zero-add n) (h n (omega arith)) in
      omega (arith, sum_numbers f 0 n, sum_ones n (λ i l. h i (omega arith)), a)

  sum_most : (n : ℕ) → ((i : ℕ) → i < n → f i ≤ 1) → sum f (numbers 0 n) ≤ n
  unfolding sum numbers
  sum_most zero h = zero-le
  sum_most (suc n) h =
      let a : f (0 + n) ≤ 1 = rw (zero-add n) (h n (omega arith)) in
      omega (arith, sum_numbers f 0 n, sum_most n (λ i l. h i (omega arith)), a)

  pub ones_sum : (n : ℕ) → ((i : ℕ) → i < n → f i ≤ 1) → sum f (numbers 0 n) ≡ n → (i : ℕ) → i < n → f i ≡ 1
  ones_sum zero h e i l = absurd (omega arith)
  ones_sum (suc n) h e i l = by (ℕ_discrete i n) (ones_sum n low)
    where
      low : (i : ℕ) → i < n → f i ≤ 1
      low i l = h i (omega arith)

      last : f n ≤ 1
      last = h n (omega arith)

      next : sum f (numbers 0 n) + f n ≡ suc n
      next = sym (ap (λ m. sum f (numbers 0 n) + f m) (zero-add n)) ∙ sym (sum_numbers f 0 n) ∙ e

      by : Dec (i ≡ n) → (sum f (numbers 0 n) ≡ n → (i : ℕ) → i < n → f i ≡ 1) → f i ≡ 1
      by (yes z) rec = rw z (omega (arith, next, last, sum_most n low))
      by (no z) rec = rec (omega (arith, next, last, sum_most n low)) i (lt_of_le-ne (omega arith) z)

-- where as many pass a test as there are, each passes
pub all_selected : (q : ℕ → Bool) (l : List ℕ) → length (select q l) ≡ length l → Each (λ x. q x ≡ true) l
unfolding select Each
all_selected q [] e = tt
all_selected q (x ∷ l) e = by (q x) refl e (all_selected q l)
  where
    by : (b : Bool) → q x ≡ b → length (cond b (x ∷ select q l) (select q l)) ≡ suc (length l) → (length (select q l) ≡ length l → Each (λ x. q x ≡ true) l) → (q x ≡ true) × Each (λ x. q x ≡ true) l
    by true t e rec = (t, rec (omega arith))
    by false t e rec = absurd (omega (arith, select_length q l))

-- what each of a list of values has, each value has, and back
pub each_value : (P : ℕ → Type 0) (f : ℕ → ℕ) (a n : ℕ) → Each P (map f (numbers a n)) → (i : ℕ) → a ≤ i → i < a + n → P (f i)
unfolding Each numbers
each_value P f a zero h i l m = absurd (omega arith)
each_value P f a (suc n) h i l m = by (ℕ_discrete i a) (each_value P f (suc a) n h.1 i)
  where
    by : Dec (i ≡ a) → (suc a ≤ i → i < suc a + n → P (f i)) → P (f i)
    by (yes z) rec = rw z h.0
    by (no z) rec = rec (lt_of_le-ne l (λ w. z (sym w))) (omega arith)

pub value_each : (P : ℕ → Type 0) (f : ℕ → ℕ) (a n : ℕ) → ((i : ℕ) → a ≤ i → i < a + n → P (f i)) → Each P (map f (numbers a n))
unfolding Each numbers
value_each P f a zero h = tt
value_each P f a (suc n) h = (h a (omega arith) (omega arith), value_each P f (suc a) n (λ i l m. h i (omega arith) (omega arith)))

-- a list with one more at its end
occurs_last : (f : ℕ → ℕ) (x y : ℕ) (l : List ℕ) → occurs x (map f (l ++ y ∷ [])) ≡ occurs x (map f l) + cond (eqb (f y) x) 1 0
unfolding occurs
occurs_last f x y [] = by (eqb (f y) x)
  where
    by : (b : Bool) → ◌≡◌ {A = ℕ} (cond b (0 + 1) 0) (0 + cond b 1 0)
    by true = refl
    by false = refl
occurs_last f x y (z ∷ l) = by (eqb (f z) x) (occurs_last f x y l)
  where
    by : (b : Bool) → occurs x (map f (l ++ y ∷ [])) ≡ occurs x (map f l) + cond (eqb (f y) x) 1 0 → cond b (occurs x (map f (l ++ y ∷ [])) + 1) (occurs x (map f (l ++ y ∷ []))) ≡ cond b (occurs x (map f l) + 1) (occurs x (map f l)) + cond (eqb (f y) x) 1 0
    by true e = omega arith
    by false e = e

-- how often f takes the value x below n
abbrev pub times : (ℕ → ℕ) → ℕ → ℕ → ℕ
times f x n = occurs x (map f (numbers 0 n))

module _ (f : ℕ → ℕ) where
  times_next : (x n : ℕ) → times f x (suc n) ≡ times f x n + cond (eqb (f n) x) 1 0
  times_next x n = rw (numbers_last 0 n, zero-add n) (occurs_last f x n (numbers 0 n))

  pub times_hit : (x n : ℕ) → f n ≡ x → times f x (suc n) ≡ times f x n + 1
  times_hit x n e = times_next x n ∙ rw (eq-eqb (f n) x e)

  pub times_miss : (x n : ℕ) → (f n ≡ x → ⊥) → times f x (suc n) ≡ times f x n
  times_miss x n e = times_next x n ∙ rw (ne_eqb (f n) x e) (add-zero _)

  pub times_rise : (x m n : ℕ) → m ≤ n → times f x m ≤ times f x n
  times_rise x m zero h = let z : m ≡ 0 = omega arith in rw z (le_refl _)
  times_rise x m (suc n) h = by (ℕ_discrete m (suc n)) (times_rise x m n)
    where
      by : Dec (m ≡ suc n) → (m ≤ n → times f x m ≤ times f x n) → times f x m ≤ times f x (suc n)
      by (yes z) rec = rw z (le_refl _)
      by (no z) rec =
          let l : m < suc n = lt_of_le-ne h z in
          omega (arith, rec (omega arith), times_next x n)

  -- a value that is taken, and one that is taken twice
  pub times_at : (x n i : ℕ) → i < n → f i ≡ x → 1 ≤ times f x n
  times_at x n i h e = omega (arith, times_hit x i e, times_rise x (suc i) n h)

  pub times_twice : (x n i j : ℕ) → i < j → j < n → f i ≡ x → f j ≡ x → 2 ≤ times f x n
  times_twice x n i j l h e k = omega (arith, times_at x j i l e, times_hit x j k, times_rise x (suc j) n h)

  -- a value that is taken is taken somewhere, and one that is taken twice at two places
  pub at_times : (x n : ℕ) → 1 ≤ times f x n → (i : ℕ) × (i < n) × (f i ≡ x)
  unfolding occurs numbers
  at_times x zero h = absurd (omega arith)
  at_times x (suc n) h = by (ℕ_discrete (f n) x) (at_times x n)
    where
      by : Dec (f n ≡ x) → (1 ≤ times f x n → (i : ℕ) × (i < n) × (f i ≡ x)) → (i : ℕ) × (i < suc n) × (f i ≡ x)
      by (yes z) rec = (n, omega arith, z)
      by (no z) rec = let r = rec (omega (arith, h, times_miss x n z)) in (r.0, omega (arith, r.1), r.2)

  pub twice_times : (x n : ℕ) → 2 ≤ times f x n → (i : ℕ) × (j : ℕ) × (i < j) × (j < n) × (f i ≡ x) × (f j ≡ x)
  unfolding occurs numbers
  twice_times x zero h = absurd (omega arith)
  twice_times x (suc n) h = by (ℕ_discrete (f n) x) (twice_times x n)
    where
      by : Dec (f n ≡ x) → (2 ≤ times f x n → (i : ℕ) × (j : ℕ) × (i < j) × (j < n) × (f i ≡ x) × (f j ≡ x)) → (i : ℕ) × (j : ℕ) × (i < j) × (j < suc n) × (f i ≡ x) × (f j ≡ x)
      by (yes z) rec = let r = at_times x n (omega (arith, h, times_hit x n z)) in (r.0, n, r.1, omega arith, r.2, z)
      by (no z) rec = let r = rec (omega (arith, h, times_miss x n z)) in (r.0, r.1, r.2, omega (arith, r.3), r.4, r.5)
