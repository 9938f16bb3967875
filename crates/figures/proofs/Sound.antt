-- What Sr on a base b gives, and DCT with b = 2: every task accelerated, factors in a chain from 1, divisor and factors below b × 60,000;
-- and when figures are in range.
-- Assumes nothing.
use Prim.Native.Nat.{ℕ, zero, suc, ◌*◌, ◌≤◌, ◌<◌}
use mathlib.Core.Path.{◌≡◌, refl, ap, ◌∙◌}
use mathlib.Core.Bool.{true, ◌&&◌}
use mathlib.Core.List.{List, [], ◌∷◌}
use native.Mathlib.Nat.{mul-zero, mul-suc, mul_comm, mul_left_comm, mul-le-mul_left, mul-lt-mul_of_pos_left, lt_of_mul-lt-mul_left, mul-le-mul_right, le_trans, le_of_lt, lt_of_lt_of_le, le_refl}
use native.Mathlib.Omega.{arith}
use borrow.Author.Tests.{le-leb, leb-true}
use lib.ListN.{length}
use lib.Dec.{leb}
use Rattle.sheet.proofs.Ranges.{both}
use Rattle.fit.specs.Lists.{at}
use Rattle.fit.specs.Fits.{Multiple}
use Rattle.figures.specs.Constructions.{Acceleration}
use Rattle.figures.specs.Meaning.{SortedPeriods, Factors, Sound}
use Rattle.figures.specs.Passing.{at_most, in_range, sorted_periods}

pub sorted_test : (a : ℕ) (ps : List ℕ) → sorted_periods a ps ≡ true → SortedPeriods a ps
unfolding sorted_periods SortedPeriods
sorted_test a [] h = tt
sorted_test a (p ∷ ps) h =
    let (x, y) = both (leb a p && leb p 60000) (sorted_periods p ps) h in
    let (u, v) = both (leb a p) (leb p 60000) x in
    (leb-true a p u, leb-true p 60000 v, sorted_test p ps y)

-- no period is below one before it
pub sorted_at : (a : ℕ) (ps : List ℕ) → SortedPeriods a ps → (i : ℕ) → i < length ps → (a ≤ at ps i) × (at ps i ≤ 60000)
unfolding SortedPeriods
sorted_at a [] h i q = absurd (omega arith)
sorted_at a (p ∷ ps) h zero q = (h.0, h.1)
sorted_at a (p ∷ ps) h (suc i) q = let r = sorted_at p ps h.2 i (omega arith) in (le_trans h.0 r.0, r.1)

pub sorted_pair : (a : ℕ) (ps : List ℕ) → SortedPeriods a ps → (i j : ℕ) → i ≤ j → j < length ps → at ps i ≤ at ps j
unfolding SortedPeriods
sorted_pair a [] h i j q r = absurd (omega arith)
sorted_pair a (p ∷ ps) h zero zero q r = le_refl p
sorted_pair a (p ∷ ps) h zero (suc j) q r = (sorted_at p ps h.2 j (omega arith)).0
sorted_pair a (p ∷ ps) h (suc i) zero q r = absurd (omega arith)
sorted_pair a (p ∷ ps) h (suc i) (suc j) q r = sorted_pair p ps h.2 i j (omega arith) (omega arith)

pub factors_length : (Q D d : ℕ) (ps ms : List ℕ) → Factors Q D d ps ms → length ms ≡ length ps
unfolding Factors
factors_length Q D d [] [] h = refl
factors_length Q D d (p ∷ ps) (m ∷ ms) h = ap suc (factors_length Q D m ps ms h.1)
factors_length Q D d [] (m ∷ ms) h = elim h [ ]
factors_length Q D d (p ∷ ps) [] h = elim h [ ]

pub factors_at : (Q D d : ℕ) (ps ms : List ℕ) → Factors Q D d ps ms → (i : ℕ) → i < length ps → (Q * at ms i ≤ at ps i * D) × (0 < at ms i)
unfolding Factors
factors_at Q D d [] [] h i q = absurd (omega arith)
factors_at Q D d (p ∷ ps) (m ∷ ms) h zero q = (h.0.accelerated, h.0.positive)
factors_at Q D d (p ∷ ps) (m ∷ ms) h (suc i) q = factors_at Q D m ps ms h.1 i (omega arith)
factors_at Q D d [] (m ∷ ms) h i q = elim h [ ]
factors_at Q D d (p ∷ ps) [] h i q = elim h [ ]

-- no factor is below one before it
multiple_low : (d m : ℕ) → Multiple d m → 0 < m → d ≤ m
unfolding Multiple
multiple_low d m (zero, e) h = absurd (omega (arith, mul-zero d))
multiple_low d m (suc c, e) h = omega (arith, mul-suc d c)

module _ (Q D : ℕ) where
  factors_low : (d : ℕ) (ps ms : List ℕ) → Factors Q D d ps ms → (i : ℕ) → i < length ps → d ≤ at ms i
  unfolding Factors
  factors_low d [] [] h i q = absurd (omega arith)
  factors_low d (p ∷ ps) (m ∷ ms) h zero q = multiple_low d m h.0.multiple h.0.positive
  factors_low d (p ∷ ps) (m ∷ ms) h (suc i) q = le_trans (multiple_low d m h.0.multiple h.0.positive) (factors_low m ps ms h.1 i (omega arith))
  factors_low d [] (m ∷ ms) h i q = elim h [ ]
  factors_low d (p ∷ ps) [] h i q = elim h [ ]

  pub factors_rise : (d : ℕ) (ps ms : List ℕ) → Factors Q D d ps ms → (i j : ℕ) → i ≤ j → j < length ps → at ms i ≤ at ms j
  unfolding Factors
  factors_rise d [] [] h i j q r = absurd (omega arith)
  factors_rise d (p ∷ ps) (m ∷ ms) h zero zero q r = le_refl m
  factors_rise d (p ∷ ps) (m ∷ ms) h zero (suc j) q r = factors_low m ps ms h.1 j (omega arith)
  factors_rise d (p ∷ ps) (m ∷ ms) h (suc i) zero q r = absurd (omega arith)
  factors_rise d (p ∷ ps) (m ∷ ms) h (suc i) (suc j) q r = factors_rise m ps ms h.1 i j (omega arith) (omega arith)
  factors_rise d [] (m ∷ ms) h i j q r = elim h [ ]
  factors_rise d (p ∷ ps) [] h i j q r = elim h [ ]

-- an accelerated factor is below b times its period
factor_bound : (b Q D p m : ℕ) → 0 < p → D < b * Q → Q * m ≤ p * D → m < b * p
factor_bound b Q D p m pos d h =
    let more : p * D < p * (b * Q) = mul-lt-mul_of_pos_left d pos in
    let turned : p * (b * Q) ≡ Q * (b * p) = mul_left_comm p b Q ∙ ap (λ x. b * x) (mul_comm p Q) ∙ mul_left_comm b Q p in
    lt_of_mul-lt-mul_left Q (omega arith)

-- divisor and factors are below b × 60,000
pub divisor_bound : (b : ℕ) (ps : List ℕ) (a : Acceleration) → Sound b ps a → a.D < b * 60000
divisor_bound b ps a s = lt_of_lt_of_le s.divisor.1 (mul-le-mul_left b s.pivot.1)

pub factors_bound : (b : ℕ) (ps : List ℕ) (a : Acceleration) → SortedPeriods 1 ps → Sound b ps a → (i : ℕ) → i < length ps → at a.factors i < b * 60000
factors_bound b ps a r s i q =
    let (low, high) = sorted_at 1 ps r i q in
    let own : at a.factors i < b * at ps i = factor_bound b a.Q a.D (at ps i) (at a.factors i) low s.divisor.1 (factors_at a.Q a.D 1 ps a.factors s.factors i q).0 in
    lt_of_lt_of_le own (mul-le-mul_left b high)

-- what is sound on a base is sound on a larger one
pub sound_wider : (b c : ℕ) (ps : List ℕ) (a : Acceleration) → b ≤ c → Sound b ps a → Sound c ps a
sound_wider b c ps a h s = record { pivot = s.pivot; divisor = (s.divisor.0, lt_of_lt_of_le s.divisor.1 (mul-le-mul_right a.Q h)); one = s.one; factors = s.factors }

-- each of a list is at most b, as a test and by place
pub at_most_lem : (b : ℕ) (l : List ℕ) → ((i : ℕ) → i < length l → at l i ≤ b) → at_most b l ≡ true
unfolding at_most
at_most_lem b [] f = refl
at_most_lem b (x ∷ l) f = rw (le-leb x b (f 0 (omega arith))) (at_most_lem b l (λ i h. f (suc i) (omega arith)))

pub at_most_at : (b : ℕ) (l : List ℕ) → at_most b l ≡ true → (i : ℕ) → i < length l → at l i ≤ b
unfolding at_most
at_most_at b [] h i q = absurd (omega arith)
at_most_at b (x ∷ l) h zero q = leb-true x b (both (leb x b) (at_most b l) h).0
at_most_at b (x ∷ l) h (suc i) q = at_most_at b l (both (leb x b) (at_most b l) h).1 i (omega arith)

-- in range is the divisor and each factor at most 120,000
module _ (a : Acceleration) where
  pub in_range_lem : a.D ≤ 120000 → ((i : ℕ) → i < length a.factors → at a.factors i ≤ 120000) → in_range a ≡ true
  unfolding in_range at_most
  in_range_lem d f = rw (le-leb a.D 120000 d) (at_most_lem 120000 a.factors f)

  pub range_divisor : in_range a ≡ true → a.D ≤ 120000
  unfolding in_range
  range_divisor h = at_most_at 120000 (a.D ∷ a.factors) h 0 (omega arith)

  pub range_factors : in_range a ≡ true → (i : ℕ) → i < length a.factors → at a.factors i ≤ 120000
  unfolding in_range
  range_factors h i q = at_most_at 120000 (a.D ∷ a.factors) h (suc i) (omega arith)

-- what is sound on base 2 is in range
pub two_in_range : (ps : List ℕ) (a : Acceleration) → SortedPeriods 1 ps → Sound 2 ps a → in_range a ≡ true
two_in_range ps a r s =
    in_range_lem a (le_of_lt (divisor_bound 2 ps a s)) (λ i h. le_of_lt (factors_bound 2 ps a r s i (rw (factors_length a.Q a.D 1 ps a.factors s.factors) at h)))
