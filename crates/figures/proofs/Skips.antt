-- When a figure of Sr on base 3 is above 120,000, and that such a pivot would not pass.
-- Assumes nothing.
use Prim.Native.Nat.{ℕ, suc, ◌+◌, ◌-◌, ◌*◌, ◌/◌, ◌^◌, ◌≤◌, ◌<◌}
use mathlib.Core.Path.{◌≡◌, refl, sym, ap, ◌∙◌}
use mathlib.Core.Bool.{Bool, true, false, cond, true≢false}
use Rattle.std.specs.Prelude.{Some}
use mathlib.Core.List.{List, [], ◌∷◌, ◌++◌}
use native.Mathlib.Nat.{mul_comm, mul-le-mul, mul-le-mul_right, mul-lt-mul_of_pos_left, le_of_mul-le-mul_left, le_trans, div-one}
use native.Mathlib.Decide.{dec_le}
use native.Mathlib.Omega.{arith}
use borrow.Author.Tests.{lt-ltb}
use lib.ListN.{length}
use Rattle.fit.specs.Lists.{numbers, sum, select, Each, at}
use Rattle.fit.specs.Fits.{last_factor, load, overloaded}
use Rattle.figures.specs.Constructions.{Acceleration, Power, sr, dct}
use Rattle.figures.specs.Meaning.{SortedPeriods, Sound}
use Rattle.figures.specs.Passing.{passes, first, each_pivot, in_range, trials, task_set}
use Rattle.figures.proofs.Powers.{power_mono}
use Rattle.figures.proofs.Sound.{sorted_at, sorted_pair, factors_length, factors_at, divisor_bound, factors_bound, in_range_lem}
use Rattle.figures.proofs.SrLaws.{sr_sound, sr_first, sr_first_factor, sr_multiplier}
use Rattle.figures.proofs.LoadLoop.{last_place}
use Rattle.figures.proofs.Passing.{each_pivot_lem}
use Rattle.figures.proofs.Rounds.{even, set_sorted}

-- the only power of three from 120,000 to 180,000
power_of_three : (m : ℕ) → Power 3 m → 120000 < m → m < 180000 → m ≡ 177147
unfolding Power
power_of_three m (k, e) low high = by (dec_le k 10) (dec_le 12 k)
  where
    by : Dec (k ≤ 10) → Dec (12 ≤ k) → m ≡ 177147
    by (yes h) x = absurd (let small : 3 ^ k ≤ 59049 = power_mono 3 (omega arith) h in omega arith)
    by (no h) (yes x) = absurd (let large : 531441 ≤ 3 ^ k = power_mono 3 (omega arith) x in omega arith)
    by (no h) (no x) = let eleven : k ≡ 11 = omega arith in e ∙ ap (λ (t : ℕ). 3 ^ t) eleven

module _ (ps : List ℕ) (i : ℕ) (r : SortedPeriods 1 ps) (h : i < length ps) where
  sound : Sound 3 ps (sr 3 ps i)
  sound = sr_sound 3 (omega arith) ps i r h

  last_longest : (k : ℕ) → k < length ps → at ps k ≤ at ps (length ps - 1)
  last_longest k g = sorted_pair 1 ps r k (length ps - 1) (omega arith) (omega arith)

  -- such a figure for period p sets the first period far below p
  apart : (m p : ℕ) → Power 3 m → m < 180000 → at ps 0 * m < 3 * p → 120000 < m → 59049 * at ps 0 < p
  apart m p power small below large =
      let same : m ≡ 177147 = power_of_three m power large small in
      let times : at ps 0 * 177147 < 3 * p = rw same at below in
      omega arith

  -- a pivot on base 3 is skipped only where the last period is above 59,049 times the first, so only where the first is 1
  pub skipped_apart : in_range (sr 3 ps i) ≡ false → 59049 * at ps 0 < at ps (length ps - 1)
  unfolding sr
  skipped_apart out = by (dec_le (at ps (length ps - 1)) (59049 * at ps 0))
    where
      by : Dec (at ps (length ps - 1) ≤ 59049 * at ps 0) → 59049 * at ps 0 < at ps (length ps - 1)
      by (no x) = omega arith
      by (yes x) = absurd (true≢false (sym (in_range_lem (sr 3 ps i) (divisor (dec_le (sr 3 ps i).D 120000)) (λ k g. factor k (rw (factors_length _ _ 1 ps _ sound.factors) at g) (dec_le (at (sr 3 ps i).factors k) 120000))) ∙ out))
        where
          near : (m p : ℕ) → p ≤ at ps (length ps - 1) → Power 3 m → m < 180000 → at ps 0 * m < 3 * p → Dec (m ≤ 120000) → m ≤ 120000
          near m p le power small below (yes t) = t
          near m p le power small below (no t) = absurd (omega (arith, apart m p power small below (omega arith)))

          divisor : Dec ((sr 3 ps i).D ≤ 120000) → (sr 3 ps i).D ≤ 120000
          divisor t = near (sr 3 ps i).D (sr 3 ps i).Q (last_longest i h) (sr_multiplier 3 (omega arith) ps i r h i h).divisor (divisor_bound 3 ps _ sound) (sr_first 3 (omega arith) ps i r h) t

          factor : (k : ℕ) → k < length ps → Dec (at (sr 3 ps i).factors k ≤ 120000) → at (sr 3 ps i).factors k ≤ 120000
          factor k g t = near _ (at ps k) (last_longest k g) (sr_multiplier 3 (omega arith) ps i r h k g).factor (factors_bound 3 ps _ r sound k g) (sr_first_factor 3 (omega arith) ps i r h k g) t

  pub skipped_first : in_range (sr 3 ps i) ≡ false → at ps 0 ≡ 1
  skipped_first out = omega (arith, skipped_apart out, sorted_at 1 ps r 0 (omega arith), sorted_at 1 ps r (length ps - 1) (omega arith))

-- where the divisor or a factor is above 120,000, the pivot is below the divisor: the first accelerated period is below 1
pivot_below : (b : ℕ) (ps : List ℕ) (a : Acceleration) → SortedPeriods 1 ps → Sound b ps a → in_range a ≡ false → a.Q < a.D
pivot_below b ps a r s out = by (dec_le a.D a.Q)
  where
    factor : a.D ≤ a.Q → (k : ℕ) → k < length a.factors → at a.factors k ≤ 120000
    factor x k g =
        let inside : k < length ps = rw (factors_length _ _ 1 ps _ s.factors) at g in
        let fit : a.Q * at a.factors k ≤ at ps k * a.D = (factors_at _ _ 1 ps _ s.factors k inside).0 in
        let most : at ps k * a.D ≤ 60000 * a.Q = mul-le-mul (sorted_at 1 ps r k inside).1 x in
        let cut : at a.factors k ≤ 60000 = le_of_mul-le-mul_left {k = a.Q} (rw (mul_comm a.Q 60000) (le_trans fit most)) s.pivot.0 in
        omega arith

    by : Dec (a.D ≤ a.Q) → a.Q < a.D
    by (yes x) = absurd (true≢false (sym (in_range_lem a (omega (arith, s.pivot)) (factor x)) ∙ out))
    by (no x) = omega arith

-- so with budgets of at least 1 what is out of range does not pass
pub skipped_fails : (b : ℕ) (ps es : List ℕ) (a : Acceleration) → SortedPeriods 1 ps → Sound b ps a → 0 < length ps → length ps ≡ length es → Each (λ e. 1 ≤ e) es → in_range a ≡ false → passes es a ≡ false
unfolding passes overloaded load sum numbers Each
skipped_fails b ps [] a r s any n h out = absurd (omega (arith, n))
skipped_fails b ps (e ∷ es) a r s any n h out =
    let L : ℕ = last_factor (at a.factors) 1 (numbers 0 (suc (length es))) in
    let last : L ≡ at a.factors (0 + length es) = last_place (at a.factors) 1 0 (length es) in
    let positive : 0 < L = rw last (factors_at _ _ 1 ps _ s.factors (0 + length es) (omega (arith, n))).1 in
    let own : 1 * a.D ≤ e * a.D = mul-le-mul_right a.D h.0 in
    let more : L * a.Q < L * (e * a.D) = mul-lt-mul_of_pos_left (omega (arith, pivot_below b ps a r s out)) positive in
    let alone : a.Q * L < e * a.D * (L / at a.factors 0) = rw (s.one, div-one L) (omega (arith, mul_comm L a.Q, mul_comm L (e * a.D))) in
    let rest : ℕ = sum (λ k. at (e ∷ es) k * a.D * (L / at a.factors k)) (numbers 1 (length es)) in
    let over : a.Q * L < e * a.D * (L / at a.factors 0) + rest = omega (arith, alone) in
    rw (lt-ltb (a.Q * L) _ over)

-- the first that passes is the same with those in range and with all, where only those in range can pass; also with other trials around
module _ (es : List ℕ) where
  first_rest : (xs ys zs : List Acceleration) → first es ys ≡ first es zs → first es (xs ++ ys) ≡ first es (xs ++ zs)
  unfolding first
  first_rest [] ys zs h = h
  first_rest (x ∷ xs) ys zs h = ap (λ t. cond (passes es x) (Some x) t) (first_rest xs ys zs h)

  first_all : (l ys : List Acceleration) → Each (λ a. in_range a ≡ false → passes es a ≡ false) l → first es (select in_range l ++ ys) ≡ first es (l ++ ys)
  unfolding Each first select
  first_all [] ys h = refl
  first_all (x ∷ l) ys h = by (in_range x) refl (first_all l ys h.1)
    where
      by : (t : Bool) → in_range x ≡ t → first es (select in_range l ++ ys) ≡ first es (l ++ ys) → first es (cond t (x ∷ select in_range l) (select in_range l) ++ ys) ≡ cond (passes es x) (Some x) (first es (l ++ ys))
      by true e g = ap (λ t. cond (passes es x) (Some x) t) g
      by false e g = rw (h.0 e) g

-- with budgets of at least 1 the skip changes no answer
pub skip_unseen : (ps es : List ℕ) → task_set ps es ≡ true → Each (λ e. 1 ≤ e) es → first es (trials ps) ≡ first es (each_pivot (sr 2) ps ++ (each_pivot (sr 3) ps ++ each_pivot dct ps))
unfolding trials
skip_unseen ps es set h =
    first_rest es (each_pivot (sr 2) ps) _ _
    (first_all es (each_pivot (sr 3) ps) (each_pivot dct ps)
    (each_pivot_lem (λ a. in_range a ≡ false → passes es a ≡ false) (sr 3) ps (λ i k out. fails i k (set_sorted ps es set i k) out)))
  where
    fails : (i : ℕ) → i < length ps → SortedPeriods 1 ps → in_range (sr 3 ps i) ≡ false → passes es (sr 3 ps i) ≡ false
    fails i k r out = skipped_fails 3 ps es (sr 3 ps i) r (sr_sound 3 (omega arith) ps i r k) (omega arith) (even ps es set) h out
