-- The divisors and factors of DCT, step by step as the code goes.
-- Assumes nothing.
use Prim.Native.Nat.{ℕ, zero, suc, ◌+◌, ◌-◌, ◌*◌, ◌/◌, ◌≤◌, ◌<◌}
use mathlib.Core.Path.{◌≡◌, refl, sym, ap, ap₂, subst, ◌∙◌}
use mathlib.Core.List.{List, [], ◌∷◌, ◌++◌, map}
use native.Mathlib.Nat.{suc-sub-suc, sub-zero, le_of_lt}
use native.Mathlib.Numerals.{add-one}
use native.Mathlib.Omega.{arith}
use lib.ListN.{length, take, drop, set, replicate, length-take, length-set, drop_of_length-le, length-map}
use lib.Seq.{drop-cons, get_or-take, length-take-le, split_at, take_at}
use mir.Syntax.{w32}
use mir.Val.{Fits}
use Rattle.fit.specs.Lists.{at, padded}
use Rattle.figures.specs.Constructions.{down, downs, dct}
use Rattle.figures.specs.Meaning.{SortedPeriods, DctPeriods, Sound}
use Rattle.figures.specs.Answers.{written}
use Rattle.figures.proofs.Lists.{at_map}
use Rattle.figures.proofs.Sound.{divisor_bound, factors_at, factors_bound, factors_length}
use Rattle.figures.proofs.Ranges.{Ready, periods, pivot_low, pivot_high, period_low, period_high}
use Rattle.figures.proofs.DctLaws.{dct_sound, dct_periods, down_positive, down_bound, downs_length, downs_positive}
use Rattle.fit.proofs.Lists.{at_padded, padded_length}
use Rattle.fit.proofs.Filling.{Filled, filled_start, filled_turn, filled_end}

-- the divisors from place i to the pivot are in the array, and d is the first of them
pub record DownLoop (ps : List ℕ) (c q : ℕ) (array : List ℕ) (d i : ℕ) : Type 0 where
  pub ready : Ready ps c
  pub pivot : q ≡ at ps c
  pub divisor : d ≡ at (downs q (drop i (take c ps))) 0
  pub low : 1 ≤ d
  pub high : d < 2 * q
  pub size : length array ≡ 64
  pub same : array ≡ replicate i 0 ++ (downs q (drop i (take c ps)) ++ replicate (64 - suc c) 0)

-- the last of the zeros before the rest is replaced
last_zero : (j v : ℕ) (rest : List ℕ) → set (replicate (suc j) 0 ++ rest) j v ≡ replicate j 0 ++ v ∷ rest
last_zero zero v rest = refl
last_zero (suc j) v rest = ap (λ (t : List ℕ). 0 ∷ t) (last_zero j v rest)

-- one of the zeros is replaced
one_place : (n c v : ℕ) → c < n → set (replicate n 0) c v ≡ replicate c 0 ++ v ∷ replicate (n - suc c) 0
one_place zero c v h = absurd (omega arith)
one_place (suc n) zero v h = rw (suc-sub-suc n 0, sub-zero n)
one_place (suc n) (suc c) v h = rw (suc-sub-suc n (suc c)) (ap (λ (t : List ℕ). 0 ∷ t) (one_place n c v (omega arith)))

pub down_start : (ps : List ℕ) (c q : ℕ) → Ready ps c → q ≡ at ps c → DownLoop ps c q (set (replicate 64 0) c 1) 1 c
unfolding downs
down_start ps c q r e =
    let none : drop c (take c ps) ≡ [] = drop_of_length-le (take c ps) {i = c} (simp length-take (omega arith)) in
    record {
      ready = r;
      pivot = e;
      divisor = rw none;
      low = omega arith;
      high = omega (arith, pivot_low ps c r q e);
      size = length-set (replicate {A = ℕ} 64 0) c 1;
      same = rw none (one_place 64 c 1 (omega (arith, r.inside, r.size)));
    }

module _ (ps : List ℕ) (c q d i : ℕ) (array : List ℕ) (s : DownLoop ps c q array d i) where
  pub divisor_high : d ≤ 120000
  divisor_high = omega (arith, s.high, pivot_high ps c s.ready q s.pivot)

  pub down_end : i ≤ 0 → array ≡ padded (downs (at ps c) (take c ps))
  unfolding padded
  down_end h = by i s h
    where
      by : (i : ℕ) → DownLoop ps c q array d i → i ≤ 0 → array ≡ downs (at ps c) (take c ps) ++ replicate (64 - length (downs (at ps c) (take c ps))) 0
      by zero t z =
          let n : 64 - length (downs (at ps c) (take c ps)) ≡ 64 - suc c = omega (arith, downs_length (at ps c) ps (take c ps), length-take-le c ps (omega (arith, t.ready.inside))) in
          rw (n, ← t.pivot) t.same
      by (suc i) t z = absurd (omega arith)

  module _ (x : ℕ) (h : 0 < i) (l : i ≤ c) (e : x ≡ at ps (i - 1)) where
    inside : i - 1 < length ps
    inside = omega (arith, s.ready.inside)

    pub down_low : 1 ≤ x
    down_low = period_low ps c s.ready x (i - 1) inside e

    pub down_high : x ≤ 60000
    down_high = period_high ps c s.ready x (i - 1) inside e

    module _ (v : ℕ) (g : v ≡ down q x d) where
      next_low : 1 ≤ v
      next_low = rw g (down_positive q x d (pivot_low ps c s.ready q s.pivot) down_low s.low)

      next_high : v < 2 * q
      next_high = rw g (down_bound q x d (pivot_low ps c s.ready q s.pivot) down_low s.low s.high)

      pub down_fits : Fits w32 v
      down_fits = record { fits = omega (arith, next_high, pivot_high ps c s.ready q s.pivot) }

      pub down_turn : DownLoop ps c q (set array (i - 1) v) v (i - 1)
      unfolding downs
      down_turn = by i s h l e g next_low next_high
        where
          by : (i : ℕ) → DownLoop ps c q array d i → 0 < i → i ≤ c → x ≡ at ps (i - 1) → v ≡ down q x d → 1 ≤ v → v < 2 * q → DownLoop ps c q (set array (i - 1) v) v (i - 1)
          by zero t h l e g low high = absurd (omega arith)
          by (suc j) t h l e g low high =
              let back : suc j - 1 ≡ j = omega arith in
              let place : x ≡ at (take c ps) j = e ∙ rw back (sym (get_or-take c ps j 0 (omega arith))) in
              let long : length (take c ps) ≡ c = length-take-le c ps (omega (arith, t.ready.inside)) in
              let more : drop j (take c ps) ≡ x ∷ drop (suc j) (take c ps) = drop-cons (take c ps) j 0 (omega arith) ∙ ap (λ y. y ∷ drop (suc j) (take c ps)) (sym place) in
              let own : v ≡ down q x (at (downs q (drop (suc j) (take c ps))) 0) = g ∙ ap (down q x) t.divisor in
              rw back
              (record {
                ready = t.ready;
                pivot = t.pivot;
                divisor = rw more own;
                low = low;
                high = high;
                size = length-set array j v ∙ t.size;
                same = rw (more, ← own) (ap (λ y. set y j v) t.same ∙ last_zero j v (downs q (drop (suc j) (take c ps)) ++ replicate (64 - suc c) 0));
              })

-- the first i of the factors up to the pivot's are in the array
pub record LowerLoop (ds : List ℕ) (c d : ℕ) (array : List ℕ) (i : ℕ) : Type 0 where
  pub first : d ≡ at ds 0
  pub filled : Filled (map (λ x. at ds 0 / x) (take (c + 1) ds)) i array

pub lower_start : (ds : List ℕ) (c : ℕ) → LowerLoop ds c (at ds 0) (replicate 64 0) 0
lower_start ds c = record { first = refl; filled = filled_start _ }

module _ (ds : List ℕ) (c d i : ℕ) (array : List ℕ) (size : length ds ≡ 64) (low : c < 64) (s : LowerLoop ds c d array i) where
  lower_length : length (map (λ x. at ds 0 / x) (take (c + 1) ds)) ≡ c + 1
  lower_length = length-map (take (c + 1) ds) _ ∙ length-take-le (c + 1) ds (omega arith)

  pub lower_turn : i ≤ c → LowerLoop ds c d (set array i (d / at ds i)) (i + 1)
  lower_turn h =
      let inside : i < length (take (c + 1) ds) = rw (length-take-le (c + 1) ds (omega arith)) (omega arith) in
      let value : d / at ds i ≡ at (map (λ x. at ds 0 / x) (take (c + 1) ds)) i =
      ap₂ (λ x y. x / y) s.first (sym (get_or-take (c + 1) ds i 0 (omega arith))) ∙ sym (at_map (λ x. at ds 0 / x) (take (c + 1) ds) i inside) in
      record { first = s.first; filled = filled_turn _ array i (d / at ds i) (rw lower_length (omega arith)) (rw lower_length (omega arith)) value s.filled }

  -- the last of them
  pub lower_end : i ≡ c → set array i (d / at ds i) ≡ padded (map (λ x. at ds 0 / x) (take (c + 1) ds))
  lower_end h = filled_end _ _ (i + 1) (rw lower_length (omega arith)) (lower_turn (omega arith)).filled

-- the first i factors are in the array, and m is the last of them
pub record UpperLoop (ps : List ℕ) (c d q : ℕ) (array : List ℕ) (m i : ℕ) : Type 0 where
  pub ready : Ready ps c
  pub pivot : q ≡ at ps c
  pub divisor : d ≡ (dct ps c).D
  pub past : c < i
  pub filled : Filled (dct ps c).factors i array
  pub factor : m ≡ at (dct ps c).factors (i - 1)

module _ (ps : List ℕ) (c : ℕ) (r : Ready ps c) where
  sound : Sound 2 ps (dct ps c)
  sound = dct_sound ps c (periods ps c r) r.inside

  steps : DctPeriods ps c (dct ps c).Q (dct ps c).D (at (dct ps c).factors)
  steps = dct_periods ps c (periods ps c r) r.inside

  all_length : length (dct ps c).factors ≡ length ps
  all_length = factors_length (dct ps c).Q (dct ps c).D 1 ps (dct ps c).factors sound.factors

  pub upper_start : (d q : ℕ) (array : List ℕ) → q ≡ at ps c → d ≡ (dct ps c).D → array ≡ padded (take (c + 1) (dct ps c).factors) → UpperLoop ps c d q array d (c + 1)
  upper_start d q array e f g =
      let back : c + 1 - 1 ≡ c = omega arith in
      let short : length (take (c + 1) (dct ps c).factors) ≤ 64 = simp length-take (omega (arith, all_length, r.size)) in
      record {
        ready = r;
        pivot = e;
        divisor = f;
        past = omega arith;
        filled = record { size = ap length g ∙ padded_length _ short; same = g };
        factor = rw back (f ∙ sym steps.pivot);
      }

module _ (ps : List ℕ) (c d q m i : ℕ) (array : List ℕ) (s : UpperLoop ps c d q array m i) where
  pub upper_divisor : d ≤ 120000
  upper_divisor = rw s.divisor (le_of_lt (divisor_bound 2 ps (dct ps c) (sound ps c s.ready)))

  pub upper_end : length ps ≤ i → array ≡ padded (dct ps c).factors
  upper_end h = filled_end (dct ps c).factors array i (rw (all_length ps c s.ready) h) s.filled

  module _ (h : i < length ps) where
    pub upper_low : 1 ≤ m
    upper_low = rw s.factor (factors_at (dct ps c).Q (dct ps c).D 1 ps (dct ps c).factors (sound ps c s.ready).factors (i - 1) (omega (arith, s.past))).1

    pub upper_high : m ≤ 120000
    upper_high = rw s.factor (le_of_lt (factors_bound 2 ps (dct ps c) (periods ps c s.ready) (sound ps c s.ready) (i - 1) (omega (arith, s.past))))

    module _ (x v : ℕ) (e : x ≡ at ps i) (g : v ≡ m * (x * d / (q * m))) where
      value : v ≡ at (dct ps c).factors i
      unfolding dct
      value =
          let next : suc (i - 1) ≡ i = omega (arith, s.past) in
          let step = (steps ps c s.ready).up (i - 1) (omega (arith, s.past)) (rw next h) in
          g ∙ rw (s.factor, e, s.divisor, s.pivot) (rw next at (sym step))

      pub upper_fits : Fits w32 v
      upper_fits = record { fits = rw value (omega (arith, factors_bound 2 ps (dct ps c) (periods ps c s.ready) (sound ps c s.ready) i h)) }

      pub upper_turn : UpperLoop ps c d q (set array i v) v (i + 1)
      upper_turn =
          let back : i + 1 - 1 ≡ i = omega arith in
          record {
            ready = s.ready;
            pivot = s.pivot;
            divisor = s.divisor;
            past = omega (arith, s.past);
            filled = filled_turn (dct ps c).factors array i v (rw (all_length ps c s.ready) s.ready.size) (rw (all_length ps c s.ready) h) value s.filled;
            factor = rw back value;
          }

-- the three parts together
module _ (ps : List ℕ) (c : ℕ) (list : List ℕ) (r : Ready ps c) (e : list ≡ padded (downs (at ps c) (take c ps))) where
  abbrev ds : List ℕ
  ds = downs (at ps c) (take c ps)

  ds_length : length ds ≡ c + 1
  ds_length = downs_length (at ps c) ps (take c ps) ∙ ap suc (length-take-le c ps (omega (arith, r.inside))) ∙ sym (add-one c)

  pub dct_positive : (k : ℕ) → k ≤ c → 0 < at list k
  dct_positive k h =
      let all : SortedPeriods 1 (take c ps ++ at ps c ∷ drop (suc c) ps) = subst (SortedPeriods 1) (split_at ps c 0 r.inside) (periods ps c r) in
      rw (e, at_padded ds k) (downs_positive (at ps c) (drop (suc c) ps) 1 (take c ps) (omega arith) all k (omega (arith, length-take-le c ps (omega (arith, r.inside)))))

  pub dct_divisor : at list 0 ≡ (dct ps c).D
  unfolding dct
  dct_divisor = rw (e, at_padded ds 0)

  pub dct_lower : (low : List ℕ) → low ≡ padded (map (λ x. at list 0 / x) (take (c + 1) list)) → low ≡ padded (take (c + 1) (dct ps c).factors)
  unfolding dct padded
  dct_lower low g =
      let whole : take (c + 1) list ≡ ds = ap (take (c + 1)) e ∙ take_at ds _ (c + 1) ds_length in
      let front : take (c + 1) (dct ps c).factors ≡ map (λ x. at ds 0 / x) ds = take_at (map (λ x. at ds 0 / x) ds) _ (c + 1) (length-map ds _ ∙ ds_length) in
      g ∙ ap padded (ap₂ (λ x l. map (λ y. x / y) l) dct_divisor whole ∙ sym front)

  pub dct_end : (array : List ℕ) → array ≡ padded (dct ps c).factors → record { pivot = at ps c; divisor = at list 0; factors = array } ≡ written (dct ps c)
  unfolding written dct
  dct_end array g = rw (g, dct_divisor)
