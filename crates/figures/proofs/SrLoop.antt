-- The factors of Sr, step by step as the code goes, and stored.
-- Assumes nothing.
use Prim.Native.Nat.{ℕ, ◌+◌, ◌*◌, ◌≤◌, ◌<◌, zero-le}
use mathlib.Core.Path.{◌≡◌, sym, ap₂, ◌∙◌}
use mathlib.Core.List.{List}
use native.Mathlib.Nat.{pow-zero, mul-le-mul, mul-le-mul_right, le_refl, le_trans, lt_of_lt_of_le, le_of_lt}
use native.Mathlib.Omega.{arith}
use lib.ListN.{length, set, length-map}
use mir.Syntax.{w32, w64}
use mir.Val.{Fits}
use Rattle.fit.specs.Lists.{at}
use Rattle.figures.specs.Constructions.{Power, least_power, largest_power, sr}
use Rattle.figures.specs.Meaning.{SortedPeriods, Multiplier, Sound}
use Rattle.figures.specs.Answers.{written}
use Rattle.figures.proofs.Lists.{at_map}
use Rattle.figures.proofs.Sound.{sorted_pair, divisor_bound, factors_bound}
use Rattle.figures.proofs.Ranges.{Ready, periods, period_high}
use Rattle.figures.proofs.SrLaws.{sr_sound, sr_multiplier}
use Rattle.fit.proofs.Filling.{Filled, filled_turn, filled_end}

-- m is a power that fits every period from place i on
pub record SrLoop (b : ℕ) (ps : List ℕ) (c q d m i : ℕ) : Type 0 where
  pub two : 2 ≤ b
  pub three : b ≤ 3
  pub ready : Ready ps c
  pub pivot : q ≡ (sr b ps c).Q
  pub divisor : d ≡ (sr b ps c).D
  pub power : Power b m
  pub fits : (k : ℕ) → i ≤ k → k < length ps → q * m ≤ at ps k * d

module _ (b : ℕ) (ps : List ℕ) (c : ℕ) (two : 2 ≤ b) (three : b ≤ 3) (r : Ready ps c) where
  sound : Sound b ps (sr b ps c)
  sound = sr_sound b two ps c (periods ps c r) r.inside

  factors_length : length (sr b ps c).factors ≡ length ps
  unfolding sr
  factors_length = length-map ps _

  pub sr_start : (q x d : ℕ) → q ≡ at ps c → x ≡ at ps 0 → d ≡ least_power b q x → SrLoop b ps c q d 1 0
  unfolding sr Power
  sr_start q x d e f g =
      let same : d ≡ (sr b ps c).D = g ∙ ap₂ (λ s t. least_power b s t) e f in
      record {
        two = two;
        three = three;
        ready = r;
        pivot = e;
        divisor = same;
        power = (0, sym (pow-zero b));
        fits = λ k low high. rw (same, e) (le_trans (first_fits k high) (mul-le-mul_right (sr b ps c).D (sorted_pair 1 ps (periods ps c r) 0 k zero-le high)));
      }
    where
      first_fits : (k : ℕ) → k < length ps → (sr b ps c).Q * 1 ≤ at ps 0 * (sr b ps c).D
      first_fits k high =
          let m : Multiplier b (sr b ps c).Q (at ps 0) (at (sr b ps c).factors 0) (sr b ps c).D = sr_multiplier b two ps c (periods ps c r) r.inside 0 (omega arith) in
          rw sound.one at m.fits

module _ (b : ℕ) (ps : List ℕ) (c q d m i : ℕ) (s : SrLoop b ps c q d m i) where
  pub whole : Sound b ps (sr b ps c)
  whole = sound b ps c s.two s.three s.ready

  three_times : b * 60000 ≤ 180000
  three_times = mul-le-mul_right 60000 s.three

  same_length : length (sr b ps c).factors ≡ length ps
  same_length = factors_length b ps c s.two s.three s.ready

  divisor_small : d < 180000
  divisor_small = rw s.divisor (lt_of_lt_of_le (divisor_bound b ps (sr b ps c) whole) three_times)

  pub divisor_fits : Fits w32 d
  divisor_fits = record { fits = omega (arith, divisor_small) }

  pub pivot_positive : 1 ≤ q
  pivot_positive = rw s.pivot whole.pivot.0

  -- the factor at a place from i on, and at place i
  module _ (k : ℕ) (low : i ≤ k) (x : ℕ) (h : k < length ps) (e : x ≡ at ps k) where
    pub limit_small_from : x * d ≤ 10800000000
    limit_small_from = mul-le-mul {n₂ = 60000} {m₂ = 180000} (period_high ps c s.ready x k h e) (le_of_lt divisor_small)

    pub power_fits_from : q * m ≤ x * d
    power_fits_from = rw e (s.fits k low h)

    pub factor_from : (v : ℕ) → v ≡ largest_power b q (x * d) → v ≡ at (sr b ps c).factors k
    unfolding sr
    factor_from v g = g ∙ rw (s.pivot, s.divisor, e) (sym (at_map (λ p. largest_power b (at ps c) (p * (sr b ps c).D)) ps k h))

  module _ (x : ℕ) (h : i < length ps) (e : x ≡ at ps i) where
    pub limit_small : x * d ≤ 10800000000
    limit_small = limit_small_from i (le_refl i) x h e

    pub limit_fits : Fits w64 (x * d)
    limit_fits = record { fits = omega (arith, limit_small) }

    pub power_fits : q * m ≤ x * d
    power_fits = power_fits_from i (le_refl i) x h e

    module _ (v : ℕ) (g : v ≡ largest_power b q (x * d)) where
      pub factor_is : v ≡ at (sr b ps c).factors i
      factor_is = factor_from i (le_refl i) x h e v g

      pub factor_fits : Fits w32 v
      factor_fits = record { fits = rw factor_is (omega (arith, factors_bound b ps (sr b ps c) (periods ps c s.ready) whole i h, three_times)) }

      pub sr_turn : SrLoop b ps c q d v (i + 1)
      sr_turn =
          let up : SortedPeriods 1 ps = periods ps c s.ready in
          let n : Multiplier b (sr b ps c).Q (at ps i) (at (sr b ps c).factors i) (sr b ps c).D = sr_multiplier b s.two ps c up s.ready.inside i h in
          record {
            two = s.two;
            three = s.three;
            ready = s.ready;
            pivot = s.pivot;
            divisor = s.divisor;
            power = rw factor_is n.factor;
            fits = λ k low high. rw (s.pivot, s.divisor, factor_is) (le_trans n.fits (mul-le-mul_right (sr b ps c).D (sorted_pair 1 ps up i k (omega arith) high)));
          }

      -- stored: the first i factors are in the array
      pub store_turn : (array : List ℕ) → Filled (sr b ps c).factors i array → Filled (sr b ps c).factors (i + 1) (set array i v)
      store_turn array f = filled_turn (sr b ps c).factors array i v (rw same_length s.ready.size) (rw same_length h) factor_is f

  pub store_end : (array : List ℕ) → length ps ≤ i → Filled (sr b ps c).factors i array → record { pivot = at ps c; divisor = d; factors = array } ≡ written (sr b ps c)
  unfolding written sr
  store_end array h f = rw (s.divisor, filled_end (sr b ps c).factors array i (rw same_length h) f)
