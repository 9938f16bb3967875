-- Sr on any base from 2 up: its figures are sound, and each multiplier is the largest power, its exponent negative or not, that keeps the
-- accelerated period at or below the period.
-- Assumes nothing.
use Prim.Native.Nat.{ℕ, zero, suc, ◌+◌, ◌-◌, ◌*◌, ◌^◌, ◌≤◌, ◌<◌, zero-le}
use mathlib.Core.Path.{◌≡◌, refl, sym, ap, ◌∙◌}
use mathlib.Core.List.{List, [], ◌∷◌, map}
use native.Mathlib.Nat.{mul-one, mul_comm, mul_assoc, mul_left_comm, mul_right_comm, pow-zero, pow-suc, mul-le-mul, mul-le-mul_left, mul-le-mul_right, mul-lt-mul_of_pos_left, le_of_mul-le-mul_right, lt_of_mul-lt-mul_left, le_trans, le_refl, add-sub_of_le}
use native.Mathlib.Decide.{dec_le}
use native.Mathlib.Omega.{arith}
use lib.ListN.{length}
use lib.Pow.{pow-add}
use Rattle.fit.specs.Lists.{at}
use Rattle.fit.specs.Fits.{Multiple}
use Rattle.figures.specs.Constructions.{Power, least_power, largest_power, sr}
use Rattle.figures.specs.Meaning.{SortedPeriods, Multiplier, Factors, Sound}
use Rattle.figures.proofs.Powers.{Least, Largest, least_power_lem, largest_power_lem, power_positive, power_mono}
use Rattle.figures.proofs.Lists.{at_map}
use Rattle.figures.proofs.Sound.{sorted_at, sorted_pair, factors_at}

module _ (b : ℕ) (two : 2 ≤ b) where
  -- a larger power is a multiple of a smaller one
  power_multiple : (j k : ℕ) → j ≤ k → Multiple (b ^ j) (b ^ k)
  unfolding Multiple
  power_multiple j k h = (b ^ (k - j), ap (λ (x : ℕ). b ^ x) (sym (add-sub_of_le h)) ∙ pow-add b j (k - j))

  -- the factors after a power b ^ j that fits every period from a on
  sr_factors : (q D a j : ℕ) (ps : List ℕ) → 0 < q → SortedPeriods a ps → q * b ^ j ≤ a * D → Factors q D (b ^ j) ps (map (λ p. largest_power b q (p * D)) ps)
  unfolding SortedPeriods Factors
  sr_factors q D a j [] pos r h = tt
  sr_factors q D a j (p ∷ ps) pos r h =
      let more : q * b ^ j ≤ p * D = le_trans h (mul-le-mul_right D r.0) in
      let least : q * 1 ≤ q * b ^ j = mul-le-mul_left q (power_positive b two j) in
      let m : Largest b q (p * D) (largest_power b q (p * D)) = largest_power_lem b two q (p * D) pos (omega (arith, mul-one q)) in (
        record { accelerated = m.fits; multiple = rw m.power (power_multiple j m.exponent (m.largest j more)); positive = rw m.power (power_positive b two m.exponent) },
        rw m.power (sr_factors q D p m.exponent ps pos r.2 (rw (← m.power) m.fits)),
      )

  -- below the least power nothing reaches
  least_before : (q p m k : ℕ) (h : Least b q p m) → h.exponent ≡ suc k → p * b ^ k < q
  least_before q p m k h e = by (dec_le q (p * b ^ k))
    where
      by : Dec (q ≤ p * b ^ k) → p * b ^ k < q
      by (yes r) = absurd (omega (arith, h.least k r))
      by (no r) = omega arith

  -- p × the divisor is below b × q
  divisor_below : (q p m : ℕ) → 0 < q → p ≤ q → Least b q p m → p * m < b * q
  divisor_below q p m pos le h = by h.exponent refl
    where
      by : (k : ℕ) → h.exponent ≡ k → p * m < b * q
      by zero e =
          let one : m ≡ 1 = h.power ∙ ap (λ (x : ℕ). b ^ x) e ∙ pow-zero b in
          let low : 2 * q ≤ b * q = mul-le-mul_right q two in
          rw (one, mul-one p) (omega arith)
      by (suc k) e =
          let m-is : m ≡ b * b ^ k = h.power ∙ ap (λ (x : ℕ). b ^ x) e ∙ pow-suc b k ∙ mul_comm (b ^ k) b in
          rw (m-is, mul_left_comm p b (b ^ k)) (mul-lt-mul_of_pos_left (least_before q p m k h e) (omega arith))

  -- the first factor is 1 where the pivot's period is no shorter than the first
  first_one : (q p m : ℕ) → 0 < q → 0 < p → p ≤ q → (d : Least b q p m) → largest_power b q (p * m) ≡ 1
  first_one q p m posq posp le d = by f.exponent refl d.exponent refl
    where
      f : Largest b q (p * m) (largest_power b q (p * m))
      f = largest_power_lem b two q (p * m) posq d.reaches

      by : (i : ℕ) → f.exponent ≡ i → (j : ℕ) → d.exponent ≡ j → largest_power b q (p * m) ≡ 1
      by zero e j g = f.power ∙ ap (λ (x : ℕ). b ^ x) e ∙ pow-zero b
      by (suc i) e zero g =
          let one : m ≡ 1 = d.power ∙ ap (λ (x : ℕ). b ^ x) g ∙ pow-zero b in
          let fit : q * b ^ suc i ≤ p * 1 = rw (← e, ← one, ← f.power) f.fits in
          let large : 1 * 2 ≤ b ^ i * b = mul-le-mul (power_positive b two i) two in
          let twice : q * 2 ≤ q * (b ^ i * b) = mul-le-mul_left q (omega arith) in
          absurd (omega (arith, rw (pow-suc b i, mul-one p) at fit))
      by (suc i) e (suc j) g =
          let m-is : m ≡ b ^ j * b = d.power ∙ ap (λ (x : ℕ). b ^ x) g ∙ pow-suc b j in
          let fit : q * (b ^ i * b) ≤ p * (b ^ j * b) = rw (← pow-suc b i, ← e, ← m-is, ← f.power) f.fits in
          let cut : q * b ^ i ≤ p * b ^ j = le_of_mul-le-mul_right {k = b} (rw (mul_assoc q (b ^ i) b, mul_assoc p (b ^ j) b) fit) (omega arith) in
          let low : q * 1 ≤ q * b ^ i = mul-le-mul_left q (power_positive b two i) in
          absurd (omega (arith, least_before q p m j d g, mul-one q))

  pub sr_sound : (ps : List ℕ) (i : ℕ) → SortedPeriods 1 ps → i < length ps → Sound b ps (sr b ps i)
  unfolding SortedPeriods sr
  sr_sound (p ∷ ps) i r h =
      let (low, high) = sorted_at p (p ∷ ps) (le_refl p, r.1, r.2) i h in
      let q : ℕ = at (p ∷ ps) i in
      let pos : 0 < q = omega (arith, r.0) in
      let d : Least b q p (least_power b q p) = least_power_lem b two q p r.0 in
      let D : ℕ = least_power b q p in
      let start : q * b ^ 0 ≤ p * D = rw (pow-zero b, mul-one q) d.reaches in
      let reach : 1 * D ≤ p * D = mul-le-mul_right D r.0 in
      let below : D < b * q = omega (arith, divisor_below q p D pos low d) in
      record {
        pivot = (pos, high);
        divisor = (rw d.power (power_positive b two d.exponent), below);
        one = first_one q p D pos r.0 low d;
        factors = rw (pow-zero b) at (sr_factors q D p 0 (p ∷ ps) pos (le_refl p, r.1, r.2) start);
      }
  sr_sound [] i r h = absurd (omega arith)

  -- the first period times the divisor is below b × Q, and times a factor below b × the factor's own period
  pub sr_first : (ps : List ℕ) (i : ℕ) → SortedPeriods 1 ps → i < length ps → at ps 0 * (sr b ps i).D < b * (sr b ps i).Q
  unfolding sr
  sr_first ps i r h = divisor_below (at ps i) (at ps 0) _ (sorted_at 1 ps r i h).0 (sorted_pair 1 ps r 0 i zero-le h) (least_power_lem b two (at ps i) (at ps 0) (sorted_at 1 ps r 0 (omega arith)).0)

  pub sr_first_factor : (ps : List ℕ) (i : ℕ) → SortedPeriods 1 ps → i < length ps → (k : ℕ) → k < length ps → at ps 0 * at (sr b ps i).factors k < b * at ps k
  sr_first_factor ps i r h k g =
      let Q : ℕ = (sr b ps i).Q in
      let D : ℕ = (sr b ps i).D in
      let M : ℕ = at (sr b ps i).factors k in
      let p : ℕ = at ps k in
      let x : ℕ = at ps 0 in
      let s : Sound b ps (sr b ps i) = sr_sound ps i r h in
      let fit : x * (Q * M) ≤ x * (p * D) = mul-le-mul_left x (factors_at Q D 1 ps _ s.factors k g).0 in
      let less : p * (x * D) < p * (b * Q) = mul-lt-mul_of_pos_left (sr_first ps i r h) (sorted_at 1 ps r k g).0 in
      lt_of_mul-lt-mul_left Q (omega (arith, fit, less, mul_left_comm x Q M, mul_left_comm x p D, mul_left_comm p b Q, mul_left_comm Q b p, mul_comm p Q))

  multiplier : (q p x D M : ℕ) → Least b q x D → Largest b q (p * D) M → Multiplier b q p M D
  unfolding Power
  multiplier q p x D M d m =
      record {
        factor = (m.exponent, m.power);
        divisor = (d.exponent, d.power);
        fits = m.fits;
        largest = λ j k z. rw (← d.power, ← m.power) at (by j k z (dec_le (j + d.exponent) (m.exponent + k)));
      }
    where
      by : (j k : ℕ) → q * b ^ j ≤ p * b ^ k → Dec (j + d.exponent ≤ m.exponent + k) → b ^ j * b ^ d.exponent ≤ b ^ m.exponent * b ^ k
      by j k z (yes t) = rw (← pow-add b j d.exponent, ← pow-add b m.exponent k) (power_mono b two t)
      by j k z (no t) =
          let e : ℕ = m.exponent in
          let y : ℕ = d.exponent in
          let more : b ^ (suc e + k) ≤ b ^ (j + y) = power_mono b two (omega arith) in
          let both : q * (b ^ suc e * b ^ k) ≤ q * (b ^ j * b ^ y) = mul-le-mul_left q (rw (← pow-add b (suc e) k, ← pow-add b j y) more) in
          let scaled : q * b ^ j * b ^ y ≤ p * b ^ k * b ^ y = mul-le-mul_right (b ^ y) z in
          let fit : q * b ^ suc e * b ^ k ≤ p * b ^ y * b ^ k = omega (arith, mul_assoc q (b ^ suc e) (b ^ k), mul_assoc q (b ^ j) (b ^ y), mul_right_comm p (b ^ k) (b ^ y)) in
          absurd (omega (arith, m.largest (suc e) (rw d.power (le_of_mul-le-mul_right fit (power_positive b two k)))))

  -- the multiplier of every task is the largest power with Q × it ≤ p
  pub sr_multiplier : (ps : List ℕ) (i : ℕ) → SortedPeriods 1 ps → i < length ps → (k : ℕ) → k < length ps → Multiplier b (sr b ps i).Q (at ps k) (at (sr b ps i).factors k) (sr b ps i).D
  unfolding sr
  sr_multiplier ps i r h k g =
      let q : ℕ = at ps i in
      let pos : 0 < q = (sorted_at 1 ps r i h).0 in
      let d : Least b q (at ps 0) (least_power b q (at ps 0)) = least_power_lem b two q (at ps 0) (sorted_at 1 ps r 0 (omega arith)).0 in
      let D : ℕ = least_power b q (at ps 0) in
      let reach : at ps 0 * D ≤ at ps k * D = mul-le-mul_right D (sorted_pair 1 ps r 0 k zero-le g) in
      rw (at_map (λ p. largest_power b q (p * D)) ps k g)
      (multiplier q (at ps k) (at ps 0) D (largest_power b q (at ps k * D)) d (largest_power_lem b two q (at ps k * D) pos (le_trans d.reaches reach)))

  -- the pivot's own factor is not below the divisor
  pub sr_divisor : (ps : List ℕ) (i : ℕ) → SortedPeriods 1 ps → i < length ps → (sr b ps i).D ≤ at (sr b ps i).factors i
  unfolding sr
  sr_divisor ps i r h =
      let D : ℕ = (sr b ps i).D in
      let M : ℕ = at (sr b ps i).factors i in
      let once : 1 * D ≤ M * 1 = rw (pow-zero b) at ((sr_multiplier ps i r h i h).largest 0 0 (le_refl _)) in
      omega arith
