-- The search for a power, step by step as the code goes.
-- Assumes nothing.
use Prim.Native.Nat.{ℕ, suc, ◌-◌, ◌*◌, ◌^◌, ◌≤◌, ◌<◌}
use mathlib.Core.Path.{◌≡◌, sym, ap, ◌∙◌}
use native.Mathlib.Nat.{mul-one, one-mul, mul_assoc, pow-suc, mul-le-mul_left, mul-le-mul_right, mul-pos}
use native.Mathlib.Omega.{arith}
use Rattle.figures.specs.Constructions.{Power, least_power, largest_power}
use Rattle.figures.proofs.Powers.{least_unique, largest_unique, least_power_lem, largest_power_lem, least_more, largest_end, power_positive}

twice : (x b : ℕ) → 2 ≤ b → x * 2 ≤ x * b
twice x b h = mul-le-mul_left x h

-- m is a power of b that is at most the power sought, and r is p × m
pub record Reach (b q p m r : ℕ) : Type 0 where
  pub exponent : ℕ
  pub power : m ≡ b ^ exponent
  pub reach : r ≡ p * m
  pub least : (k : ℕ) → q ≤ p * b ^ k → exponent ≤ k

module _ (b q p m r : ℕ) (two : 2 ≤ b) (three : b ≤ 3) (high : q ≤ 60000) (pos : 1 ≤ p) (s : Reach b q p m r) where
  small : m ≤ r
  small = let h : 1 * m ≤ p * m = mul-le-mul_right m pos in rw s.reach (omega (arith, one-mul m))

  positive : 0 < m
  positive = rw s.power (power_positive b two s.exponent)

  pub reach_less : r < q → q - r * b < q - r
  reach_less h = omega (arith, twice r b two, small, positive)

  pub reach_turn : r < q → Reach b q p (m * b) (r * b)
  reach_turn h =
      let low : p * b ^ s.exponent < q = rw (← s.power, ← s.reach) h in
      record {
        exponent = suc s.exponent;
        power = ap (λ t. t * b) s.power ∙ sym (pow-suc b s.exponent);
        reach = ap (λ t. t * b) s.reach ∙ mul_assoc p m b;
        least = λ k g. least_more b two q p s.exponent k low s.least g;
      }

  pub reach_end : q ≤ r → m ≡ least_power b q p
  reach_end h = least_unique b q p (record { exponent = s.exponent; power = s.power; reaches = rw s.reach at h; least = s.least }) (least_power_lem b two q p pos)

-- m is a power that fits x, and n is q times the next
pub record Climb (b q x m n : ℕ) : Type 0 where
  pub power : Power b m
  pub fits : q * m ≤ x
  pub next : n ≡ q * m * b

module _ (b q x m : ℕ) (two : 2 ≤ b) (three : b ≤ 3) (pos : 1 ≤ q) (high : x ≤ 10800000000) where
  module _ (n : ℕ) (s : Climb b q x m n) where
    climb_positive : 0 < n
    unfolding Power
    climb_positive =
        let (k, e) = s.power in
        rw s.next (mul-pos (mul-pos pos (rw e (power_positive b two k))) (omega arith))

    pub climb_less : n ≤ x → suc x - n * b < suc x - n
    climb_less h = omega (arith, twice n b two, climb_positive)

    pub climb_turn : n ≤ x → Climb b q x (m * b) (n * b)
    unfolding Power
    climb_turn h =
        let (k, e) = s.power in
        record { power = (suc k, ap (λ t. t * b) e ∙ sym (pow-suc b k)); fits = rw (← mul_assoc q m b, ← s.next) h; next = ap (λ t. t * b) (s.next ∙ mul_assoc q m b) }

    pub climb_end : x < n → m ≡ largest_power b q x
    unfolding Power
    climb_end h =
        let (k, e) = s.power in
        let over : x < q * (b ^ k * b) = rw (← e, ← mul_assoc q m b, ← s.next) h in
        let low : q * 1 ≤ q * m = mul-le-mul_left q (rw e (power_positive b two k)) in
        largest_unique b q x (record { exponent = k; power = e; fits = s.fits; largest = largest_end b two q x k over }) (largest_power_lem b two q x pos (omega (arith, mul-one q, s.fits)))
