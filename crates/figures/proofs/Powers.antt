-- The least and the largest power of a base b from 2 up: what they are, and that nothing else is.
-- Assumes nothing.
use Prim.Native.Nat.{ℕ, zero, suc, ◌+◌, ◌*◌, ◌^◌, ◌≤◌, ◌<◌}
use mathlib.Core.Path.{◌≡◌, refl, sym, ap, ◌∙◌}
use mathlib.Core.Bool.{Bool, true, false, cond}
use native.Mathlib.Nat.{mul-one, one-mul, pow-zero, pow-suc, pow-le-pow_right, mul-le-mul_left, mul-le-mul_right, le_antisymm, le_trans, one-le-pow, not-le_of_lt}
use native.Mathlib.Decide.{dec_le}
use native.Mathlib.Omega.{arith}
use borrow.Author.Tests.{leb-true, leb-false}
use lib.Dec.{leb}
use Rattle.figures.specs.Constructions.{least, least_power, largest, largest_power}

-- m is the least power of b with q ≤ p × m
pub record Least (b q p m : ℕ) : Type 0 where
  pub exponent : ℕ
  pub power : m ≡ b ^ exponent
  pub reaches : q ≤ p * m
  pub least : (k : ℕ) → q ≤ p * b ^ k → exponent ≤ k

-- m is the largest power of b with q × m ≤ x
pub record Largest (b q x m : ℕ) : Type 0 where
  pub exponent : ℕ
  pub power : m ≡ b ^ exponent
  pub fits : q * m ≤ x
  pub largest : (k : ℕ) → q * b ^ k ≤ x → k ≤ exponent

-- there is only one
pub least_unique : (b q p : ℕ) {m n : ℕ} → Least b q p m → Least b q p n → m ≡ n
least_unique b q p h k =
    let e : h.exponent ≡ k.exponent = le_antisymm (h.least k.exponent (rw k.power at k.reaches)) (k.least h.exponent (rw h.power at h.reaches)) in
    h.power ∙ ap (λ (x : ℕ). b ^ x) e ∙ sym k.power

pub largest_unique : (b q x : ℕ) {m n : ℕ} → Largest b q x m → Largest b q x n → m ≡ n
largest_unique b q x h k =
    let e : h.exponent ≡ k.exponent = le_antisymm (k.largest h.exponent (rw h.power at h.fits)) (h.largest k.exponent (rw k.power at k.fits)) in
    h.power ∙ ap (λ (x : ℕ). b ^ x) e ∙ sym k.power

module _ (b : ℕ) (two : 2 ≤ b) where
  pub power_positive : (k : ℕ) → 0 < b ^ k
  power_positive k = one-le-pow k b (omega arith)

  power_above : (k : ℕ) → k < b ^ k
  power_above zero = power_positive 0
  power_above (suc k) =
      let h : b ^ k * 2 ≤ b ^ k * b = mul-le-mul_left (b ^ k) two in
      rw (pow-suc b k) (omega (arith, power_above k))

  pub power_mono : {j k : ℕ} → j ≤ k → b ^ j ≤ b ^ k
  power_mono h = pow-le-pow_right (omega arith) h

  -- the next power is too small, or too large
  pub least_more : (q p k j : ℕ) → p * b ^ k < q → ((i : ℕ) → q ≤ p * b ^ i → k ≤ i) → q ≤ p * b ^ j → suc k ≤ j
  least_more q p k j h f g = by (dec_le (suc k) j)
    where
      by : Dec (suc k ≤ j) → suc k ≤ j
      by (yes r) = r
      by (no r) =
          let low : k ≤ j = f j g in
          let same : k ≡ j = le_antisymm low (omega arith) in
          absurd (not-le_of_lt h (rw same g))

  pub largest_end : (q x k : ℕ) → x < q * (b ^ k * b) → (j : ℕ) → q * b ^ j ≤ x → j ≤ k
  largest_end q x k h j g = by (dec_le j k)
    where
      by : Dec (j ≤ k) → j ≤ k
      by (yes r) = r
      by (no r) =
          let up : b ^ suc k ≤ b ^ j = power_mono (omega arith) in
          absurd (not-le_of_lt h (le_trans (rw (← pow-suc b k) (mul-le-mul_left q up)) g))

  -- the definitions find them
  module _ (q : ℕ) where
    pub least_from : (p n k : ℕ) → 0 < p → q ≤ k + n → ((i : ℕ) → q ≤ p * b ^ i → k ≤ i) → Least b q p (least b q p n (b ^ k))
    unfolding least
    least_from p zero k pos enough f =
        let low : 1 * b ^ k ≤ p * b ^ k = mul-le-mul_right (b ^ k) pos in
        record { exponent = k; power = refl; reaches = omega (arith, power_above k, one-mul (b ^ k)); least = f }
    least_from p (suc n) k pos enough f = by (leb q (p * b ^ k)) refl (least_from p n (suc k) pos (omega arith))
      where
        by : (t : Bool) → leb q (p * b ^ k) ≡ t → (((i : ℕ) → q ≤ p * b ^ i → suc k ≤ i) → Least b q p (least b q p n (b ^ suc k))) → Least b q p (cond t (b ^ k) (least b q p n (b ^ k * b)))
        by true e more = record { exponent = k; power = refl; reaches = leb-true q (p * b ^ k) e; least = f }
        by false e more = rw (← pow-suc b k) (more (λ i g. least_more q p k i (leb-false q (p * b ^ k) e) f g))

    pub largest_from : (x n k : ℕ) → 0 < q → x ≤ k + n → q * b ^ k ≤ x → Largest b q x (largest b q x n (b ^ k))
    unfolding largest
    largest_from x zero k pos enough h =
        let low : 1 * b ^ k ≤ q * b ^ k = mul-le-mul_right (b ^ k) pos in
        absurd (omega (arith, power_above k, one-mul (b ^ k)))
    largest_from x (suc n) k pos enough h = by (leb (q * (b ^ k * b)) x) refl (largest_from x n (suc k) pos (omega arith))
      where
        by : (t : Bool) → leb (q * (b ^ k * b)) x ≡ t → (q * b ^ suc k ≤ x → Largest b q x (largest b q x n (b ^ suc k))) → Largest b q x (cond t (largest b q x n (b ^ k * b)) (b ^ k))
        by true e more = rw (← pow-suc b k) (more (rw (pow-suc b k) (leb-true (q * (b ^ k * b)) x e)))
        by false e more = record { exponent = k; power = refl; fits = h; largest = largest_end q x k (leb-false (q * (b ^ k * b)) x e) }

    pub least_power_lem : (p : ℕ) → 0 < p → Least b q p (least_power b q p)
    unfolding least_power
    least_power_lem p pos = rw (pow-zero b) at (least_from p q 0 pos (omega arith) (λ i h. omega arith))

    pub largest_power_lem : (x : ℕ) → 0 < q → q ≤ x → Largest b q x (largest_power b q x)
    unfolding largest_power
    largest_power_lem x pos h = rw (pow-zero b) at (largest_from x x 0 pos (omega arith) (rw (pow-zero b, mul-one q) h))
