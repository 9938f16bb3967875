-- Whether some number below n passes a test: what it means.
-- Assumes nothing.
use Prim.Native.Nat.{ℕ, zero, suc, ◌<◌}
use mathlib.Core.Path.{◌≡◌, refl}
use mathlib.Core.Bool.{Bool, true, false, ◌||◌, true≢false}
use native.Mathlib.Omega.{arith}
use native.Mathlib.Decide.{ℕ_discrete}
use lib.Arith.{lt_of_le-ne}
use Rattle.fit.specs.Lists.{some_below}

module _ (q : ℕ → Bool) where
  pub some_hit : (n i : ℕ) → i < n → q i ≡ true → some_below q n ≡ true
  unfolding some_below
  some_hit zero i h e = absurd (omega arith)
  some_hit (suc n) i h e = by (some_below q n) (ℕ_discrete i n) (λ d. some_hit n i d e)
    where
      by : (b : Bool) → Dec (i ≡ n) → (i < n → b ≡ true) → (b || q n) ≡ true
      by true d rec = refl
      by false (yes z) rec = rw (← z) e
      by false (no z) rec = absurd (true≢false (rw (rec (lt_of_le-ne (omega arith) z)) refl))

  pub some_none : (n : ℕ) → ((i : ℕ) → i < n → q i ≡ false) → some_below q n ≡ false
  unfolding some_below
  some_none zero h = refl
  some_none (suc n) h = rw (some_none n (λ i l. h i (omega arith)), h n (omega arith))

  pub none_some : (n : ℕ) → some_below q n ≡ false → (i : ℕ) → i < n → q i ≡ false
  none_some n e i h = by (q i) refl
    where
      by : (b : Bool) → q i ≡ b → q i ≡ false
      by true t = absurd (true≢false (rw (some_hit n i h t) at e))
      by false t = t
