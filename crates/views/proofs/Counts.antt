-- The core of a position by the task counts: it is the core whose part of the positions holds it.
-- Assumes nothing.
use Prim.Native.Nat.{ℕ, zero, suc, ◌+◌, ◌≤◌, ◌<◌}
use mathlib.Core.Path.{◌≡◌, refl}
use mathlib.Core.Bool.{Bool, true, false, cond}
use native.Mathlib.Nat.{le_refl, lt_of_lt_of_le}
use native.Mathlib.Omega.{arith}
use native.Mathlib.Decide.{dec_le, ℕ_discrete}
use borrow.Author.Tests.{le-leb, lt-leb, leb-true, leb-false}
use lib.Arith.{lt_of_le-ne}
use lib.Dec.{leb}
use Rattle.sheet.specs.Views.{first_of, core_by_counts}

module _ (count : ℕ → ℕ) where
  pub first_next : (k : ℕ) → first_of count (suc k) ≡ first_of count k + count k
  unfolding first_of
  first_next k = refl

  -- no core begins before a lower one
  pub first_rises : (k m : ℕ) → k ≤ m → first_of count k ≤ first_of count m
  first_rises k zero h = let z : k ≡ 0 = omega arith in rw z (le_refl _)
  first_rises k (suc m) h = by (ℕ_discrete k (suc m)) (first_rises k m)
    where
      by : Dec (k ≡ suc m) → (k ≤ m → first_of count k ≤ first_of count m) → first_of count k ≤ first_of count (suc m)
      by (yes z) rec = rw z (le_refl _)
      by (no z) rec =
          let l : k < suc m = lt_of_le-ne h z in
          omega (arith, rec (omega arith), first_next m)

  -- Past them all the core is c.
  pub core_past : (c j : ℕ) → first_of count c ≤ j → core_by_counts count c j ≡ c
  unfolding core_by_counts
  core_past zero j h = refl
  core_past (suc c) j h = rw (le-leb (first_of count (suc c)) j h)

  -- a later position has no lower core
  core_most : (c j : ℕ) → core_by_counts count c j ≤ c
  unfolding core_by_counts
  core_most zero j = le_refl 0
  core_most (suc c) j = by (leb (first_of count (suc c)) j) (core_most c j)
    where
      by : (b : Bool) → core_by_counts count c j ≤ c → cond b (suc c) (core_by_counts count c j) ≤ suc c
      by true h = le_refl _
      by false h = omega arith

  pub core_rises : (c i j : ℕ) → i ≤ j → core_by_counts count c i ≤ core_by_counts count c j
  unfolding core_by_counts
  core_rises zero i j h = le_refl 0
  core_rises (suc c) i j h = by (dec_le (first_of count (suc c)) i) (dec_le (first_of count (suc c)) j) (core_rises c i j h)
    where
      by : Dec (first_of count (suc c) ≤ i) → Dec (first_of count (suc c) ≤ j) → core_by_counts count c i ≤ core_by_counts count c j → core_by_counts count (suc c) i ≤ core_by_counts count (suc c) j
      by (yes a) b r = rw (le-leb (first_of count (suc c)) i a, le-leb (first_of count (suc c)) j (omega arith)) (le_refl _)
      by (no a) (yes b) r = rw (lt-leb (first_of count (suc c)) i (omega arith), le-leb (first_of count (suc c)) j b) (omega (arith, core_most c i))
      by (no a) (no b) r = rw (lt-leb (first_of count (suc c)) i (omega arith), lt-leb (first_of count (suc c)) j (omega arith)) r

  -- From where core k begins to where the next one does the core is k.
  pub core_inside : (c k j : ℕ) → first_of count k ≤ j → j < first_of count (suc k) → k < c → core_by_counts count c j ≡ k
  unfolding core_by_counts
  core_inside zero k j a b h = absurd (omega arith)
  core_inside (suc c) k j a b h = rw (lt-leb (first_of count (suc c)) j (lt_of_lt_of_le b (first_rises (suc k) (suc c) h))) (by (ℕ_discrete k c) (core_inside c k j a b))
    where
      by : Dec (k ≡ c) → (k < c → core_by_counts count c j ≡ k) → core_by_counts count c j ≡ k
      by (yes z) rec = rw z (core_past c j (rw (← z) a))
      by (no z) rec = rec (lt_of_le-ne (omega arith) z)

  -- a position before the end lies on a core
  pub core_where : (c j : ℕ) → j < first_of count c → (core_by_counts count c j < c) × (first_of count (core_by_counts count c j) ≤ j) × (j < first_of count (suc (core_by_counts count c j)))
  unfolding first_of core_by_counts
  core_where zero j h = absurd (omega arith)
  core_where (suc c) j h =
      rw (lt-leb (first_of count (suc c)) j h) (by (core_where c j) (leb (first_of count c) j) refl)
    where
      by : (j < first_of count c → (core_by_counts count c j < c) × (first_of count (core_by_counts count c j) ≤ j) × (j < first_of count (core_by_counts count c j) + count (core_by_counts count c j))) → (b : Bool) → leb (first_of count c) j ≡ b → (core_by_counts count c j < suc c) × (first_of count (core_by_counts count c j) ≤ j) × (j < first_of count (core_by_counts count c j) + count (core_by_counts count c j))
      by next true e =
          let z : first_of count c ≤ j = leb-true _ _ e in
          rw (core_past c j z) (omega arith, z, h)
      by next false e =
          let w = next (leb-false _ _ e) in
          (omega (arith, w.0), w.1, w.2)

  -- positions between two of one core are on it
  pub core_between : (c i x j : ℕ) → i ≤ x → x ≤ j → j < first_of count c → core_by_counts count c i ≡ core_by_counts count c j → core_by_counts count c x ≡ core_by_counts count c i
  core_between c i x j a b h e =
      let low = core_where c i (omega arith) in
      let high = core_where c j h in
      core_inside c (core_by_counts count c i) x (omega (arith, low.1)) (rw e (omega (arith, high.2))) low.0

-- counts that agree give the same cores
pub first_ext : (f g : ℕ → ℕ) (c : ℕ) → ((k : ℕ) → k < c → f k ≡ g k) → (k : ℕ) → k ≤ c → first_of f k ≡ first_of g k
unfolding first_of
first_ext f g c h zero q = refl
first_ext f g c h (suc k) q = rw (first_ext f g c h k (omega arith), h k q)

pub core_ext : (f g : ℕ → ℕ) (c : ℕ) → ((k : ℕ) → k < c → f k ≡ g k) → (d j : ℕ) → d ≤ c → core_by_counts f d j ≡ core_by_counts g d j
unfolding core_by_counts
core_ext f g c h zero j q = refl
core_ext f g c h (suc d) j q = rw (first_ext f g c h (suc d) q, core_ext f g c h d j (omega arith))
