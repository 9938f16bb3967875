-- The offsets of the spare bytes of task and core records: what holds for each of them, one by one.
-- Assumes nothing.
use Prim.Native.Nat.{ℕ, zero, suc, ◌+◌, ◌*◌, ◌<◌}
use mathlib.Core.Path.{◌≡◌, refl}
use mathlib.Core.Bool.{Bool, true, false, true≢false}
use native.Mathlib.Omega.{arith}
use Rattle.fit.specs.Lists.{Each}
use Rattle.checker.specs.Tests.{task_spares, core_spares}

module _ (P : ℕ → Type 0) where
  -- of n task records from offset a on, where there are any
  pub task_all : (stroked : Bool) (a n : ℕ) → (stroked ≡ false → (i : ℕ) → i < n → P (a + 10 * i + 5)) → Each P (task_spares stroked a n)
  unfolding task_spares Each
  task_all true a n f = tt
  task_all false a zero f = tt
  task_all false a (suc n) f =
      let z : a + 10 * 0 + 5 ≡ a + 5 = omega arith in
      (rw z at (f refl 0 (omega arith)), task_all false (a + 10) n next)
    where
      next : false ≡ false → (i : ℕ) → i < n → P (a + 10 + 10 * i + 5)
      next v i h =
          let z : a + 10 * suc i + 5 ≡ a + 10 + 10 * i + 5 = omega arith in
          rw z at (f refl (suc i) (omega arith))

  pub task_each : (stroked : Bool) → stroked ≡ false → (a n : ℕ) → Each P (task_spares stroked a n) → (i : ℕ) → i < n → P (a + 10 * i + 5)
  unfolding task_spares Each
  task_each true v a n h i q = absurd (true≢false v)
  task_each false v a zero h i q = absurd (omega arith)
  task_each false v a (suc n) h zero q =
      let z : a + 10 * 0 + 5 ≡ a + 5 = omega arith in
      rw z h.0
  task_each false v a (suc n) h (suc i) q =
      let z : a + 10 * suc i + 5 ≡ a + 10 + 10 * i + 5 = omega arith in
      rw z (task_each false v (a + 10) n h.1 i (omega arith))

  -- of c core records from offset a on
  next : (grouped : Bool) (a c : ℕ) → ((k : ℕ) → k < suc c → (grouped ≡ false → P (a + 8 * k + 2)) × P (a + 8 * k + 3)) → (k : ℕ) → k < c → (grouped ≡ false → P (a + 8 + 8 * k + 2)) × P (a + 8 + 8 * k + 3)
  next grouped a c f k h =
      let z : a + 8 * suc k ≡ a + 8 + 8 * k = omega arith in
      rw z at (f (suc k) (omega arith))

  pub core_all : (grouped : Bool) (a c : ℕ) → ((k : ℕ) → k < c → (grouped ≡ false → P (a + 8 * k + 2)) × P (a + 8 * k + 3)) → Each P (core_spares grouped a c)
  unfolding core_spares Each
  core_all grouped a zero f = tt
  core_all true a (suc c) f =
      let z : a + 8 * 0 ≡ a = omega arith in
      (rw z at (f 0 (omega arith)).1, core_all true (a + 8) c (next true a c f))
  core_all false a (suc c) f =
      let z : a + 8 * 0 ≡ a = omega arith in
      (rw z at ((f 0 (omega arith)).0 refl), (rw z at (f 0 (omega arith)).1, core_all false (a + 8) c (next false a c f)))

  pub core_each : (grouped : Bool) (a c : ℕ) → Each P (core_spares grouped a c) → (k : ℕ) → k < c → (grouped ≡ false → P (a + 8 * k + 2)) × P (a + 8 * k + 3)
  unfolding core_spares Each
  core_each grouped a zero h k q = absurd (omega arith)
  core_each true a (suc c) h zero q =
      let z : a + 8 * 0 ≡ a = omega arith in
      ((λ t. absurd (true≢false t)), rw z h.0)
  core_each true a (suc c) h (suc k) q =
      let z : a + 8 * suc k ≡ a + 8 + 8 * k = omega arith in
      rw z (core_each true (a + 8) c h.1 k (omega arith))
  core_each false a (suc c) h zero q =
      let z : a + 8 * 0 ≡ a = omega arith in
      ((λ t. rw z h.0), rw z h.1.0)
  core_each false a (suc c) h (suc k) q =
      let z : a + 8 * suc k ≡ a + 8 + 8 * k = omega arith in
      rw z (core_each false (a + 8) c h.1.1 k (omega arith))
