-- The old numbers pass their test exactly where each of 0 to n - 1 is the old number of exactly one of n tasks.
-- Assumes nothing.
use Prim.Native.Nat.{ℕ, ◌≤◌, ◌<◌, zero-le}
use mathlib.Core.Path.{◌≡◌, refl, sym, ap, ◌∙◌}
use mathlib.Core.Bool.{true, false}
use mathlib.Core.List.{map}
use native.Mathlib.Nat.{zero-add}
use native.Mathlib.Omega.{arith}
use native.Mathlib.Decide.{dec_lt, dec_le, ℕ_discrete}
use borrow.Author.Tests.{ltb-true, lt-ltb, eqb-true, not-false}
use lib.Arith.{lt_of_le-ne}
use lib.Dec.{ltb}
use lib.ListN.{length, length-map}
use Rattle.fit.specs.Lists.{numbers, select}
use Rattle.fit.proofs.Lists.{numbers_length, select_all}
use Rattle.fit.proofs.Some.{some_none, none_some}
use Rattle.fit.proofs.Counting.{sum_occurs, sum_ones, ones_sum, all_selected, each_value, value_each, times, times_at, times_twice, at_times, twice_times}
use Rattle.views.specs.Order.{bad_numbers, EachOnce}

module _ (number : ℕ → ℕ) (n : ℕ) where
  many : length (map number (numbers 0 n)) ≡ n
  many = length-map (numbers 0 n) number ∙ numbers_length 0 n

  all_once : ((i : ℕ) → i < n → times number i n ≡ 1) → bad_numbers number n ≡ false
  unfolding bad_numbers
  all_once h = some_none _ n (λ i l. rw (h i l))

  once_each : bad_numbers number n ≡ false → (i : ℕ) → i < n → times number i n ≡ 1
  unfolding bad_numbers
  once_each e i l = eqb-true (times number i n) 1 (not-false _ (none_some _ n e i l))

  -- where each of 0 to n - 1 stands once, no task has another number
  once_below : ((i : ℕ) → i < n → times number i n ≡ 1) → (j : ℕ) → j < n → number j < n
  once_below h j l = ltb-true (number j) n (each_value (λ x. ltb x n ≡ true) number 0 n (all_selected (λ x. ltb x n) (map number (numbers 0 n)) all) j zero-le (rw (zero-add n) l))
    where
      all : length (select (λ x. ltb x n) (map number (numbers 0 n))) ≡ length (map number (numbers 0 n))
      all = sym (sum_occurs (map number (numbers 0 n)) n) ∙ sum_ones (λ i. times number i n) n h ∙ sym many

  -- where no task has another number, and none of 0 to n - 1 stands twice, each stands once
  pub below_once : ((j : ℕ) → j < n → number j < n) → ((i : ℕ) → i < n → times number i n ≤ 1) → bad_numbers number n ≡ false
  below_once h o = all_once (ones_sum (λ i. times number i n) n o (sum_occurs (map number (numbers 0 n)) n ∙ ap length all ∙ many))
    where
      all : select (λ x. ltb x n) (map number (numbers 0 n)) ≡ map number (numbers 0 n)
      all = select_all (λ x. ltb x n) (map number (numbers 0 n)) (value_each (λ x. ltb x n ≡ true) number 0 n (λ j a b. lt-ltb (number j) n (h j (omega arith))))

  pub each_once : bad_numbers number n ≡ false → EachOnce number n
  each_once e = record { below = below; found = λ i l. at_times number i n (omega (arith, once_each e i l)); once = λ i j a b z. once i j a b z (dec_lt i j) (ℕ_discrete i j) }
    where
      below : (j : ℕ) → j < n → number j < n
      below = once_below (once_each e)

      once : (i j : ℕ) → i < n → j < n → number i ≡ number j → Dec (i < j) → Dec (i ≡ j) → i ≡ j
      once i j a b z p (yes q) = q
      once i j a b z (yes p) (no q) = absurd (omega (arith, times_twice number (number j) n i j p b z refl, once_each e (number j) (below j b)))
      once i j a b z (no p) (no q) =
          let r : j < i = lt_of_le-ne (omega arith) (λ w. q (sym w)) in
          absurd (omega (arith, times_twice number (number j) n j i r a refl z, once_each e (number j) (below j b)))

  pub once_numbers : EachOnce number n → bad_numbers number n ≡ false
  once_numbers o = all_once (λ i l. by i l (dec_le 2 (times number i n)))
    where
      least : (i : ℕ) → i < n → 1 ≤ times number i n
      least i l = let (j, h, e) = o.found i l in times_at number i n j h e

      by : (i : ℕ) → i < n → Dec (2 ≤ times number i n) → times number i n ≡ 1
      by i l (yes t) =
          let (a, b, p, q, e, f) = twice_times number i n t in
          let z : a ≡ b = o.once a b (omega arith) q (e ∙ sym f) in
          absurd (omega (arith, p, z))
      by i l (no t) = omega (arith, t, least i l)
