-- Version 2's order, as a test and as a proposition, and what follows for its positions.
-- Assumes nothing.
use Prim.Native.Nat.{ℕ, zero, suc, ◌+◌, ◌-◌, ◌<◌}
use mathlib.Core.Path.{◌≡◌, refl, sym, ap, subst, ◌∙◌}
use mathlib.Core.Logic.{inl, inr}
use mathlib.Core.Bool.{Bool, true, false, not, ◌&&◌}
use native.Mathlib.Omega.{arith}
use borrow.Author.Tests.{eq-eqb, eqb-true, not-false}
use lib.Dec.{eqb}
use Rattle.sheet.specs.Views.{first_of, core_by_counts}
use Rattle.sheet.proofs.Ranges.{neither}
use Rattle.fit.specs.Priority.{higher, Higher, Above}
use Rattle.fit.proofs.Priority.{higher_true, true_higher, higher_trans}
use Rattle.fit.proofs.Some.{some_none, none_some}
use Rattle.views.specs.Order.{bad_numbers, bad_counts, falls_at, bad_sequence, misordered, InOrder}
use Rattle.views.proofs.Counts.{core_between}
use Rattle.views.proofs.Once.{each_once, once_numbers}

module _ (period number count : ℕ → ℕ) (n c : ℕ) where
  abbrev core : ℕ → ℕ
  core = core_by_counts count c

  -- neighbours on a core, from the test and back
  next_rises : (j : ℕ) → falls_at period number core j ≡ false → core j ≡ core (suc j) → Higher (period j) (number j) (period (suc j)) (number (suc j))
  unfolding falls_at
  next_rises j e h = higher_true _ _ _ _ (not-false _ (rw (eq-eqb (core j) (core (suc j)) h) at e))

  rises_next : (j : ℕ) → (core j ≡ core (suc j) → Higher (period j) (number j) (period (suc j)) (number (suc j))) → falls_at period number core j ≡ false
  unfolding falls_at
  rises_next j h = by (eqb (core j) (core (suc j))) refl
    where
      by : (b : Bool) → eqb (core j) (core (suc j)) ≡ b → (b && not (higher (period j) (number j) (period (suc j)) (number (suc j)))) ≡ false
      by true e = rw (true_higher _ _ _ _ (h (eqb-true _ _ e)))
      by false e = refl

  -- so all tasks of a core rise
  all_rise : (sum : first_of count c ≡ n) (falls : (j : ℕ) → j < n - 1 → falls_at period number core j ≡ false) (i d : ℕ) → i + suc d < n → core i ≡ core (i + suc d) → Higher (period i) (number i) (period (i + suc d)) (number (i + suc d))
  all_rise sum falls i zero h e =
      let one : i + 1 ≡ suc i = omega arith in
      rw one (next_rises i (falls i (omega arith)) (e ∙ ap core one))
  all_rise sum falls i (suc d) h e =
      let one : i + suc (suc d) ≡ suc (i + suc d) = omega arith in
      let same : core (i + suc d) ≡ core i = core_between count c i (i + suc d) (i + suc (suc d)) (omega arith) (omega arith) (omega arith) e in
      let last = next_rises (i + suc d) (falls (i + suc d) (omega arith)) (same ∙ e ∙ ap core one) in
      rw one (higher_trans _ _ _ _ _ _ (all_rise sum falls i d (omega arith) (sym same)) last)

  -- Nothing of 23 is broken exactly when the tasks are in order.
  pub in_order : misordered period number core count n c ≡ false → InOrder period number core count n c
  unfolding misordered bad_counts bad_sequence
  in_order e =
      let a = neither (bad_numbers number n) _ e in
      let b = neither (bad_counts count n c) (bad_sequence period number core n) a.1 in
      let sum : first_of count c ≡ n = eqb-true _ _ (not-false _ b.0) in
      record {
        numbers = each_once number n a.0;
        counts = sum;
        rising = λ i j h l q. rise sum (none_some (falls_at period number core) (n - 1) b.1) i j h l q;
      }
    where
      rise : first_of count c ≡ n → ((j : ℕ) → j < n - 1 → falls_at period number core j ≡ false) → (i j : ℕ) → i < j → j < n → core i ≡ core j → Higher (period i) (number i) (period j) (number j)
      rise sum falls i j h l q =
          let e : i + suc (j - suc i) ≡ j = omega arith in
          subst (λ x. Higher (period i) (number i) (period x) (number x)) e (all_rise sum falls i (j - suc i) (omega arith) (q ∙ ap core (sym e)))

  pub order_in : InOrder period number core count n c → misordered period number core count n c ≡ false
  unfolding misordered bad_counts bad_sequence
  order_in h =
      rw (once_numbers number n h.numbers, eq-eqb _ _ h.counts)
      (some_none (falls_at period number core) (n - 1) (λ j l. rises_next j (λ q. h.rising j (suc j) (omega arith) (omega arith) q)))

  -- The positions of each core are in priority order, by position too.
  pub order_above : InOrder period number core count n c → (i j : ℕ) → i < j → j < n → core i ≡ core j → Above period i j
  unfolding Above
  order_above r i j h l q = by (r.rising i j h l q)
    where
      by : Higher (period i) (number i) (period j) (number j) → Higher (period i) i (period j) j
      by (inl a) = inl a
      by (inr a) = inr (a.0, h)

  pub grouped_sorted : misordered period number core count n c ≡ false → (i j : ℕ) → i < j → j < n → core i ≡ core j → Above period i j
  grouped_sorted e = order_above (in_order e)
