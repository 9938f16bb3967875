-- In version 2's order the tasks of each core stand one after the other, and all of them by core are all positions in turn.
-- Assumes nothing.
use Prim.Native.Nat.{ℕ, zero, suc, ◌+◌, ◌≤◌, ◌<◌}
use mathlib.Core.Path.{◌≡◌, refl, sym, ap, ap₂, ◌∙◌}
use mathlib.Core.List.{List, ◌∷◌, ◌++◌}
use native.Mathlib.Numerals.{add-one}
use native.Mathlib.Omega.{arith}
use native.Mathlib.Decide.{ℕ_discrete}
use Rattle.sheet.specs.Views.{first_of, core_by_counts}
use Rattle.fit.specs.Lists.{numbers, joined, occurs, EachPair}
use Rattle.fit.specs.Priority.{Above, order}
use Rattle.fit.proofs.Lists.{each_of, each_number, joined_next}
use Rattle.fit.proofs.Priority.{order_members, order_holds, order_rising}
use Rattle.fit.proofs.Rising.{occurs_here, occurs_later, rising_unique}
use Rattle.views.specs.Order.{InOrder}
use Rattle.views.proofs.Counts.{first_next, first_rises, core_inside, core_where}
use Rattle.views.proofs.Grouped.{order_above}

-- the numbers from a up
pairs_number : (R : ℕ → ℕ → Type 0) (a n : ℕ) → ((i j : ℕ) → a ≤ i → i < j → j < a + n → R i j) → EachPair R (numbers a n)
unfolding numbers EachPair
pairs_number R a zero h = tt
pairs_number R a (suc n) h = (each_number (R a) (suc a) n (λ j b l. h a j (omega arith) (omega arith) (omega arith)), pairs_number R (suc a) n (λ i j b l m. h i j (omega arith) l (omega arith)))

number_occurs : (x a n : ℕ) → a ≤ x → x < a + n → 1 ≤ occurs x (numbers a n)
unfolding numbers
number_occurs x a zero h l = absurd (omega arith)
number_occurs x a (suc n) h l = by (number_occurs x (suc a) n) (ℕ_discrete a x)
  where
    by : (suc a ≤ x → x < suc a + n → 1 ≤ occurs x (numbers (suc a) n)) → Dec (a ≡ x) → 1 ≤ occurs x (a ∷ numbers (suc a) n)
    by next (yes e) = rw e (occurs_here x (numbers (suc x) n))
    by next (no e) = occurs_later x a (numbers (suc a) n) (next (omega (arith, e)) (omega arith))

numbers_append : (a n m : ℕ) → numbers a n ++ numbers (a + n) m ≡ numbers a (n + m)
unfolding numbers
numbers_append a zero m =
    let z : a + 0 ≡ a = omega arith in
    let y : 0 + m ≡ m = omega arith in
    rw (z, y)
numbers_append a (suc n) m =
    let z : a + suc n ≡ suc a + n = omega arith in
    let y : suc n + m ≡ suc (n + m) = omega arith in
    rw (z, y) (ap (λ (l : List ℕ). a ∷ l) (numbers_append (suc a) n m))

module _ (period number count : ℕ → ℕ) (n c : ℕ) (h : InOrder period number (core_by_counts count c) count n c) where
  abbrev core : ℕ → ℕ
  core = core_by_counts count c

  -- The tasks of core k in priority order are its positions.
  pub core_positions : (k : ℕ) → k < c → order period core k n ≡ numbers (first_of count k) (count k)
  core_positions k below =
      rising_unique period _ _ (order_rising period core k n)
      (pairs_number (Above period) (first_of count k) (count k) (λ i j a l b. order_above period number count n c h i j l (inside j b) (here i a (omega arith) ∙ sym (here j (omega arith) b))))
      (each_of _ (λ x m. number_occurs x (first_of count k) (count k) (low x m.0 m.1) (high x m.0 m.1)) (order_members period core k n))
      (each_number _ (first_of count k) (count k) (λ x a b. order_holds period core k n x (inside x b) (here x a b)))
    where
      inside : (x : ℕ) → x < first_of count k + count k → x < n
      inside x b = omega (arith, h.counts, first_rises count (suc k) c below, first_next count k)

      here : (x : ℕ) → first_of count k ≤ x → x < first_of count k + count k → core x ≡ k
      here x a b = core_inside count c k x a (omega (arith, first_next count k)) below

      low : (x : ℕ) → x < n → core x ≡ k → first_of count k ≤ x
      low x b e = rw (← e) (core_where count c x (omega (arith, h.counts))).1

      high : (x : ℕ) → x < n → core x ≡ k → x < first_of count k + count k
      high x b e = omega (arith, first_next count k, rw e at (core_where count c x (omega (arith, h.counts))).2)

  -- Those of the first m cores together are the first positions.
  pub joined_positions : (m : ℕ) → m ≤ c → joined (λ k. order period core k n) (numbers 0 m) ≡ numbers 0 (first_of count m)
  unfolding joined numbers first_of
  joined_positions zero l = refl
  joined_positions (suc m) l =
      let next : joined (λ k. order period core k n) (numbers 0 (suc m)) ≡ joined (λ k. order period core k n) (numbers 0 m) ++ order period core m n = rw (add-one m) at (joined_next (λ k. order period core k n) m) in
      let start : 0 + first_of count m ≡ first_of count m = omega arith in
      next ∙ ap₂ ◌++◌ (joined_positions m (omega arith)) (core_positions m l) ∙ rw start at (numbers_append 0 (first_of count m) (count m))
