-- Where each old number stands once, a task's position and its number name each other, and the order of a core by number is that by
-- position.
-- Assumes nothing.
use Prim.Native.Nat.{ℕ, zero, suc, ◌≤◌, ◌<◌}
use mathlib.Core.Path.{◌≡◌, sym, ap, subst₂, ◌∙◌}
use mathlib.Core.Logic.{inl, inr}
use mathlib.Core.Bool.{cond}
use mathlib.Core.List.{map}
use native.Mathlib.Omega.{arith}
use native.Mathlib.Decide.{ℕ_discrete}
use borrow.Author.Tests.{eq-eqb, ne_eqb}
use lib.Dec.{eqb}
use Rattle.sheet.specs.Records.{Figures}
use Rattle.sheet.specs.Views.{position_of, renumbered}
use Rattle.fit.specs.Lists.{occurs, Each}
use Rattle.fit.specs.Priority.{Above, Higher, order}
use Rattle.fit.specs.Cores.{order_on}
use Rattle.fit.proofs.Lists.{each_of, pairs_of}
use Rattle.fit.proofs.Priority.{order_members, order_holds, order_rising}
use Rattle.fit.proofs.Rising.{occurs_map, each_map, pairs_map, rising_unique}
use Rattle.views.specs.Order.{EachOnce}

-- the position that is found has the number, where some position has it
position_holds : (number : ℕ → ℕ) (n i j : ℕ) → j < n → number j ≡ i → (position_of number n i < n) × (number (position_of number n i) ≡ i)
unfolding position_of
position_holds number zero i j h e = absurd (omega arith)
position_holds number (suc n) i j h e = by (λ q. position_holds number n i j q e) (ℕ_discrete (number n) i) (ℕ_discrete j n)
  where
    by : (j < n → (position_of number n i < n) × (number (position_of number n i) ≡ i)) → Dec (number n ≡ i) → Dec (j ≡ n) → (cond (eqb (number n) i) n (position_of number n i) < suc n) × (number (cond (eqb (number n) i) n (position_of number n i)) ≡ i)
    by next (yes q) d = rw (eq-eqb (number n) i q) (omega arith, q)
    by next (no q) (yes d) = absurd (q (ap number (sym d) ∙ e))
    by next (no q) (no d) =
        let w = next (omega (arith, d)) in
        rw (ne_eqb (number n) i q) (omega (arith, w.0), w.1)

module _ (number : ℕ → ℕ) (n : ℕ) (h : EachOnce number n) where
  pub position_below : (i : ℕ) → i < n → position_of number n i < n
  position_below i q =
      let (j, b, e) = h.found i q in
      (position_holds number n i j b e).0

  pub number_position : (i : ℕ) → i < n → number (position_of number n i) ≡ i
  number_position i q =
      let (j, b, e) = h.found i q in
      (position_holds number n i j b e).1

  pub position_number : (j : ℕ) → j < n → position_of number n (number j) ≡ j
  position_number j q = h.once _ _ (position_below (number j) (h.below j q)) q (number_position (number j) (h.below j q))

-- figures by position, whose tasks on one core stand in priority order by number
module _ (f : Figures) (number : ℕ → ℕ) (h : EachOnce number f.tasks) (rising : (i j : ℕ) → i < j → j < f.tasks → f.core i ≡ f.core j → Higher (f.period i) (number i) (f.period j) (number j)) where
  abbrev pub position : ℕ → ℕ
  position = position_of number f.tasks

  abbrev pub numbered : Figures
  numbered = renumbered position f

  -- priority by position is priority by number
  own_period : (j : ℕ) → j < f.tasks → f.period (position (number j)) ≡ f.period j
  own_period j b = ap f.period (position_number number f.tasks h j b)

  numbered_above : (i j : ℕ) → i < f.tasks → j < f.tasks → f.core i ≡ f.core j → Above f.period i j → Above numbered.period (number i) (number j)
  unfolding Above
  numbered_above i j a b c (inl q) = inl (subst₂ ◌<◌ (sym (own_period i a)) (sym (own_period j b)) q)
  numbered_above i j a b c (inr q) = subst₂ (λ x y. Higher x (number i) y (number j)) (sym (own_period i a)) (sym (own_period j b)) (rising i j q.1 b c)

  -- the order of core k by number
  pub numbered_order : (k : ℕ) → order_on numbered k ≡ map number (order_on f k)
  unfolding order_on
  numbered_order k =
      rising_unique numbered.period _ _ (order_rising numbered.period numbered.core k f.tasks)
      (pairs_map (Above numbered.period) number (order f.period f.core k f.tasks) (pairs_of _ (λ i j a b q. numbered_above i j a.0 b.0 (a.1 ∙ sym b.1) q) members (order_rising f.period f.core k f.tasks)))
      (each_of _ back (order_members numbered.period numbered.core k f.tasks))
      (each_map _ number _ (each_of _ to members))
    where
      members : Each (λ i. (i < f.tasks) × (f.core i ≡ k)) (order f.period f.core k f.tasks)
      members = order_members f.period f.core k f.tasks

      to : (j : ℕ) → (j < f.tasks) × (f.core j ≡ k) → 1 ≤ occurs (number j) (order numbered.period numbered.core k f.tasks)
      to j m = order_holds numbered.period numbered.core k f.tasks (number j) (h.below j m.0) (ap f.core (position_number number f.tasks h j m.0) ∙ m.1)

      back : (i : ℕ) → (i < f.tasks) × (numbered.core i ≡ k) → 1 ≤ occurs i (map number (order f.period f.core k f.tasks))
      back i m =
          rw (number_position number f.tasks h i m.0) at
          (occurs_map number (position i) (order f.period f.core k f.tasks) (order_holds f.period f.core k f.tasks (position i) (position_below number f.tasks h i m.0) m.1))
