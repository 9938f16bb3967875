-- A core keeps rules 12, 13 and 14 exactly when its tasks are an accelerated simply periodic set, strokes
-- included, that rises in priority order.
-- Assumes nothing.
use Prim.Native.Nat.{ℕ, ◌+◌, ◌*◌, ◌/◌, ◌≤◌, ◌<◌}
use mathlib.Core.Path.{◌≡◌, refl, sym, ◌∙◌}
use mathlib.Core.Logic.{◌↔◌}
use mathlib.Core.Bool.{true}
use Rattle.std.specs.Prelude.{Some}
use mathlib.Core.List.{List, [], ◌∷◌, ◌++◌}
use native.Mathlib.Nat.{mul-one, one-mul, mul-zero, zero-mul, mul_assoc, mul_comm, mul_right_comm, mul-mul-mul_comm, mul-div_right, add-mul, mul-pos, mul-le-mul_left, mul-le-mul_right, le_of_mul-le-mul_left, le_of_mul-le-mul_right, eq_of_mul-eq-mul_left, eq_of_mul-eq-mul_right, lt_of_mul-lt-mul_left}
use native.Mathlib.Omega.{arith}
use Rattle.fit.specs.Lists.{at, sum, Each, EachPair}
use Rattle.fit.specs.Fits.{stretched, overloaded, within, chain_break, Multiple, Multiples, last_factor, load, exact_load, full_load, blocking, level_load, LevelsFit}
use Rattle.fit.specs.Periodic.{Fraction, whole_number, AtMost, Times, WholeRatio, plus, total, accelerated, utilisation, AcceleratedSet, BlockedSet, Rising}
use Rattle.fit.proofs.Lists.{each_of, each_all, each_between, pairs_of, pairs_both}
use Rattle.fit.proofs.Levels.{multiples_pairs, multiples_last, multiples_level, last_positive}
use Rattle.fit.proofs.Blocking.{levels_full}

module _ (M : ℕ → ℕ) (Q D : ℕ) (q : 1 ≤ Q) (d : 1 ≤ D) where
  -- accelerated periods compare as their factors do
  factors_rise : (i j : ℕ) → AtMost (accelerated M Q D i) (accelerated M Q D j) → M i ≤ M j
  unfolding AtMost accelerated
  factors_rise i j h = le_of_mul-le-mul_left (le_of_mul-le-mul_right h d) q

  periods_rise : (i j : ℕ) → M i ≤ M j → AtMost (accelerated M Q D i) (accelerated M Q D j)
  unfolding AtMost accelerated
  periods_rise i j h = mul-le-mul_right D (mul-le-mul_left Q h)

  -- and are multiples as they are
  factors_times : (i j c : ℕ) → Times c (accelerated M Q D i) (accelerated M Q D j) → Multiple (M i) (M j)
  unfolding Times accelerated Multiple
  factors_times i j c h =
      let a : Q * M j ≡ c * (Q * M i) = eq_of_mul-eq-mul_right D d _ _ h in
      (c, eq_of_mul-eq-mul_left Q q _ _ (a ∙ mul_comm c (Q * M i) ∙ mul_assoc Q (M i) c))

  periods_times : (i j c : ℕ) → M j ≡ M i * c → Times c (accelerated M Q D i) (accelerated M Q D j)
  unfolding Times accelerated
  periods_times i j c h = rw (h, ← (mul_assoc Q (M i) c), mul_comm (Q * M i) c)

  -- so two tasks in rising order have a whole ratio exactly where the second factor is a multiple of the first
  pair_multiple : (i j : ℕ) → WholeRatio (accelerated M Q D i) (accelerated M Q D j) → AtMost (accelerated M Q D i) (accelerated M Q D j) → Multiple (M i) (M j)
  unfolding WholeRatio
  pair_multiple i j w h = let t = w.0 h in factors_times i j t.0 t.1

  multiple_rises : (i j : ℕ) → 1 ≤ M j → Multiple (M i) (M j) → M i ≤ M j
  unfolding Multiple
  multiple_rises i j p m =
      let once : 0 < m.0 = lt_of_mul-lt-mul_left (M i) (rw (mul-zero (M i), ← m.1) p) in
      rw m.1 (rw (mul-one (M i)) at (mul-le-mul_left (M i) once))

  multiple_pair : (i j : ℕ) → 1 ≤ M j → Multiple (M i) (M j) → WholeRatio (accelerated M Q D i) (accelerated M Q D j)
  unfolding WholeRatio Multiple
  multiple_pair i j p m = ((λ h. (m.0, periods_times i j m.0 m.1)), (λ h. (1, periods_times j i 1 (same h))))
    where
      same : AtMost (accelerated M Q D j) (accelerated M Q D i) → M i ≡ M j * 1
      same h = omega (arith, factors_rise j i h, multiple_rises i j p m)

-- a chain is a list of which each pair is a multiple
pairs_chain : (M : ℕ → ℕ) (d : ℕ) (l : List ℕ) → Each (λ i. Multiple d (M i)) l → EachPair (λ i j. Multiple (M i) (M j)) l → Multiples M d l
unfolding Each EachPair Multiples
pairs_chain M d [] a h = tt
pairs_chain M d (i ∷ l) a h = (a.0, pairs_chain M (M i) l h.0 h.1)

from_one : (m : ℕ) → Multiple 1 m
unfolding Multiple
from_one m = (m, sym (one-mul m))

-- one task more in the sum of fractions and in the load
one_more : (E c A b u load : ℕ) → u * (A * c) ≡ load * b → (E * b + u * A) * (A * c) ≡ (E * c + load) * (A * b)
one_more E c A b u load h =
    let x : E * b * (A * c) ≡ E * c * (A * b) = rw (mul_comm A c, mul_comm A b) (mul-mul-mul_comm E b c A) in
    let y : u * A * (A * c) ≡ load * (A * b) = mul_right_comm u A (A * c) ∙ rw h (mul_assoc load b A ∙ rw (mul_comm b A)) in
    add-mul (E * b) (u * A) (A * c) ∙ rw (x, y) (sym (add-mul (E * c) load (A * b)))

-- a task's part of the time
abbrev part : (ℕ → ℕ) → (ℕ → ℕ) → ℕ → ℕ → ℕ → Fraction
part e M Q D i = utilisation (e i) (accelerated M Q D i)

module _ (e M : ℕ → ℕ) (Q D : ℕ) (q : 1 ≤ Q) where
  lower_positive : (l : List ℕ) → Each (λ i. 1 ≤ M i) l → 0 < (total (part e M Q D) l).lower
  unfolding total plus utilisation accelerated whole_number Each
  lower_positive [] p = omega arith
  lower_positive (i ∷ l) p = mul-pos (mul-pos q p.0) (lower_positive l p.1)

  -- the sum of the fractions is the load, of which Q × L is the whole
  total_load : (L : ℕ) (l : List ℕ) → Each (λ i. 1 ≤ M i) l → Each (λ i. Multiple (M i) L) l → (total (part e M Q D) l).upper * (Q * L) ≡ load e M D L l * (total (part e M Q D) l).lower
  unfolding total plus utilisation accelerated whole_number load sum Each Multiple
  total_load L [] p m = zero-mul (Q * L)
  total_load L (i ∷ l) p m =
      let c : ℕ = m.0.0 in
      let a : Q * L ≡ Q * M i * c = rw m.0.1 (sym (mul_assoc Q (M i) c)) in
      let b : L / M i ≡ c = rw m.0.1 (mul-div_right c p.0) in
      let r : (total (part e M Q D) l).upper * (Q * M i * c) ≡ load e M D L l * (total (part e M Q D) l).lower = rw a at (total_load L l p.1 m.1) in
      rw (a, b) (one_more (e i * D) c (Q * M i) (total (part e M Q D) l).lower (total (part e M Q D) l).upper (load e M D L l) r)

  -- so the tasks take at most the part x / y of the time exactly where the load is at most that part of Q × L
  pub total_at_most : (x y L : ℕ) (l : List ℕ) → 1 ≤ L → Each (λ i. 1 ≤ M i) l → Each (λ i. Multiple (M i) L) l → AtMost (total (part e M Q D) l) (record { upper = x; lower = y }) ↔ (y * load e M D L l ≤ x * (Q * L))
  unfolding AtMost
  total_at_most x y L l pos p m =
      let u : ℕ = (total (part e M Q D) l).upper in
      let b : ℕ = (total (part e M Q D) l).lower in
      let left : u * y * (Q * L) ≡ y * load e M D L l * b = mul_right_comm u y (Q * L) ∙ rw (total_load L l p m) (mul_right_comm (load e M D L l) b y ∙ rw (mul_comm (load e M D L l) y)) in
      let right : x * b * (Q * L) ≡ x * (Q * L) * b = mul_right_comm x b (Q * L) in (
        (λ h. le_of_mul-le-mul_right (rw (← left, ← right) (mul-le-mul_right (Q * L) h)) (lower_positive l p)),
        (λ h. le_of_mul-le-mul_right (rw (left, right) (mul-le-mul_right b h)) (mul-pos q pos)),
      )

  -- with a part held for b ticks of the accelerated period of the last task, they take at most the whole time exactly where the load at its
  -- factor, with b × D, is at most Q times that factor
  held_at_most : (b i : ℕ) (l : List ℕ) → 1 ≤ M i → Each (λ j. 1 ≤ M j) l → Each (λ j. Multiple (M j) (M i)) l → AtMost (plus (total (part e M Q D) l) (utilisation b (accelerated M Q D i))) (whole_number 1) ↔ (load e M D (M i) l + b * D ≤ Q * M i)
  unfolding AtMost plus utilisation accelerated whole_number
  held_at_most b i l one p m =
      let low : ℕ = (total (part e M Q D) l).lower in
      let left : ((total (part e M Q D) l).upper * (Q * M i) + b * D * low) * 1 ≡ (load e M D (M i) l + b * D) * low = mul-one _ ∙ rw (total_load (M i) l p m) (sym (add-mul (load e M D (M i) l) (b * D) low)) in
      let right : 1 * (low * (Q * M i)) ≡ Q * M i * low = one-mul _ ∙ mul_comm low (Q * M i) in (
        (λ h. le_of_mul-le-mul_right (rw (← left, ← right) h) (lower_positive l p)),
        (λ h. rw (left, right) (mul-le-mul_right low h)),
      )

module _ (p e s M : ℕ → ℕ) (Q D : ℕ) (q : 1 ≤ Q) (d : 1 ≤ D) (l : List ℕ) (pos : Each (λ i. 1 ≤ M i) l) where
  load_exactly : Multiples M 1 l → AtMost (total (part e M Q D) l) (whole_number 1) ↔ (exact_load e M D l ≤ full_load M Q l)
  unfolding whole_number
  load_exactly m = rw (one-mul (exact_load e M D l), one-mul (full_load M Q l)) at (total_at_most e M Q D q 1 1 (last_factor M 1 l) l (last_positive M 1 l (omega arith) pos) pos (multiples_last M 1 l m))

  -- the same at each task, with the strokes s of those below it
  pub blocked_exactly : Multiples M 1 l → BlockedSet e s M Q D l ↔ LevelsFit e s M Q D l
  unfolding BlockedSet LevelsFit level_load
  blocked_exactly m = ((λ h xs i ys t. (at_level xs i ys t).0 (h xs i ys t)), (λ h xs i ys t. (at_level xs i ys t).1 (h xs i ys t)))
    where
      at_level : (xs : List ℕ) (i : ℕ) (ys : List ℕ) → l ≡ xs ++ i ∷ ys → AtMost (plus (total (part e M Q D) (xs ++ i ∷ [])) (utilisation (blocking s ys) (accelerated M Q D i))) (whole_number 1) ↔ (load e M D (M i) (xs ++ i ∷ []) + blocking s ys * D ≤ Q * M i)
      at_level xs i ys t =
          let (positive, factors) = multiples_level M l m pos xs i ys t in
          held_at_most e M Q D q (blocking s ys) i (xs ++ i ∷ []) (each_between (λ j. 1 ≤ M j) xs i ys t pos) positive factors

  -- The tasks of a core are an accelerated simply periodic set, also with what a task below each may hold the core for, and rise in priority
  -- order exactly when rules 12, 13 and 14 hold of them.
  pub paper_exactly : (AcceleratedSet p e M Q D l × BlockedSet e s M Q D l × Rising M Q D l) ↔ (Each (λ i. Q * M i ≤ p i * D) l × Multiples M 1 l × LevelsFit e s M Q D l)
  unfolding AtMost accelerated whole_number Rising
  paper_exactly = (to, back)
    where
      to : AcceleratedSet p e M Q D l × BlockedSet e s M Q D l × Rising M Q D l → Each (λ i. Q * M i ≤ p i * D) l × Multiples M 1 l × LevelsFit e s M Q D l
      to t =
          let m : Multiples M 1 l = pairs_chain M 1 l (each_all _ l (λ i. from_one (M i))) (pairs_both l (pair_multiple M Q D q d) t.0.simply_periodic t.2) in
          (each_of l (λ i h. omega arith) t.0.faster, m, (blocked_exactly m).0 t.1)

      back : Each (λ i. Q * M i ≤ p i * D) l × Multiples M 1 l × LevelsFit e s M Q D l → AcceleratedSet p e M Q D l × BlockedSet e s M Q D l × Rising M Q D l
      back t =
          let pairs = multiples_pairs M 1 l t.1 in (
            record {
              faster = each_of l (λ i h. omega arith) t.0;
              simply_periodic = pairs_of l (λ i j a b h. multiple_pair M Q D q d i j b h) pos pairs;
              full = (load_exactly t.1).1 (levels_full e s M Q D l t.2);
            },
            (blocked_exactly t.1).1 t.2,
            pairs_of l (λ i j a b h. periods_rise M Q D q d i j (multiple_rises M Q D q d i j b h)) pos pairs,
          )

-- The chain asks for the rise too: a task of period 5 and budget 1 with factor 2 above one of 6 and 1 with factor 1, pivot 2 and divisor 1,
-- have accelerated periods 4 and 2. They are an accelerated simply periodic set, and the chain breaks at task 1.
pub falling_set : AcceleratedSet (at (5 ∷ 6 ∷ [])) (at (1 ∷ 1 ∷ [])) (at (2 ∷ 1 ∷ [])) 2 1 (0 ∷ 1 ∷ []) × (chain_break (at (2 ∷ 1 ∷ [])) 1 (0 ∷ 1 ∷ []) ≡ Some 1)
unfolding AtMost Times WholeRatio plus total accelerated utilisation whole_number Each EachPair chain_break
falling_set = (
  record {
    faster = (omega arith, (omega arith, tt));
    simply_periodic = ((((λ h. absurd (omega arith)), (λ h. (2, refl))), tt), (tt, tt));
    full = omega arith;
  },
  refl,
)

-- Nothing is rounded. With pivot 11, divisor 2 and factor 1 the accelerated period, 11 / 2, is above a period of 5, though its whole part
-- is not. Two tasks of budget 1001 on a period of 2001 are above one, though in thousandths rounded down each is 500.
pub never_rounded : (stretched 11 2 5 1 ≡ true) × (within 11 2 1 ≡ 5) × (overloaded (λ i. 1001) (λ i. 1) 2001 1 (0 ∷ 1 ∷ []) ≡ true) × (1000 * 1001 / 2001 ≡ 500)
unfolding stretched within overloaded load last_factor sum
never_rounded = (refl, refl, refl, refl)
