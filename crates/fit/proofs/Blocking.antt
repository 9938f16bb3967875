-- The load at each task with what a task below it may hold the core for: as a test, as a fact, in one pass, and beside the load of the whole
-- list.
-- Assumes nothing.
use Prim.Native.Nat.{ℕ, ◌+◌, ◌-◌, ◌*◌, ◌/◌, ◌≤◌, ◌<◌, min, max, zero-le}
use mathlib.Core.Path.{◌≡◌, refl, ap, subst, ◌∙◌}
use mathlib.Core.Logic.{◌↔◌}
use mathlib.Core.Bool.{Bool, true, false, ◌||◌, or-true}
use mathlib.Core.List.{List, [], ◌∷◌, ◌++◌, append-nil}
use native.Mathlib.Nat.{max-eq_left, max-eq_right, mul-one, zero-mul, mul-div_right, div_self, le-div_iff_mul-le, mul-le-mul_right, le_trans}
use native.Mathlib.Omega.{arith}
use native.Mathlib.Decide.{dec_le, dec_lt}
use borrow.Author.Tests.{ltb-false, lt-ltb, le-ltb}
use lib.Dec.{ltb}
use lib.Seq.{append_snoc}
use Rattle.sheet.proofs.Ranges.{neither}
use Rattle.fit.specs.Lists.{sum, at, Each}
use Rattle.fit.specs.Fits.{Multiple, Multiples, last_factor, load, exact_load, full_load, overloaded, blocking, level_load, overloaded_below, level_overloaded, LevelsFit, within}
use Rattle.fit.proofs.Lists.{each_of, each_append, each_halves, each_split, each_between, sum_append}
use Rattle.fit.proofs.Levels.{multiple_self, multiple_trans, load_scale, level_load_lem}

module _ (e q M : ℕ → ℕ) (Q D : ℕ) where
  below_fits : (xs ys : List ℕ) (i : ℕ) (zs : List ℕ) → overloaded_below e q M Q D xs (ys ++ i ∷ zs) ≡ false → level_load e q M D (xs ++ ys) i zs ≤ Q * M i
  unfolding overloaded_below
  below_fits xs [] i zs h = rw (append-nil xs) (ltb-false _ _ (neither _ _ h).0)
  below_fits xs (j ∷ ys) i zs h = rw (append_snoc xs j ys) at (below_fits (xs ++ j ∷ []) ys i zs (neither (ltb (Q * M j) (level_load e q M D xs j (ys ++ i ∷ zs))) _ h).1)

  fits_below : (xs l : List ℕ) → ((ys : List ℕ) (i : ℕ) (zs : List ℕ) → l ≡ ys ++ i ∷ zs → level_load e q M D (xs ++ ys) i zs ≤ Q * M i) → overloaded_below e q M Q D xs l ≡ false
  unfolding overloaded_below
  fits_below xs [] h = refl
  fits_below xs (j ∷ l) h =
      let first : level_load e q M D xs j l ≤ Q * M j = rw (append-nil xs) at (h [] j l refl) in
      rw (le-ltb _ _ first) (fits_below (xs ++ j ∷ []) l (λ ys i zs s. rw (append_snoc xs j ys) (h (j ∷ ys) i zs (ap (λ (t : List ℕ). j ∷ t) s))))

  -- the test is false exactly where the load at each task is at most Q × M
  pub levels_fit_exactly : (l : List ℕ) → (level_overloaded e q M Q D l ≡ false) ↔ LevelsFit e q M Q D l
  unfolding level_overloaded LevelsFit
  levels_fit_exactly l = ((λ h xs i ys s. below_fits [] xs i ys (subst (λ (t : List ℕ). overloaded_below e q M Q D [] t ≡ false) s h)), fits_below [] l)

-- Rule 14 in one pass: `load` is the load of the tasks before the list at the last factor d among them, `room` the least that one of them has
-- to spare. A stroke is over where it takes more than the room.
unfoldable pub over_along : (e q M : ℕ → ℕ) (Q D load d room : ℕ) → List ℕ → Bool
over_along e q M Q D load d room [] = false
over_along e q M Q D load d room (i ∷ l) =
    let now : ℕ = load * (M i / d) + e i * D in
    ltb room ((q i - 1) * D) || (ltb (Q * M i) now || over_along e q M Q D now (M i) (min room (Q * M i - now)) l)

-- before the first task there is nothing, and room for every stroke of one byte and every divisor of four
unfoldable pub over_from_first : (e q M : ℕ → ℕ) (Q D : ℕ) → List ℕ → Bool
over_from_first e q M Q D l = over_along e q M Q D 0 1 1099511627776 l

-- what the tests of the pass come to: a is the own stroke, b the longest of those below, f is Q × M and r the rest of the list
one_room : (room a b f level : ℕ) (r : Bool) → (ltb room a || (ltb f level || (ltb (min room (f - level)) b || r))) ≡ (ltb room (max a b) || (ltb f (level + b) || r))
one_room room a b f level r = by (dec_lt room a) (dec_lt f level) (dec_lt room b) (dec_lt f (level + b))
  where
    by : Dec (room < a) → Dec (f < level) → Dec (room < b) → Dec (f < level + b) → (ltb room a || (ltb f level || (ltb (min room (f - level)) b || r))) ≡ (ltb room (max a b) || (ltb f (level + b) || r))
    by (yes h) _ _ _ = rw (lt-ltb room a h, lt-ltb room (max a b) (omega arith))
    by (no h) (yes k) _ _ = rw (le-ltb room a (omega arith), lt-ltb f level k, lt-ltb f (level + b) (omega arith), or-true)
    by (no h) (no k) (yes t) _ = rw (le-ltb room a (omega arith), le-ltb f level (omega arith), lt-ltb (min room (f - level)) b (omega arith), lt-ltb room (max a b) (omega arith))
    by (no h) (no k) (no t) (yes u) = rw (le-ltb room a (omega arith), le-ltb f level (omega arith), lt-ltb (min room (f - level)) b (omega arith), lt-ltb f (level + b) u, or-true)
    by (no h) (no k) (no t) (no u) = rw (le-ltb room a (omega arith), le-ltb f level (omega arith), le-ltb (min room (f - level)) b (omega arith), le-ltb room (max a b) (omega arith), le-ltb f (level + b) (omega arith))

-- the larger of two, times D
max_times : (a b D : ℕ) → max a b * D ≡ max (a * D) (b * D)
max_times a b D = by (dec_le a b)
  where
    by : Dec (a ≤ b) → max a b * D ≡ max (a * D) (b * D)
    by (yes h) = rw (max-eq_right h, max-eq_right (mul-le-mul_right D h))
    by (no h) =
        let k : b ≤ a = omega arith in
        rw (max-eq_left k, max-eq_left (mul-le-mul_right D k))

-- no task holds the core for longer than the longest stroke without its first tick
blocking_most : (q : ℕ → ℕ) (b : ℕ) (l : List ℕ) → Each (λ i. q i - 1 ≤ b) l → blocking q l ≤ b
unfolding blocking Each
blocking_most q b [] h = zero-le
blocking_most q b (i ∷ l) h = omega (arith, h.0, blocking_most q b l h.1)

-- the tasks xs before a list, each factor of which the last one, d, is a multiple of
pub record Before (M : ℕ → ℕ) (d : ℕ) (xs : List ℕ) : Type 0 where
  pub positive : Each (λ i. 0 < M i) xs
  pub multiples : Each (λ i. Multiple (M i) d) xs

module _ (e q M : ℕ → ℕ) (Q D : ℕ) where
  -- the load at the next task: that at the last one, brought to its factor, and its own
  next_level : (d i : ℕ) (xs : List ℕ) → 0 < d → 0 < M i → Multiple d (M i) → Before M d xs → load e M D (M i) (xs ++ i ∷ []) ≡ load e M D d xs * (M i / d) + e i * D
  unfolding load sum Multiple
  next_level d i xs p pi m b =
      let c : ℕ = m.0 in
      let quotient : M i / d ≡ c = rw m.1 (mul-div_right c p) in
      let scaled : load e M D (M i) xs ≡ load e M D d xs * c = rw m.1 (load_scale e M D d c xs b.positive b.multiples) in
      let own : e i * D * (M i / M i) ≡ e i * D = rw (div_self pi, mul-one) in
      rw quotient (omega (arith, sum_append (λ j. e j * D * (M i / M j)) xs (i ∷ []), scaled, own))

  next_before : (d i : ℕ) (xs : List ℕ) → 0 < M i → Multiple d (M i) → Before M d xs → Before M (M i) (xs ++ i ∷ [])
  unfolding Each
  next_before d i xs p m b =
      record {
        positive = each_append _ xs (i ∷ []) b.positive (p, tt);
        multiples = each_append _ xs (i ∷ []) (each_of xs (λ j h. multiple_trans (M j) d (M i) h m) b.multiples) (multiple_self (M i), tt);
      }

  along_exactly : (d room : ℕ) (xs l : List ℕ) → 0 < d → Before M d xs → Multiples M d l → Each (λ i. 0 < M i) l → over_along e q M Q D (load e M D d xs) d room l ≡ (ltb room (blocking q l * D) || overloaded_below e q M Q D xs l)
  unfolding over_along overloaded_below blocking Multiples Each level_load
  along_exactly d room xs [] p b m f = rw (zero-mul D, le-ltb room 0 zero-le)
  along_exactly d room xs (i ∷ l) p b m f =
      let level : ℕ = load e M D (M i) (xs ++ i ∷ []) in
      rw (← (next_level d i xs p f.0 m.0 b), along_exactly (M i) (min room (Q * M i - level)) (xs ++ i ∷ []) l f.0 (next_before d i xs f.0 m.0 b) m.1 f.1, max_times (q i - 1) (blocking q l) D)
      (one_room room ((q i - 1) * D) (blocking q l * D) (Q * M i) level (overloaded_below e q M Q D (xs ++ i ∷ []) l))

  -- the pass over the list gives the test, where no stroke is too long for the room that it begins with
  pub over_exactly : (longest : ℕ) (l : List ℕ) → Multiples M 1 l → Each (λ i. 0 < M i) l → Each (λ i. q i ≤ longest) l → longest * D ≤ 1099511627776 → over_from_first e q M Q D l ≡ level_overloaded e q M Q D l
  unfolding over_from_first level_overloaded load sum Each
  over_exactly longest l m f s small =
      let room : blocking q l * D ≤ 1099511627776 = le_trans (mul-le-mul_right D (blocking_most q longest l (each_of l (λ i h. omega arith) s))) small in
      along_exactly 1 1099511627776 [] l (omega arith) (record { positive = tt; multiples = tt }) m f ∙ rw (le-ltb 1099511627776 (blocking q l * D) room)

-- Where the factors are no chain, as 3, 2, 6, the pass and the rule differ.
pub over_unchained : (over_from_first (at (5 ∷ 1 ∷ 1 ∷ [])) (λ i. 1) (at (3 ∷ 2 ∷ 6 ∷ [])) 2 1 (0 ∷ 1 ∷ 2 ∷ []) ≡ false) × (level_overloaded (at (5 ∷ 1 ∷ 1 ∷ [])) (λ i. 1) (at (3 ∷ 2 ∷ 6 ∷ [])) 2 1 (0 ∷ 1 ∷ 2 ∷ []) ≡ true)
unfolding over_from_first over_along level_overloaded overloaded_below level_load load sum blocking
over_unchained = (refl, refl)

-- Rule 14 with any blocking term, which is given the tasks above and below a task. With `blocking` of those below it is the rule.
pub overloaded_by : (B : List ℕ → List ℕ → ℕ) (e M : ℕ → ℕ) (Q D : ℕ) → List ℕ → List ℕ → Bool
overloaded_by B e M Q D xs [] = false
overloaded_by B e M Q D xs (i ∷ l) = ltb (Q * M i) (load e M D (M i) (xs ++ i ∷ []) + B xs l * D) || overloaded_by B e M Q D (xs ++ i ∷ []) l

pub blocked_below : (e q M : ℕ → ℕ) (Q D : ℕ) (xs l : List ℕ) → overloaded_below e q M Q D xs l ≡ overloaded_by (λ ys zs. blocking q zs) e M Q D xs l
unfolding overloaded_below level_load overloaded_by
blocked_below e q M Q D xs [] = refl
blocked_below e q M Q D xs (i ∷ l) = ap (λ b. ltb (Q * M i) (load e M D (M i) (xs ++ i ∷ []) + blocking q l * D) || b) (blocked_below e q M Q D (xs ++ i ∷ []) l)

-- With the strokes of the tasks above in it, it would refuse a core that fits: a stroke of 3 above a task that leaves no room.
pub above_differs : (level_overloaded (at (3 ∷ 6 ∷ [])) (at (3 ∷ 1 ∷ [])) (at (1 ∷ 2 ∷ [])) 6 1 (0 ∷ 1 ∷ []) ≡ false) × (overloaded_by (λ xs ys. blocking (at (3 ∷ 1 ∷ [])) (xs ++ ys)) (at (3 ∷ 6 ∷ [])) (at (1 ∷ 2 ∷ [])) 6 1 [] (0 ∷ 1 ∷ []) ≡ true)
unfolding level_overloaded overloaded_below level_load load sum blocking overloaded_by
above_differs = (refl, refl)

-- And so it would with the sum of the strokes below for the longest: strokes of 3 and 2 below a task that has room for 2 ticks.
pub sum_differs : (level_overloaded (at (1 ∷ 4 ∷ 4 ∷ [])) (at (1 ∷ 3 ∷ 2 ∷ [])) (at (1 ∷ 3 ∷ 6 ∷ [])) 3 1 (0 ∷ 1 ∷ 2 ∷ []) ≡ false) × (overloaded_by (λ xs ys. sum (λ i. at (1 ∷ 3 ∷ 2 ∷ []) i - 1) ys) (at (1 ∷ 4 ∷ 4 ∷ [])) (at (1 ∷ 3 ∷ 6 ∷ [])) 3 1 [] (0 ∷ 1 ∷ 2 ∷ []) ≡ true)
unfolding level_overloaded overloaded_below level_load load sum blocking overloaded_by
sum_differs = (refl, refl)

-- a list is empty or has a last task, whose factor is the last one
pub data Ended : List ℕ → Type 0 where
  empty : Ended []
  last : (xs : List ℕ) (i : ℕ) → Ended (xs ++ i ∷ [])

ended : (l : List ℕ) → Ended l
ended [] = empty
ended (x ∷ l) = by l (ended l)
  where
    by : (l : List ℕ) → Ended l → Ended (x ∷ l)
    by _ empty = last [] x
    by _ (last xs i) = last (x ∷ xs) i

factor_last : (M : ℕ → ℕ) (d : ℕ) (xs : List ℕ) (i : ℕ) → last_factor M d (xs ++ i ∷ []) ≡ M i
unfolding last_factor
factor_last M d [] i = refl
factor_last M d (x ∷ xs) i = factor_last M (M x) xs i

-- where the load at each task is at most Q × M the load of the whole list is at most one: it is that at the last task
pub levels_full : (e q M : ℕ → ℕ) (Q D : ℕ) (l : List ℕ) → LevelsFit e q M Q D l → exact_load e M D l ≤ full_load M Q l
unfolding LevelsFit level_load load sum
levels_full e q M Q D l h = by l (ended l) h
  where
    by : (l : List ℕ) → Ended l → LevelsFit e q M Q D l → exact_load e M D l ≤ full_load M Q l
    by _ empty h = zero-le
    by _ (last xs i) h = rw (factor_last M 1 xs i) (omega (arith, h xs i [] refl))

-- shorter strokes fit where longer ones do
blocking_least : (q r : ℕ → ℕ) (l : List ℕ) → Each (λ i. r i ≤ q i) l → blocking r l ≤ blocking q l
unfolding blocking Each
blocking_least q r [] h = zero-le
blocking_least q r (i ∷ l) h = omega (arith, h.0, blocking_least q r l h.1)

pub levels_fewer : (e q r M : ℕ → ℕ) (Q D : ℕ) (l : List ℕ) → Each (λ i. r i ≤ q i) l → LevelsFit e q M Q D l → LevelsFit e r M Q D l
unfolding LevelsFit level_load Each
levels_fewer e q r M Q D l f h xs i ys s =
    let less : blocking r ys ≤ blocking q ys = blocking_least q r ys (each_halves _ xs (i ∷ ys) (subst (Each (λ j. r j ≤ q j)) s f)).1.1 in
    omega (arith, h xs i ys s, mul-le-mul_right D less)

-- where every stroke is of one tick, the load at each task is at most Q × M exactly where the whole load is at most one
module _ (e q M : ℕ → ℕ) (Q D : ℕ) (l : List ℕ) (m : Multiples M 1 l) (f : Each (λ i. 0 < M i) l) (ones : Each (λ i. q i ≡ 1) l) where
  pub levels_unstroked : LevelsFit e q M Q D l ↔ (exact_load e M D l ≤ full_load M Q l)
  unfolding LevelsFit level_load Each
  levels_unstroked = (levels_full e q M Q D l, back)
    where
      back : exact_load e M D l ≤ full_load M Q l → LevelsFit e q M Q D l
      back h xs i ys s =
          let none : blocking q ys ≤ 0 = blocking_most q 0 ys (each_of ys (λ j o. omega arith) (each_halves _ xs (i ∷ ys) (subst (Each (λ j. q j ≡ 1)) s ones)).1.1) in
          omega (arith, level_load_lem e M D Q l m f h xs i ys s, mul-le-mul_right D none)

  pub over_unstroked : level_overloaded e q M Q D l ≡ overloaded e M Q D l
  unfolding overloaded
  over_unstroked = by (dec_lt (full_load M Q l) (exact_load e M D l))
    where
      by : Dec (full_load M Q l < exact_load e M D l) → level_overloaded e q M Q D l ≡ ltb (full_load M Q l) (exact_load e M D l)
      by (yes h) = rw (lt-ltb _ _ h) (over (level_overloaded e q M Q D l) refl)
        where
          over : (b : Bool) → level_overloaded e q M Q D l ≡ b → b ≡ true
          over true t = refl
          over false t = absurd (omega (arith, levels_unstroked.0 ((levels_fit_exactly e q M Q D l).0 t)))
      by (no h) = rw (le-ltb (full_load M Q l) (exact_load e M D l) (omega arith)) ((levels_fit_exactly e q M Q D l).1 (levels_unstroked.1 (omega arith)))

-- each budget is within w of its factor
pub budget_within : (e q M : ℕ → ℕ) (Q D : ℕ) (l : List ℕ) → 0 < D → Each (λ i. 0 < M i) l → LevelsFit e q M Q D l → Each (λ i. e i ≤ within Q D (M i)) l
unfolding LevelsFit level_load load sum within
budget_within e q M Q D l d f h = each_split (λ i. e i ≤ within Q D (M i)) l (λ xs i ys s. (le-div_iff_mul-le d).1 (budget xs i ys s))
  where
    budget : (xs : List ℕ) (i : ℕ) (ys : List ℕ) → l ≡ xs ++ i ∷ ys → e i * D ≤ Q * M i
    budget xs i ys s =
        let own : e i * D * (M i / M i) ≡ e i * D = rw (div_self (each_between (λ j. 0 < M j) xs i ys s f), mul-one) in
        omega (arith, h xs i ys s, sum_append (λ j. e j * D * (M i / M j)) xs (i ∷ []))
