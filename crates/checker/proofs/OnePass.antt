-- Rules 13 and 14 in one pass over a core's tasks, step by step as the code goes.
-- Assumes nothing.
use Prim.Native.Nat.{ℕ, suc, ◌+◌, ◌-◌, ◌*◌, ◌/◌, ◌%◌, ◌≤◌, ◌<◌, min, zero-le}
use mathlib.Core.Path.{◌≡◌, refl, sym, subst, ◌∙◌}
use mathlib.Core.Bool.{Bool, true, false, or-true}
use Rattle.std.specs.Prelude.{Option, None, Some, Result, Ok, Err}
use Rattle.sheet.specs.declared.Refusal.TheVariants.{Chain}
use Rattle.sheet.specs.declared.Rejection.{Rejection}
use mathlib.Core.List.{List, ◌∷◌}
use native.Mathlib.Nat.{mul-le-mul_right, le_trans, div-add-mod'}
use native.Mathlib.Numerals.{add-one}
use native.Mathlib.Omega.{arith}
use borrow.Author.Tests.{lt-ltb, le-ltb, eq-eqb, ne_eqb}
use lib.Dec.{eqb}
use lib.ListN.{length, get_or, drop, drop_of_length-le}
use lib.Seq.{drop-cons}
use Rattle.sheet.specs.Records.{factor_at}
use Rattle.sheet.specs.Views.{stroke_of_position}
use Rattle.fit.specs.Lists.{Each}
use Rattle.fit.specs.Fits.{Multiples, chain_break, level_overloaded}
use Rattle.fit.proofs.Lists.{each_at, each_of, each_all}
use Rattle.fit.proofs.Levels.{chain_multiples}
use Rattle.fit.proofs.Blocking.{over_along, over_from_first, over_exactly}
use Rattle.fit.proofs.Passes.{level_bound}
use Rattle.checker.specs.Steps.{judged}

-- the quotient tells whether a number is a multiple
times_rest : (m d : ℕ) → m / d * d ≡ m → eqb (m % d) 0 ≡ true
times_rest m d e = eq-eqb (m % d) 0 (omega (arith, div-add-mod' m d))

times_break : (m d : ℕ) → (m / d * d ≡ m → ⊥) → eqb (m % d) 0 ≡ false
times_break m d e = ne_eqb (m % d) 0 (λ z. e (omega (arith, div-add-mod' m d)))

pub times_within : (m d : ℕ) → m / d * d ≤ m
times_within m d = omega (arith, div-add-mod' m d)

-- the rules from place i on: the factor before it is d
pub record Passing (e q M : ℕ → ℕ) (Q D : ℕ) (l : List ℕ) (load d room i : ℕ) : Type 0 where
  pub chain : chain_break M 1 l ≡ chain_break M d (drop i l)
  pub over : Multiples M 1 l → Each (λ j. 0 < M j) l → level_overloaded e q M Q D l ≡ over_along e q M Q D load d room (drop i l)
  pub bound : load ≤ 65535 * d
  pub above : 0 < d

-- before the first task there is room for every stroke: it is of one byte, and the divisor of four
pub pass_start : (e q M : ℕ → ℕ) (Q D : ℕ) (l : List ℕ) → Each (λ i. q i ≤ 255) l → D < 4294967296 → Passing e q M Q D l 0 1 1099511627776 0
unfolding over_from_first
pass_start e q M Q D l short small = record { chain = refl; over = λ m f. sym (over_exactly e q M Q D 255 l m f short (omega arith)); bound = zero-le; above = omega arith }

-- a core that is over
over_judged : (o : Option ℕ) (b : Bool) → (o ≡ None → b ≡ true) → judged o true ≡ judged o b
unfolding judged
over_judged None b h = rw (h refl)
over_judged (Some i) b h = refl

module _ (e q M : ℕ → ℕ) (Q D : ℕ) (l : List ℕ) (load d room i : ℕ) (h : i < length l) (pos : Each (λ j. 0 < M j) l) (k : Passing e q M Q D l load d room i) (m c : ℕ) (em : m ≡ M (get_or l i 0)) (ec : c ≡ m / d) where
  next : drop i l ≡ get_or l i 0 ∷ drop (suc i) l
  next = drop-cons l i 0 h

  pub pass_break : (c * d ≡ m → ⊥) → Err (record { word = Chain; place = get_or l i 0 }) ≡ judged (chain_break M 1 l) (level_overloaded e q M Q D l)
  unfolding chain_break judged
  pass_break b =
      let z : eqb (M (get_or l i 0) % d) 0 ≡ false = rw em at (times_break m d (rw ec at b)) in
      rw (k.chain, next, z)

  -- the load brought to the next factor stays in range
  pub pass_fits : m < 4294967296 → load * c ≤ 281470681677825
  pass_fits small = rw ec (level_bound load d m 0 0 k.bound small (omega arith) (omega arith)).0

  whole_over : (r : Result Bool (Rejection ℕ)) → (Multiples M 1 l → level_overloaded e q M Q D l ≡ true) → r ≡ judged (chain_break M 1 l) true → r ≡ judged (chain_break M 1 l) (level_overloaded e q M Q D l)
  whole_over r w t = t ∙ over_judged (chain_break M 1 l) (level_overloaded e q M Q D l) (λ z. w (chain_multiples M 1 l z))

  module _ (x s : ℕ) (ex : x ≡ q (get_or l i 0)) (es : s ≡ (x - 1) * D) where
    pub pass_stroke : (r : Result Bool (Rejection ℕ)) → room < s → r ≡ judged (chain_break M 1 l) true → r ≡ judged (chain_break M 1 l) (level_overloaded e q M Q D l)
    unfolding over_along
    pass_stroke r t = whole_over r (λ w. k.over w pos ∙ rw (next, ← ex, ← es, lt-ltb room s t))

    module _ (y level full : ℕ) (ey : y ≡ e (get_or l i 0)) (en : level ≡ load * c + y * D) (ef : full ≡ Q * m) where
      level_is : level ≡ load * (M (get_or l i 0) / d) + e (get_or l i 0) * D
      level_is = en ∙ rw (ec, em, ey)

      full_is : full ≡ Q * M (get_or l i 0)
      full_is = ef ∙ rw em

      pub pass_over : (r : Result Bool (Rejection ℕ)) → full < level → r ≡ judged (chain_break M 1 l) true → r ≡ judged (chain_break M 1 l) (level_overloaded e q M Q D l)
      unfolding over_along
      pass_over r t = whole_over r (λ w. k.over w pos ∙ rw (next, ← level_is, ← full_is, lt-ltb full level t, or-true))

      pub pass_turn : (n : ℕ) → c * d ≡ m → s ≤ room → level ≤ full → n ≡ min room (full - level) → Q < 65536 → Passing e q M Q D l level m n (i + 1)
      unfolding chain_break over_along
      pass_turn n b a f en small =
          let z : eqb (M (get_or l i 0) % d) 0 ≡ true = rw em at (times_rest m d (rw ec at b)) in
          let g : full ≤ 65535 * m = rw ef (mul-le-mul_right m (omega arith)) in
          record {
            chain = k.chain ∙ rw (next, z, add-one i, em);
            over = λ w p. k.over w p ∙ rw (next, ← ex, ← es, ← level_is, ← full_is, ← en, le-ltb room s a, le-ltb full level f, add-one i, em);
            bound = le_trans f g;
            above = rw em (each_at (λ j. 0 < M j) 0 l i h pos);
          }

pub pass_end : (e q M : ℕ → ℕ) (Q D : ℕ) (l : List ℕ) (load d room i : ℕ) → length l ≤ i → Each (λ j. 0 < M j) l → Passing e q M Q D l load d room i → Ok false ≡ judged (chain_break M 1 l) (level_overloaded e q M Q D l)
unfolding chain_break over_along judged
pass_end e q M Q D l load d room i h pos k =
    let whole : chain_break M 1 l ≡ None = k.chain ∙ rw (drop_of_length-le l {i = i} h) in
    let over : level_overloaded e q M Q D l ≡ false = k.over (chain_multiples M 1 l whole) pos ∙ rw (drop_of_length-le l {i = i} h) in
    rw (whole, over)

-- what the code knows of each listed task: its record is there, and its factor is above 0
module _ (records l : List ℕ) (h : Each (λ i. (10 * i + 10 ≤ length records) × (0 < factor_at records i)) l) where
  pub factors_above : Each (λ i. 0 < factor_at records i) l
  factors_above = each_of l (λ i p. p.1) h

  pub record_inside : (i at : ℕ) → i < length l → at ≡ 10 * get_or l i 0 → at + 10 ≤ length records
  record_inside i at q e = rw e (each_at (λ j. (10 * j + 10 ≤ length records) × (0 < factor_at records j)) 0 l i q h).0

-- a stroke is of one byte
stroke_short : (stroked : Bool) (records : List ℕ) → ((i : ℕ) → get_or records i 0 < 256) → (i : ℕ) → stroke_of_position stroked records i ≤ 255
stroke_short true records bytes i = omega (arith, bytes (10 * i + 5))
stroke_short false records bytes i = omega arith

pub strokes_short : (stroked : Bool) (records tasks l : List ℕ) → tasks ≡ records → ((i : ℕ) → get_or tasks i 0 < 256) → Each (λ i. stroke_of_position stroked records i ≤ 255) l
strokes_short stroked records tasks l e bytes = each_all _ l (stroke_short stroked records (λ i. subst (λ t. get_or t i 0 < 256) e (bytes i)))
