-- Whether Sr is in range and passes, step by step as the code goes.
-- Assumes nothing.
use Prim.Native.Nat.{ℕ, ◌+◌, ◌-◌, ◌*◌, ◌/◌, ◌≤◌, ◌<◌, zero-le}
use mathlib.Core.Path.{◌≡◌, refl, sym, ap, ◌∙◌}
use mathlib.Core.Bool.{Bool, true, false, ◌&&◌}
use mathlib.Core.List.{List}
use native.Mathlib.Nat.{pow-zero, le_trans}
use native.Mathlib.Omega.{arith}
use lib.ListN.{length}
use mir.Syntax.{w64}
use mir.Val.{Fits}
use Rattle.fit.specs.Lists.{at}
use Rattle.figures.specs.Constructions.{Acceleration, Power, least_power, largest_power, sr}
use Rattle.figures.specs.Meaning.{Sound}
use Rattle.figures.specs.Passing.{passes, in_range}
use Rattle.figures.specs.Steps.{Usable, feasible}
use Rattle.figures.proofs.Sound.{factors_length, factors_at, factors_rise, in_range_lem, range_factors}
use Rattle.figures.proofs.Ranges.{Ready, periods, pivot_high}
use Rattle.figures.proofs.SrLaws.{sr_divisor}
use Rattle.figures.proofs.LoadLoop.{LoadLoop, load_start, load_turn, load_over, load_end}
use Rattle.figures.proofs.SrLoop.{SrLoop, sr_start, whole, limit_small_from, power_fits_from, factor_from, factor_is}

-- what is out of range is not feasible
out_of_range : (es : List ℕ) (a : Acceleration) → (in_range a ≡ true → ⊥) → false ≡ feasible es a
unfolding feasible
out_of_range es a h = by (in_range a) refl
  where
    by : (t : Bool) → in_range a ≡ t → false ≡ (t && passes es a)
    by true e = absurd (h e)
    by false e = refl

-- the load so far, of factors that are in range
pub record SrLoad (b : ℕ) (ps es : List ℕ) (c q d L limit total i : ℕ) : Type 0 where
  pub same : length ps ≡ length es
  pub last : L ≡ at (sr b ps c).factors (length es - 1)
  pub full : limit ≡ q * at (sr b ps c).factors (length es - 1)
  pub range : in_range (sr b ps c) ≡ true
  pub usable : Usable d (sr b ps c).factors (length es)
  pub load : LoadLoop es (sr b ps c).factors d (at (sr b ps c).factors (length es - 1)) limit total i

pub one_power : (b : ℕ) → Power b 1
unfolding Power
one_power b = (0, sym (pow-zero b))

module _ (b : ℕ) (ps : List ℕ) (c q x d : ℕ) (two : 2 ≤ b) (three : b ≤ 3) (r : Ready ps c) (e : q ≡ at ps c) (f : x ≡ at ps 0) (g : d ≡ least_power b q x) where
  begin : SrLoop b ps c q d 1 0
  begin = sr_start b ps c two three r q x d e f g

  not_empty : 0 < length ps
  not_empty = omega (arith, r.inside)

  -- the last factor, sought from 1
  module _ (y : ℕ) (z : y ≡ at ps (length ps - 1)) where
    pub last_small : y * d ≤ 10800000000
    last_small = limit_small_from b ps c q d 1 0 begin (length ps - 1) zero-le y (omega (arith, not_empty)) z

    pub last_product : Fits w64 (y * d)
    last_product = record { fits = omega (arith, last_small) }

    pub last_fits : q * 1 ≤ y * d
    last_fits = power_fits_from b ps c q d 1 0 begin (length ps - 1) zero-le y (omega (arith, not_empty)) z

    module _ (L : ℕ) (k : L ≡ largest_power b q (y * d)) where
      last_is : L ≡ at (sr b ps c).factors (length ps - 1)
      last_is = factor_from b ps c q d 1 0 begin (length ps - 1) zero-le y (omega (arith, not_empty)) z L k

      size : length (sr b ps c).factors ≡ length ps
      size = factors_length _ _ 1 ps _ (whole b ps c q d 1 0 begin).factors

      -- a pivot with a figure above 120,000 is skipped
      pub skip_last : (es : List ℕ) (t : ℕ) → 120000 ≤ t → t < L → false ≡ feasible es (sr b ps c)
      skip_last es t k h =
          out_of_range es (sr b ps c)
          (λ r. let most : L ≤ 120000 = rw last_is (range_factors (sr b ps c) r (length ps - 1) (rw size (omega (arith, not_empty)))) in omega arith)

      pub load_begin : (es : List ℕ) → length ps ≡ length es → L ≤ 120000 → SrLoad b ps es c q d L (q * L) 0 0
      load_begin es n k =
          let s : Sound b ps (sr b ps c) = whole b ps c q d 1 0 begin in
          let high : (i : ℕ) → i < length ps → at (sr b ps c).factors i ≤ 120000 = λ i j. le_trans (rw last_is (factors_rise _ _ 1 ps _ s.factors i (length ps - 1) (omega arith) (omega arith))) k in
          let h : d ≤ 120000 = rw begin.divisor (le_trans (sr_divisor b two ps c (periods ps c r) r.inside) (high c r.inside)) in
          let here : L ≡ at (sr b ps c).factors (length es - 1) = rw n at last_is in
          let u : Usable d (sr b ps c).factors (length es) = record { some = omega arith; few = rw n at r.size; divisor = h; factors = λ i j. ((factors_at _ _ 1 ps _ s.factors i (rw n j)).1, high i (rw n j)) } in
          record {
            same = n;
            last = here;
            full = ap (λ t. q * t) here;
            range = in_range_lem (sr b ps c) (rw begin.divisor at h) (λ i j. high i (rw size at j));
            usable = u;
            load = rw here (load_start es (sr b ps c).factors d u q (omega (arith, pivot_high ps c r q e)));
          }

module _ (b : ℕ) (ps es : List ℕ) (c q d L limit total m i : ℕ) (s : SrLoop b ps c q d m i) (l : SrLoad b ps es c q d L limit total i) where
  pub last_most : L ≤ 120000
  last_most = rw l.last l.load.high

  pub place_inside : i < length ps → i < length es
  place_inside h = rw (← l.same) h

  passing : passes es (record { Q = (sr b ps c).Q; D = d; factors = (sr b ps c).factors }) ≡ feasible es (sr b ps c)
  unfolding feasible
  passing = rw (l.range, s.divisor)

  pub load_done : i ≤ length ps → length ps ≤ i → true ≡ feasible es (sr b ps c)
  load_done h k = load_end es (sr b ps c).factors d l.usable q (sr b ps c).Q s.pivot total i (rw (← l.full) l.load) (rw (← l.same) h) (rw (← l.same) k) ∙ passing

  module _ (x : ℕ) (h : i < length ps) (e : x ≡ at ps i) (v : ℕ) (g : v ≡ largest_power b q (x * d)) where
    pub factor_low : 1 ≤ v
    factor_low = rw (factor_is b ps c q d m i s x h e v g) (l.usable.factors i (place_inside h)).0

    module _ (y t : ℕ) (k : y ≡ at es i) (own : t ≡ y * d * (L / v)) where
      part : t ≡ y * d * (at (sr b ps c).factors (length es - 1) / at (sr b ps c).factors i)
      part = rw (← l.last, ← factor_is b ps c q d m i s x h e v g) own

      pub load_on : total + t ≤ limit → SrLoad b ps es c q d L limit (total + t) (i + 1)
      load_on z = record { same = l.same; last = l.last; full = l.full; range = l.range; usable = l.usable; load = load_turn es (sr b ps c).factors d _ limit total i l.load t y k part z }

      pub load_broken : limit < total + t → false ≡ feasible es (sr b ps c)
      load_broken z = load_over es (sr b ps c).factors d l.usable q (sr b ps c).Q s.pivot total i (rw (← l.full) l.load) t y (place_inside h) k part (rw l.full at z) ∙ passing
