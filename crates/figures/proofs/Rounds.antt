-- The load test of what DCT writes, the first construction that passes, and the three rounds together.
-- Assumes nothing.
use Prim.Native.Nat.{ℕ, zero, suc, ◌+◌, ◌≤◌, ◌<◌}
use mathlib.Core.Path.{◌≡◌, refl, sym, ap, fun_ext, ◌∙◌}
use mathlib.Core.Bool.{Bool, true, false, cond, ◌&&◌}
use Rattle.std.specs.Prelude.{Option, None, Some}
use Rattle.std.specs.List.{find, range_with_len}
use Rattle.std.specs.Option.{option_map, MatchOption}
use Rattle.sheet.proofs.Options.{none-ne-some, some-ne-none, some-injective}
use mathlib.Core.List.{List, [], ◌∷◌, ◌++◌, map}
use native.Mathlib.Nat.{le_of_lt}
use native.Mathlib.Numerals.{add-one}
use native.Mathlib.Omega.{arith}
use borrow.Author.Tests.{leb-true, eqb-true}
use Rattle.std.proofs.Common.{append_assoc}
use lib.ListN.{length}
use lib.Dec.{leb, eqb}
use Rattle.sheet.proofs.Ranges.{both}
use Rattle.fit.specs.Lists.{numbers, select}
use Rattle.figures.specs.declared.CoreFigures.{CoreFigures}
use Rattle.figures.specs.Constructions.{Acceleration, sr, dct}
use Rattle.figures.specs.Meaning.{SortedPeriods, Sound}
use Rattle.figures.specs.Passing.{passes, first, each_pivot, in_range, trials, sorted_periods, task_set}
use Rattle.figures.specs.Steps.{Usable, read_back, feasible}
use Rattle.figures.specs.Answers.{written, outcome}
use Rattle.figures.proofs.Sound.{divisor_bound, factors_at, factors_bound, two_in_range}
use Rattle.figures.proofs.Ranges.{Ready, ready, periods}
use Rattle.figures.proofs.SrLaws.{sr_sound}
use Rattle.figures.proofs.DctLaws.{dct_sound}
use Rattle.figures.proofs.Passing.{each_pivot_lem, outcome_some, outcome_none}
use Rattle.fit.proofs.Lists.{at_padded, select_all}

-- what is written says what the acceleration says
passes_written : (es : List ℕ) (a : Acceleration) → passes es (read_back (written a)) ≡ passes es a
unfolding passes written
passes_written es a = rw (fun_ext (at_padded a.factors))

-- DCT's figures are usable, and in range
module _ (ps es : List ℕ) (i : ℕ) (y : Ready ps i) (n : length ps ≡ length es) (f : CoreFigures) (e : f ≡ written (dct ps i)) where
  whole : Sound 2 ps (dct ps i)
  whole = dct_sound ps i (periods ps i y) y.inside

  pub dct_usable : Usable f.divisor f.factors (length es)
  unfolding written
  dct_usable =
      let a : Acceleration = dct ps i in
      rw (← n, e)
      (record {
        some = omega (arith, y.inside);
        few = y.size;
        divisor = le_of_lt (divisor_bound 2 ps a whole);
        factors = λ j q. rw (at_padded a.factors j) ((factors_at a.Q a.D 1 ps a.factors whole.factors j q).1, le_of_lt (factors_bound 2 ps a (periods ps i y) whole j q));
      })

  pub dct_feasible : (r : Bool) → r ≡ passes es (read_back f) → r ≡ feasible es (dct ps i)
  unfolding feasible
  dct_feasible r q = q ∙ ap (λ t. passes es (read_back t)) e ∙ rw (two_in_range ps (dct ps i) (periods ps i y) whole) (passes_written es (dct ps i))

module _ (ps es : List ℕ) (set : task_set ps es ≡ true) where
  pub even : length ps ≡ length es
  unfolding task_set
  even = eqb-true (length ps) (length es) (both (leb (length ps) 64) _ (both (leb (length ps) 64 && eqb (length ps) (length es)) _ set).0).1

  pub round_ready : (i : ℕ) → i < length ps → Ready ps i
  unfolding task_set
  round_ready i h =
      let (x, y) = both (leb (length ps) 64 && eqb (length ps) (length es)) _ set in
      record { size = leb-true (length ps) 64 (both (leb (length ps) 64) _ x).0; order = y; inside = h }

  pub set_sorted : (i : ℕ) → i < length ps → SortedPeriods 1 ps
  set_sorted i h = periods ps i (round_ready i h)

-- the first place with which a construction is feasible gives the first of those in range that passes
first_feasible : (es : List ℕ) (c : ℕ → Acceleration) (k n : ℕ) → option_map c (find (λ i. feasible es (c i)) (range_with_len k n)) ≡ first es (select in_range (map c (numbers k n)))
unfolding first select numbers feasible
first_feasible es c k zero = refl
first_feasible es c k (suc n) = rw (add-one k) (by (in_range (c k)) (passes es (c k)) refl (first_feasible es c (suc k) n))
  where
    by : (t u : Bool) → passes es (c k) ≡ u → option_map c (find (λ i. feasible es (c i)) (range_with_len (suc k) n)) ≡ first es (select in_range (map c (numbers (suc k) n))) → option_map c (cond (t && u) (Some k) (find (λ i. feasible es (c i)) (range_with_len (suc k) n))) ≡ first es (cond t (c k ∷ select in_range (map c (numbers (suc k) n))) (select in_range (map c (numbers (suc k) n))))
    by true true p e = rw p refl
    by true false p e = rw p e
    by false true p e = e
    by false false p e = e

-- what is found is below the end
found_below : (q : ℕ → Bool) (k n i : ℕ) → Some i ≡ find q (range_with_len k n) → i < k + n
found_below q k zero i e = absurd (some-ne-none i e)
found_below q k (suc n) i e = by (q k) e (λ h. found_below q (k + 1) n i h)
  where
    by : (t : Bool) → Some i ≡ cond t (Some k) (find q (range_with_len (k + 1) n)) → (Some i ≡ find q (range_with_len (k + 1) n) → i < k + 1 + n) → i < k + suc n
    by true e later = let h : i ≡ k = some-injective i k e in omega arith
    by false e later = omega (arith, later e)

module _ (construction : List ℕ → ℕ → Acceleration) (ps es : List ℕ) where
  pub found_inside : (i : ℕ) → Some i ≡ find (λ j. feasible es (construction ps j)) (range_with_len 0 (length ps)) → i < length ps
  found_inside i e = omega (arith, found_below (λ j. feasible es (construction ps j)) 0 (length ps) i e)

  pub found_some : (i : ℕ) (f : CoreFigures) → Some i ≡ find (λ j. feasible es (construction ps j)) (range_with_len 0 (length ps)) → f ≡ written (construction ps i) → Some f ≡ outcome (first es (select in_range (each_pivot construction ps)))
  unfolding each_pivot
  found_some i f e g = rw (← first_feasible es (construction ps) 0 (length ps), ← e, g)

  pub found_none : None ≡ find (λ j. feasible es (construction ps j)) (range_with_len 0 (length ps)) → None ≡ outcome (first es (select in_range (each_pivot construction ps)))
  unfolding each_pivot
  found_none e = rw (← first_feasible es (construction ps) 0 (length ps), ← e)

-- the first of two lists together
first_some : (es : List ℕ) (xs ys : List Acceleration) (a : Acceleration) → first es xs ≡ Some a → first es (xs ++ ys) ≡ Some a
unfolding first
first_some es [] ys a h = absurd (none-ne-some a h)
first_some es (x ∷ xs) ys a h = by (passes es x) h (first_some es xs ys a)
  where
    by : (t : Bool) → cond t (Some x) (first es xs) ≡ Some a → (first es xs ≡ Some a → first es (xs ++ ys) ≡ Some a) → cond t (Some x) (first es (xs ++ ys)) ≡ Some a
    by true e later = e
    by false e later = later e

first_none : (es : List ℕ) (xs ys : List Acceleration) → first es xs ≡ None → first es (xs ++ ys) ≡ first es ys
unfolding first
first_none es [] ys h = refl
first_none es (x ∷ xs) ys h = by (passes es x) h (first_none es xs ys)
  where
    by : (t : Bool) → cond t (Some x) (first es xs) ≡ None → (first es xs ≡ None → first es (xs ++ ys) ≡ first es ys) → cond t (Some x) (first es (xs ++ ys)) ≡ first es ys
    by true e later = absurd (some-ne-none x e)
    by false e later = later e

-- what was found in one list, or else in another, is what is found in both
or_else : (es : List ℕ) (xs ys : List Acceleration) (x y : Option CoreFigures) → x ≡ outcome (first es xs) → MatchOption x (y ≡ outcome (first es ys)) (λ f. y ≡ Some f) → y ≡ outcome (first es (xs ++ ys))
or_else es xs ys None y e m = m ∙ ap outcome (sym (first_none es xs ys (outcome_none _ e)))
or_else es xs ys (Some f) y e m =
    let (a, q, g) = outcome_some f (first es xs) e in
    m ∙ e ∙ ap outcome (q ∙ sym (first_some es xs ys a q))

-- the three rounds
pub rounds : (ps es : List ℕ) → length ps ≤ 64 → sorted_periods 1 ps ≡ true → (x y z : Option CoreFigures) → x ≡ outcome (first es (select in_range (each_pivot (sr 2) ps))) → MatchOption x (y ≡ outcome (first es (select in_range (each_pivot (sr 3) ps)))) (λ f. y ≡ Some f) → MatchOption y (z ≡ outcome (first es (select in_range (each_pivot dct ps)))) (λ f. z ≡ Some f) → z ≡ outcome (first es (trials ps))
unfolding trials
rounds ps es few order x y z e m n =
    let all : (i : ℕ) → i < length ps → SortedPeriods 1 ps = λ i h. periods ps i (ready ps i few order h) in
    let two : select in_range (each_pivot (sr 2) ps) ≡ each_pivot (sr 2) ps = select_all in_range _ (each_pivot_lem (λ a. in_range a ≡ true) (sr 2) ps (λ i h. two_in_range ps (sr 2 ps i) (all i h) (sr_sound 2 (omega arith) ps i (all i h) h))) in
    let three : select in_range (each_pivot dct ps) ≡ each_pivot dct ps = select_all in_range _ (each_pivot_lem (λ a. in_range a ≡ true) dct ps (λ i h. two_in_range ps (dct ps i) (all i h) (dct_sound ps i (all i h) h))) in
    or_else es _ _ y z (or_else es _ _ x y e m) n ∙ rw (append_assoc, two, three)
