-- What passes: the load test by number and by place, a task alone, and that the checker's rules hold of the figures.
-- Assumes nothing.
use Prim.Native.Nat.{ℕ, zero, suc, ◌+◌, ◌*◌, ◌/◌, ◌≤◌, ◌<◌, zero-le}
use mathlib.Core.Path.{◌≡◌, refl, sym, ap, ap₂, subst, ◌∙◌}
use mathlib.Core.Logic.{⊎_elim}
use mathlib.Core.Bool.{Bool, true, false, cond, ◌&&◌}
use Rattle.std.specs.Prelude.{Option, None, Some}
use Rattle.sheet.proofs.Options.{some-injective, some-ne-none, none-ne-some}
use mathlib.Core.List.{List, [], ◌∷◌, map}
use native.Mathlib.Nat.{zero-add, mul-one, le_refl}
use native.Mathlib.Omega.{arith}
use borrow.Author.Tests.{le-leb, le-ltb, eq-eqb, not-true}
use lib.ListN.{length, length-map}
use lib.Dec.{leb, ltb, eqb}
use Rattle.sheet.proofs.Ranges.{both}
use Rattle.fit.specs.Lists.{numbers, sum, select, Each, EachPair, at}
use Rattle.fit.specs.Priority.{Above}
use Rattle.fit.specs.Fits.{stretched, Multiples, last_factor, load, overloaded}
use Rattle.fit.proofs.Lists.{each_append, each_both, each_select, selected_pass}
use Rattle.figures.specs.declared.CoreFigures.{CoreFigures}
use Rattle.figures.specs.Constructions.{Acceleration, least_power, largest_power, sr, dct}
use Rattle.figures.specs.Meaning.{SortedPeriods, Factors, Sound}
use Rattle.figures.specs.Passing.{passes, first, each_pivot, in_range, trials, sorted_periods, task_set, first_passing}
use Rattle.figures.specs.Answers.{written, outcome}
use Rattle.figures.proofs.Lists.{at_map, by_place, sum_by_place, last_by_place}
use Rattle.figures.proofs.Powers.{least_unique, least_power_lem}
use Rattle.figures.proofs.Sound.{sorted_test, factors_length, factors_at, sound_wider, range_divisor, range_factors, two_in_range}
use Rattle.figures.proofs.SrLaws.{sr_sound}
use Rattle.figures.proofs.DctLaws.{dct_sound}

-- the load by task number is the load by place
pub overloaded_by_place : (e M : ℕ → ℕ) (Q D : ℕ) (l : List ℕ) → overloaded e M Q D l ≡ overloaded (at (map e l)) (at (map M l)) Q D (numbers 0 (length (map e l)))
unfolding overloaded load
overloaded_by_place e M Q D l =
    rw (length-map l e)
    (ap₂ (λ s t. ltb (Q * s) t) last (sum_by_place _ (λ i. at (map e l) i * D * (last_factor M 1 l / at (map M l) i)) 0 l (by_place _ _ 0 l own)
    ∙ ap (λ L. sum (λ i. at (map e l) i * D * (L / at (map M l) i)) (numbers 0 (length l))) last))
  where
    same : (f : ℕ → ℕ) (j : ℕ) → j < length l → f (at l j) ≡ at (map f l) (0 + j)
    same f j h = sym (at_map f l j h) ∙ ap (at (map f l)) (sym (zero-add j))

    last : last_factor M 1 l ≡ last_factor (at (map M l)) 1 (numbers 0 (length l))
    last = last_by_place M (at (map M l)) 1 0 l (by_place M (at (map M l)) 0 l (same M))

    own : (j : ℕ) → j < length l → e (at l j) * D * (last_factor M 1 l / M (at l j)) ≡ at (map e l) (0 + j) * D * (last_factor M 1 l / at (map M l) (0 + j))
    own j h = ap₂ (λ s t. s * D * (last_factor M 1 l / t)) (same e j h) (same M j h)

-- the first that passes is one of the list, and passes
pub first_of : (P : Acceleration → Type 0) (es : List ℕ) (l : List Acceleration) (a : Acceleration) → Each P l → first es l ≡ Some a → P a × (passes es a ≡ true)
unfolding Each first
first_of P es [] a h e = absurd (none-ne-some a e)
first_of P es (x ∷ l) a h e = by (passes es x) refl e (first_of P es l a h.1)
  where
    by : (t : Bool) → passes es x ≡ t → cond t (Some x) (first es l) ≡ Some a → (first es l ≡ Some a → P a × (passes es a ≡ true)) → P a × (passes es a ≡ true)
    by true q g later = let same : x ≡ a = some-injective x a g in (subst P same h.0, ap (passes es) (sym same) ∙ q)
    by false q g later = later g

pub each_pivot_lem : (P : Acceleration → Type 0) (c : List ℕ → ℕ → Acceleration) (ps : List ℕ) → ((i : ℕ) → i < length ps → P (c ps i)) → Each P (each_pivot c ps)
unfolding Each numbers each_pivot
each_pivot_lem P c ps f = from 0 (length ps) (λ i h. f i (omega (arith, zero-add (length ps))))
  where
    from : (k n : ℕ) → ((i : ℕ) → i < k + n → P (c ps i)) → Each P (map (c ps) (numbers k n))
    from k zero g = tt
    from k (suc n) g = (g k (omega arith), from (suc k) n (λ i h. g i (omega arith)))

-- tasks l on a core with pivot Q and divisor D keep rules 11 to 14
pub record Accepted (p e M : ℕ → ℕ) (Q D : ℕ) (l : List ℕ) : Type 0 where
  pub pivot : (1 ≤ Q) × (Q ≤ 60000)
  pub divisor : (1 ≤ D) × (D ≤ 120000)
  pub factors : Each (λ i. (1 ≤ M i) × (M i ≤ 120000)) l
  pub accelerated : Each (λ i. stretched Q D (p i) (M i) ≡ false) l
  pub chained : Multiples M 1 l
  pub loaded : overloaded e M Q D l ≡ false

-- what holds at each place of a list holds of each in it
each_place : (P : ℕ → Type 0) (l : List ℕ) → ((j : ℕ) → j < length l → P (at l j)) → Each P l
unfolding Each
each_place P [] f = tt
each_place P (x ∷ l) f = (f 0 (omega arith), each_place P l (λ j h. f (suc j) (omega arith)))

factors_chain : (p M : ℕ → ℕ) (Q D d : ℕ) (l : List ℕ) → Factors Q D d (map p l) (map M l) → Multiples M d l
unfolding Factors Multiples
factors_chain p M Q D d [] h = tt
factors_chain p M Q D d (i ∷ l) h = (h.0.multiple, factors_chain p M Q D (M i) l h.1)

-- every trial is sound and in range
abbrev pub Good : List ℕ → Acceleration → Type 0
Good ps a = Sound 3 ps a × (in_range a ≡ true)

pub trials_good : (ps : List ℕ) → SortedPeriods 1 ps → Each (Good ps) (trials ps)
unfolding trials
trials_good ps r =
    each_append (Good ps) (each_pivot (sr 2) ps) _ (each_pivot_lem (Good ps) (sr 2) ps (λ i k. on_two (sr 2 ps i) (sr_sound 2 (le_refl 2) ps i r k)))
    (each_append (Good ps) (select in_range (each_pivot (sr 3) ps)) (each_pivot dct ps)
    (each_both _ (λ a x y. (x, y)) (each_select (Sound 3 ps) in_range _ (each_pivot_lem (Sound 3 ps) (sr 3) ps (λ i k. sr_sound 3 (omega arith) ps i r k))) (selected_pass in_range _))
    (each_pivot_lem (Good ps) dct ps (λ i k. on_two (dct ps i) (dct_sound ps i r k))))
  where
    on_two : (a : Acceleration) → Sound 2 ps a → Good ps a
    on_two a s = (sound_wider 2 3 ps a (omega arith) s, two_in_range ps a r s)

-- so the first that passes is
pub passing_sound : (ps es : List ℕ) (a : Acceleration) → first_passing ps es ≡ Some a → SortedPeriods 1 ps × Sound 3 ps a × (in_range a ≡ true) × (passes es a ≡ true)
unfolding task_set first_passing
passing_sound ps es a h = by (task_set ps es) refl h
  where
    by : (t : Bool) → task_set ps es ≡ t → cond t (first es (trials ps)) None ≡ Some a → SortedPeriods 1 ps × Sound 3 ps a × (in_range a ≡ true) × (passes es a ≡ true)
    by true q g =
        let r : SortedPeriods 1 ps = sorted_test 1 ps (both (leb (length ps) 64 && eqb (length ps) (length es)) (sorted_periods 1 ps) q).1 in
        let ((sound, range), pass) = first_of (Good ps) es (trials ps) a (trials_good ps r) g in
        (r, sound, range, pass)
    by false q g = absurd (none-ne-some a g)

-- tasks l with periods p and budgets e, written with the first figures that pass, M the factor of each, keep rules 11 to 14
pub passing_accepted : (p e M : ℕ → ℕ) (l : List ℕ) (a : Acceleration) → first_passing (map p l) (map e l) ≡ Some a → map M l ≡ a.factors → Accepted p e M a.Q a.D l
unfolding stretched passes
passing_accepted p e M l a h m =
    let (r, s, range, pass) = passing_sound (map p l) (map e l) a h in
    let f : Factors a.Q a.D 1 (map p l) (map M l) = rw m s.factors in
    record {
      pivot = s.pivot;
      divisor = (s.divisor.0, range_divisor a range);
      factors = each_place _ l (λ j k. (
        rw (at_map M l j k) at (factors_at a.Q a.D 1 (map p l) (map M l) f j (inside j k)).1,
        rw (← m, at_map M l j k) at (range_factors a range j (rw (factors_length a.Q a.D 1 (map p l) a.factors s.factors) (inside j k))),
      ));
      accelerated = each_place _ l (λ j k. le-ltb _ _ (rw (at_map M l j k, at_map p l j k) at (factors_at a.Q a.D 1 (map p l) (map M l) f j (inside j k)).0));
      chained = factors_chain p M a.Q a.D 1 l f;
      loaded = overloaded_by_place e M a.Q a.D l ∙ rw m (not-true _ pass);
    }
  where
    inside : (j : ℕ) → j < length l → j < length (map p l)
    inside j k = omega (arith, length-map l p)

-- Tasks in priority order whose periods are in range are a set of tasks: of them the answer is that of the first trial that passes.
sorted_tasks : (p : ℕ → ℕ) (a : ℕ) (l : List ℕ) → EachPair (Above p) l → Each (λ i. (a ≤ p i) × (p i ≤ 60000)) l → sorted_periods a (map p l) ≡ true
unfolding Above Each EachPair sorted_periods
sorted_tasks p a [] h r = refl
sorted_tasks p a (i ∷ l) h r =
    rw (le-leb a (p i) r.0.0, le-leb (p i) 60000 r.0.1)
    (sorted_tasks p (p i) l h.1 (each_both l (λ j x y. (⊎_elim (λ z. omega arith) (λ z. omega arith) x, y.1)) h.0 r.1))

module _ (p e : ℕ → ℕ) (l : List ℕ) (few : length l ≤ 64) (order : EachPair (Above p) l) (period : Each (λ i. (1 ≤ p i) × (p i ≤ 60000)) l) where
  pub tasks_are_set : task_set (map p l) (map e l) ≡ true
  unfolding task_set
  tasks_are_set = rw (length-map l p, length-map l e, le-leb (length l) 64 few, eq-eqb (length l) (length l) refl) (sorted_tasks p 1 l order period)

  pub passing_tried : first_passing (map p l) (map e l) ≡ first (map e l) (trials (map p l))
  unfolding first_passing
  passing_tried = rw tasks_are_set

-- a task alone passes
pub alone : (p e : ℕ) → 1 ≤ p → p ≤ 60000 → e ≤ p → first_passing (p ∷ []) (e ∷ []) ≡ Some (record { Q = p; D = 1; factors = 1 ∷ [] })
unfolding numbers sum last_factor load overloaded sr passes first each_pivot trials sorted_periods task_set first_passing
alone p e pos high fits =
    let r : SortedPeriods 1 (p ∷ []) = sorted_test 1 (p ∷ []) (rw (le-leb 1 p pos, le-leb p 60000 high)) in
    let divisor : least_power 2 p p ≡ 1 = least_unique 2 p p (least_power_lem 2 (le_refl 2) p p pos) (record { exponent = 0; power = refl; reaches = omega (arith, mul-one p); least = λ k h. zero-le }) in
    let factor : largest_power 2 p (p * least_power 2 p p) ≡ 1 = (sr_sound 2 (le_refl 2) (p ∷ []) 0 r (omega arith)).one in
    let light : ltb (p * 1) (e * 1 * 1 + 0) ≡ false = le-ltb (p * 1) (e * 1 * 1 + 0) (omega (arith, mul-one p, mul-one (e * 1), mul-one e)) in
    rw (le-leb 1 p pos, le-leb p 60000 high, factor, divisor, light)

-- the code's answer comes with the figures, or nothing passes
pub outcome_some : (f : CoreFigures) (x : Option Acceleration) → Some f ≡ outcome x → (a : Acceleration) × (x ≡ Some a) × (f ≡ written a)
outcome_some f None e = absurd (some-ne-none f e)
outcome_some f (Some a) e = (a, refl, some-injective f (written a) e)

pub outcome_none : (x : Option Acceleration) → None ≡ outcome x → x ≡ None
outcome_none None e = refl
outcome_none (Some a) e = absurd (none-ne-some (written a) e)
