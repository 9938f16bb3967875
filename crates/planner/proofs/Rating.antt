-- The figures of all cores, core by core: a core's factors are spread over the numbers of its tasks.
-- Assumes nothing.
use Prim.Native.Nat.{ℕ, suc, ◌+◌, ◌≤◌, ◌<◌}
use mathlib.Core.Path.{◌≡◌, refl, ap, ◌∙◌}
use mathlib.Core.Bool.{cond}
use Rattle.std.specs.Prelude.{Option, None, Some}
use Rattle.std.specs.Option.{unwrap_or}
use mathlib.Core.List.{List, [], ◌∷◌}
use native.Mathlib.Nat.{add-zero, zero-add}
use native.Mathlib.Decide.{ℕ_discrete}
use native.Mathlib.Omega.{arith}
use borrow.Author.Tests.{eq-eqb, ne_eqb}
use lib.Arith.{lt_of_le-ne}
use lib.Dec.{eqb}
use lib.ListN.{length, set, length-set, replicate}
use lib.Seq.{get_or-set_same, get_or-set_other}
use Rattle.fit.specs.Priority.{is_on}
use Rattle.fit.specs.Lists.{select, padded, occurs, Each, EachPair, at, place_of}
use Rattle.fit.proofs.Lists.{each_of}
use Rattle.fit.proofs.Priority.{order_members, order_rising, order_holds}
use Rattle.fit.proofs.Selecting.{rising_differ}
use Rattle.jobs.specs.Jobs.{job_count, job_period}
use Rattle.fit.proofs.Lists.{at_padded}
use Rattle.figures.specs.declared.CoreFigures.{CoreFigures}
use Rattle.figures.specs.Constructions.{Acceleration}
use Rattle.figures.specs.Answers.{written, outcome}
use Rattle.planner.specs.declared.Assignment.{Assignment}
use Rattle.planner.specs.FirstFit.{core_set}
use Rattle.planner.specs.Sheet.{or_zeros, figures_for, factor_for}
use Rattle.planner.specs.declared.sets.CoreRate.{CoreRate}
use Rattle.planner.specs.Steps.{figures_in, Assigned, spread, rate_at, Rated}
use Rattle.planner.proofs.Fitting.{Prioritized, picked}

-- what spreading leaves at a number that is not listed, and at one that is
spread_size : (own l : List ℕ) (m : ℕ) (factors : List ℕ) → length (spread own l m factors) ≡ length factors
unfolding spread
spread_size own [] m factors = refl
spread_size own (i ∷ l) m factors = spread_size own l (suc m) (set factors i (at own m)) ∙ length-set factors i (at own m)

spread_other : (own l : List ℕ) (m : ℕ) (factors : List ℕ) (i : ℕ) → Each (λ j. i ≡ j → ⊥) l → at (spread own l m factors) i ≡ at factors i
unfolding spread Each
spread_other own [] m factors i h = refl
spread_other own (j ∷ l) m factors i h = spread_other own l (suc m) (set factors j (at own m)) i h.1 ∙ get_or-set_other factors j i (at own m) 0 h.0

spread_at : (own l : List ℕ) (m : ℕ) (factors : List ℕ) (i : ℕ) → i < length factors → EachPair (λ j k. j ≡ k → ⊥) l → 1 ≤ occurs i l → at (spread own l m factors) i ≡ at own (m + place_of (λ z. eqb z i) l)
unfolding spread occurs place_of EachPair
spread_at own [] m factors i q d o = absurd (omega arith)
spread_at own (j ∷ l) m factors i q d o = by (ℕ_discrete j i) (spread_at own l (suc m) (set factors j (at own m)) i (rw length-set q) d.1)
  where
    by : Dec (j ≡ i) → (1 ≤ occurs i l → at (spread own l (suc m) (set factors j (at own m))) i ≡ at own (suc m + place_of (λ z. eqb z i) l)) → at (spread own l (suc m) (set factors j (at own m))) i ≡ at own (m + cond (eqb j i) 0 (suc (place_of (λ z. eqb z i) l)))
    by (yes e) r =
        let mine : Each (λ k. i ≡ k → ⊥) l = rw e at d.0 in
        rw (e, eq-eqb i i refl, add-zero m) (spread_other own l (suc m) (set factors i (at own m)) i mine ∙ get_or-set_same factors i (at own m) 0 q)
    by (no e) r =
        let later : 1 ≤ occurs i l = rw (ne_eqb j i e) at o in
        let place : suc m + place_of (λ z. eqb z i) l ≡ m + suc (place_of (λ z. eqb z i) l) = omega arith in
        rw (ne_eqb j i e, ← place) (r later)

-- a core's figures as the code has them, and zeros where there are none
pub figures_or : (x : Option Acceleration) → unwrap_or (outcome x) (record { pivot = 0; divisor = 0; factors = replicate 64 0 }) ≡ written (or_zeros x)
unfolding or_zeros written padded
figures_or None = refl
figures_or (Some a) = refl

-- the rates of the cores below k, and the factors of their tasks
pub record Rating (l core : List ℕ) (k : ℕ) (cores : List CoreRate) (factors : List ℕ) : Type 0 where
  pub size : length cores ≡ 8
  pub factor_size : length factors ≡ 64
  pub pivot : (j : ℕ) → j < k → (rate_at cores j).pivot ≡ (or_zeros (figures_in l core j)).Q
  pub divisor : (j : ℕ) → j < k → (rate_at cores j).divisor ≡ (or_zeros (figures_in l core j)).D
  pub factor : (i : ℕ) → i < job_count l → at core i < k → at factors i ≡ at (or_zeros (figures_in l core (at core i))).factors (place_of (λ z. eqb z i) (core_set (job_period l) (job_count l) core (at core i)))

pub rate_start : (l core : List ℕ) (cores : List CoreRate) (factors : List ℕ) → length cores ≡ 8 → length factors ≡ 64 → Rating l core 0 cores factors
rate_start l core cores factors a b =
    record { size = a; factor_size = b; pivot = λ j h. absurd (omega arith); divisor = λ j h. absurd (omega arith); factor = λ i h q. absurd (omega arith) }

module _ (l order : List ℕ) (a : Assignment) (k : ℕ) (cores : List CoreRate) (factors tasks : List ℕ) (f : CoreFigures) (pr : Prioritized l order) (all : Assigned l a) (q : k < a.cores) (d : Rating l a.core k cores factors) (h : tasks ≡ select (is_on (at a.core) k) order) (e : f ≡ written (or_zeros (figures_in l a.core k))) where
  rate : CoreRate
  rate = record { pivot = f.pivot; divisor = f.divisor }

  -- what is read of the rate that is put at place k
  put_at : (g : CoreRate → ℕ) (x : ℕ → ℕ) → ((j : ℕ) → j < k → g (rate_at cores j) ≡ x j) → g rate ≡ x k → (j : ℕ) → j < k + 1 → g (rate_at (set cores k rate) j) ≡ x j
  put_at g x below here j b = by (ℕ_discrete j k)
    where
      by : Dec (j ≡ k) → g (rate_at (set cores k rate) j) ≡ x j
      by (yes s) = rw s (ap g (get_or-set_same cores k rate _ (omega (arith, d.size, all.few))) ∙ here)
      by (no s) = ap g (get_or-set_other cores k j rate _ s) ∙ below j (lt_of_le-ne (omega arith) s)

  pub rate_turn : (new : List ℕ) → new ≡ spread f.factors tasks 0 factors → Rating l a.core (k + 1) (set cores k (record { pivot = f.pivot; divisor = f.divisor })) new
  unfolding rate written core_set
  rate_turn new s =
      record {
        size = length-set cores k _ ∙ d.size;
        factor_size = rw s (spread_size _ _ 0 factors ∙ d.factor_size);
        pivot = put_at (λ r. r.pivot) (λ j. (or_zeros (figures_in l a.core j)).Q) d.pivot (ap (λ t. t.pivot) e);
        divisor = put_at (λ r. r.divisor) (λ j. (or_zeros (figures_in l a.core j)).D) d.divisor (ap (λ t. t.divisor) e);
        factor = λ i n b. rw s (by i n b (ℕ_discrete (at a.core i) k));
      }
    where
      listed : tasks ≡ core_set (job_period l) (job_count l) a.core k
      listed = h ∙ picked l order a.core k pr

      by : (i : ℕ) → i < job_count l → at a.core i < k + 1 → Dec (at a.core i ≡ k) → at (spread f.factors tasks 0 factors) i ≡ at (or_zeros (figures_in l a.core (at a.core i))).factors (place_of (λ z. eqb z i) (core_set (job_period l) (job_count l) a.core (at a.core i)))
      by i n b (yes z) =
          rw (z, listed)
          (spread_at f.factors (core_set (job_period l) (job_count l) a.core k) 0 factors i (omega (arith, n, pr.few, d.factor_size)) (rising_differ (job_period l) _ (order_rising (job_period l) (at a.core) k (job_count l))) (order_holds (job_period l) (at a.core) k (job_count l) i n z)
          ∙ rw zero-add (ap (λ t. at t.factors (place_of (λ z. eqb z i) (core_set (job_period l) (job_count l) a.core k))) e ∙ at_padded _ _))
      by i n b (no z) =
          rw listed
          (spread_other f.factors (core_set (job_period l) (job_count l) a.core k) 0 factors i (each_of _ (λ j m x. z (ap (at a.core) x ∙ m.1)) (order_members (job_period l) (at a.core) k (job_count l)))
          ∙ d.factor i n (lt_of_le-ne (omega arith) z))

pub rate_end : (l : List ℕ) (a : Assignment) (k : ℕ) (cores : List CoreRate) (factors : List ℕ) → a.cores ≤ k → Assigned l a → Rating l a.core k cores factors → Rated l a (record { cores = cores; factors = factors })
unfolding figures_for factor_for
rate_end l a k cores factors y all d =
    record { pivot = λ j h. d.pivot j (omega arith); divisor = λ j h. d.divisor j (omega arith); factor = λ i h. d.factor i h (omega (arith, all.core i h)) }
