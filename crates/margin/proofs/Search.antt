-- The search for the smallest number that meets a demand, step by step as the code goes.
-- Assumes nothing.
use Rattle.std.proofs.Common.{◌≡◌, ℕ, ◌≤◌, ◌<◌, false, List, arith}
use Rattle.std.specs.Prelude.{None, Some, All, pos, ◌-ℤ◌}
use native.Mathlib.Decide.{dec_lt}
use borrow.Author.Tests.{le-leb, lt-leb}
use Rattle.fit.specs.Lists.{numbers, find}
use Rattle.fit.proofs.Finds.{none_find, find_first}
use Rattle.margin.specs.declared.Task.{Task}
use Rattle.margin.specs.Margin.{met, smallest, margin_from}
use Rattle.margin.specs.Steps.{demand_below, IsInRange}
use Rattle.margin.proofs.Requests.{demand_grows}

-- no number from 1 up to t meets the demand below these tasks
pub record Unmet (tasks : List Task) (b t : ℕ) : Type 0 where
  pub from : 1 ≤ t
  pub none_below : (s : ℕ) → 1 ≤ s → s < t → met (demand_below tasks b) s ≡ false

pub search_start : (tasks : List Task) (b : ℕ) → Unmet tasks b 1
search_start tasks b = record { from = omega arith; none_below = λ s h k. absurd (omega arith) }

module _ (tasks : List Task) (b t : ℕ) (u : Unmet tasks b t) where
  -- where the demand at t is above t, no number below the demand meets it
  pub search_turn : (r : ℕ) → All IsInRange tasks → r ≡ demand_below tasks b t → t < r → Unmet tasks b r
  unfolding met
  search_turn r ok e h = record { from = omega (arith, u.from); none_below = λ s p q. by s p q (dec_lt s t) }
    where
      by : (s : ℕ) → 1 ≤ s → s < r → Dec (s < t) → met (demand_below tasks b) s ≡ false
      by s p q (yes k) = u.none_below s p k
      by s p q (no k) = lt-leb (demand_below tasks b s) s (omega (arith, demand_grows tasks b t s ok (omega arith)))

  pub search_hit : (p r d : ℕ) → t ≤ p → r ≡ demand_below tasks b t → r ≤ t → margin_from p d (smallest (demand_below tasks b) p) ≡ pos p -ℤ pos t
  unfolding met smallest margin_from
  search_hit p r d h e k =
      let z : find (met (demand_below tasks b)) (numbers 1 p) ≡ Some t = find_first (met (demand_below tasks b)) 1 p t u.from (omega arith) (le-leb (demand_below tasks b t) t (omega arith)) u.none_below in
      rw z

  pub search_end : (p r : ℕ) → p < t → r ≡ demand_below tasks b p → margin_from p (demand_below tasks b p) (smallest (demand_below tasks b) p) ≡ pos p -ℤ pos r
  unfolding smallest margin_from
  search_end p r h e =
      let z : find (met (demand_below tasks b)) (numbers 1 p) ≡ None = none_find (met (demand_below tasks b)) 1 p (λ s a c. u.none_below s a (omega arith)) in
      rw (z, e)
