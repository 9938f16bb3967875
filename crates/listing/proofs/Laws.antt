-- What the listing shows: decimal digits mean their number, within is the whole part of Q × M / D, and the load is the exact load in
-- thousandths rounded up.
-- Assumes nothing.
use Prim.Native.Nat.{ℕ, ◌+◌, ◌-◌, ◌*◌, ◌/◌, ◌%◌, ◌≤◌, ◌<◌}
use mathlib.Core.Path.{◌≡◌, refl, ◌∙◌}
use mathlib.Core.Logic.{◌↔◌}
use mathlib.Core.List.{List, [], ◌∷◌, ◌++◌}
use native.Mathlib.Nat.{div-mul-le_self, lt-mul-div-succ, mul_comm, mul-pos, mul-le-mul_left}
use native.Mathlib.Omega.{arith}
use lib.ListN.{get_or, get_or-append}
use Rattle.sheet.specs.Records.{Figures}
use Rattle.fit.specs.Lists.{Each, sum}
use Rattle.fit.specs.Rounding.{ceiling}
use Rattle.fit.specs.Priority.{above, insert, is_on, enter, order}
use Rattle.fit.specs.Fits.{Multiple, within, last_factor, load, exact_load, full_load}
use Rattle.fit.specs.Periodic.{Fraction, AtMost, total, accelerated, utilisation}
use Rattle.fit.proofs.Lists.{each_append, each_of}
use Rattle.fit.proofs.Ceiling.{ceiling_reaches, ceiling_least, ceiling_whole, ceiling_before, ceiling_positive}
use Rattle.fit.proofs.Priority.{order_members, order_holds}
use Rattle.fit.proofs.Levels.{multiples_last, load_above}
use Rattle.fit.proofs.Blocking.{levels_full}
use Rattle.fit.proofs.Periodic.{total_at_most}
use Rattle.fit.specs.Cores.{order_on, within_on}
use Rattle.checker.specs.Accepted.{Fitting, LoadAtMostOne}
use Rattle.listing.specs.Decimal.{decimal, value_from}
use Rattle.listing.specs.Listing.{thousandths, load_of}
use Rattle.listing.proofs.Decimals.{decimal_one, decimal_more, length_above, decimal_induction}
use Rattle.listing.proofs.Figures.{factors_above, last_above}

value_last : (v d : ℕ) (l : List ℕ) → value_from v (l ++ d ∷ []) ≡ 10 * value_from v l + (d - 48)
unfolding value_from
value_last v d [] = refl
value_last v d (x ∷ l) = value_last (10 * v + (x - 48)) d l

-- The value of the digits is the number.
pub decimal_value : (x : ℕ) → value_from 0 (decimal x) ≡ x
unfolding value_from
decimal_value = decimal_induction (λ x. value_from 0 (decimal x) ≡ x)
    (λ x h. rw (decimal_one x h) (omega arith))
    (λ x h r. rw (decimal_more x h) (value_last 0 (48 + x % 10) (decimal (x / 10)) ∙ omega arith))

-- They are digits, and there are no zeros in front.
pub decimal_digits : (x : ℕ) → Each (λ d. (48 ≤ d) × (d ≤ 57)) (decimal x)
unfolding Each
decimal_digits = decimal_induction (λ x. Each (λ d. (48 ≤ d) × (d ≤ 57)) (decimal x))
    (λ x h. rw (decimal_one x h) ((omega arith, omega arith), tt))
    (λ x h r. rw (decimal_more x h) (each_append _ (decimal (x / 10)) _ r ((omega arith, omega arith), tt)))

pub decimal_front : (x : ℕ) → 0 < x → 48 < get_or (decimal x) 0 0
decimal_front = decimal_induction (λ x. 0 < x → 48 < get_or (decimal x) 0 0)
    (λ x h p. rw (decimal_one x h) (omega arith))
    (λ x h r p. rw (decimal_more x h, get_or-append (decimal (x / 10)) ((48 + x % 10) ∷ []) 0 0 (length_above (x / 10))) (r (omega arith)))

-- a quotient rounded down
rounded : (a b : ℕ) → 0 < b → (a / b * b ≤ a) × (a < (a / b + 1) * b)
rounded a b h = (div-mul-le_self a b, rw (mul_comm (a / b + 1) b) (lt-mul-div-succ a h))

-- "within" is the whole part of Q × M / D, of each task of an accepted sheet.
pub within_shown : (f : Figures) (i : ℕ) → Fitting f → i < f.tasks → (within_on f (f.core i) i * f.divisor (f.core i) ≤ f.pivot (f.core i) * f.factor i) × (f.pivot (f.core i) * f.factor i < (within_on f (f.core i) i + 1) * f.divisor (f.core i))
unfolding within_on within
within_shown f i g h = rounded _ _ (g.cores.divisor (f.core i) (g.tasks.core i h)).0

-- It is the w that the on_time rule goes by, of each task on its core.
pub listed_within : (f : Figures) (k : ℕ) → Each (λ i. within_on f (f.core i) i ≡ within_on f k i) (order_on f k)
unfolding order_on
listed_within f k = each_of _ (λ i m. rw m.1) (order_members f.period f.core k f.tasks)

-- The load that is shown of a core, in thousandths, and its exact load: a number of which `full` is the whole, and a fraction, the sum of
-- each budget divided by its task's accelerated period.
module _ (f : Figures) (k : ℕ) (g : Fitting f) (h : k < f.cores) where
  abbrev exact : ℕ
  exact = exact_load f.budget f.factor (f.divisor k) (order_on f k)

  abbrev full : ℕ
  full = full_load f.factor (f.pivot k) (order_on f k)

  abbrev fraction : Fraction
  fraction = total (λ i. utilisation (f.budget i) (accelerated f.factor (f.pivot k) (f.divisor k) i)) (order_on f k)

  full_above : 0 < full
  full_above = mul-pos (g.cores.pivot k h).0 (last_above f k g)

  divide_last : Each (λ i. Multiple (f.factor i) (last_factor f.factor 1 (order_on f k))) (order_on f k)
  divide_last = multiples_last f.factor 1 (order_on f k) (g.fits.simply_periodic k h)

  exact_above : 0 < exact
  unfolding order_on
  exact_above =
      let (i, low, here) = g.cores.not_bare k h in
      let held = order_holds f.period f.core k f.tasks i low here in
      let budgets = each_of _ (λ j m. (g.tasks.budget j m.0).0) (order_members f.period f.core k f.tasks) in
      load_above f.budget f.factor (f.divisor k) _ i (order_on f k) held (g.cores.divisor k h).0 (last_above f k g) budgets (factors_above f k g) divide_last

  -- The load shown is the least whole number of thousandths that is not below the exact load.
  pub load_shown : (1000 * exact ≤ load_of f k * full) × ((x : ℕ) → 1000 * exact ≤ x * full → load_of f k ≤ x)
  unfolding load_of thousandths
  load_shown = (rw (mul_comm _ full) (ceiling_reaches (1000 * exact) full full_above), λ x q. ceiling_least (1000 * exact) full full_above x (rw (mul_comm full x) q))

  -- The same of the load as a fraction.
  pub load_fraction : AtMost fraction (record { upper = load_of f k; lower = 1000 }) × ((x : ℕ) → AtMost fraction (record { upper = x; lower = 1000 }) → load_of f k ≤ x)
  load_fraction = ((at_most_lem (load_of f k)).1 load_shown.0, λ x q. load_shown.1 x ((at_most_lem x).0 q))
    where
      at_most_lem : (x : ℕ) → AtMost fraction (record { upper = x; lower = 1000 }) ↔ (1000 * exact ≤ x * full)
      at_most_lem x = total_at_most f.budget f.factor (f.pivot k) (f.divisor k) (g.cores.pivot k h).0 x 1000 _ (order_on f k) (last_above f k g) (factors_above f k g) divide_last

  -- An exact number of thousandths is shown as it is.
  pub load_whole : (x : ℕ) → 1000 * exact ≡ x * full → load_of f k ≡ x
  unfolding load_of thousandths
  load_whole x e = ceiling_whole (1000 * exact) full full_above x (e ∙ mul_comm x full)

  -- The load shown is 1 to 1000.
  pub load_range : (1 ≤ load_of f k) × (load_of f k ≤ 1000)
  unfolding load_of thousandths LoadAtMostOne
  load_range = (ceiling_positive (1000 * exact) full full_above (omega (arith, exact_above)), load_shown.1 1000 (mul-le-mul_left 1000 (levels_full _ _ _ _ _ _ (g.fits.load k h))))

  -- One thousandth less than it is below the exact load.
  pub load_less : (load_of f k - 1) * full < 1000 * exact
  unfolding load_of thousandths
  load_less = rw (mul_comm (load_of f k - 1) full) (ceiling_before (1000 * exact) full full_above (load_of f k - 1) (omega (arith, exact_above)) (omega (arith, load_range.0)))

-- Nothing is rounded before the end: three tasks that take a third of their core each are shown as 1000, where their own thousandths,
-- rounded up, would make 1002.
abbrev thirds : Figures
thirds =
    record {
      tasks = 3;
      cores = 1;
      period = λ i. 3;
      budget = λ i. 1;
      core = λ i. 0;
      stroke = λ i. 1;
      factor = λ i. 1;
      pivot = λ k. 3;
      divisor = λ k. 1;
    }

pub rounded_once : (load_of thirds 0 ≡ 1000) × (3 * thousandths 1 3 ≡ 1002)
unfolding load_of thousandths ceiling order_on order enter is_on insert above last_factor load sum
rounded_once = (refl, refl)
