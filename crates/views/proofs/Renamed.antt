-- The same figures with the tasks under other numbers: what the lists of a core share, and that the two views of an ordered sheet are so.
-- Assumes nothing.
use Prim.Native.Nat.{ℕ, ◌*◌, ◌/◌, ◌<◌}
use mathlib.Core.Path.{◌≡◌, refl, sym, ap, ◌∙◌}
use mathlib.Core.List.{List, [], ◌∷◌, ◌++◌, map, map-id, map-append}
use Rattle.sheet.specs.Records.{Figures}
use Rattle.sheet.specs.Views.{position_of, renumbered}
use Rattle.fit.specs.Lists.{sum, Each}
use Rattle.fit.specs.Fits.{Multiple, Multiples, last_factor, load, exact_load, full_load, blocking, level_load, overloaded_below, level_overloaded}
use Rattle.fit.specs.Cores.{order_on}
use Rattle.fit.proofs.Lists.{each_of, each_append}
use Rattle.fit.proofs.Priority.{order_members, order_ext}
use Rattle.fit.proofs.Selecting.{order_core_ext}
use Rattle.views.specs.Order.{InOrder}
use Rattle.views.specs.Renamed.{Renamed, Agree}
use Rattle.views.proofs.ByNumber.{position_number, numbered_order}

-- lists of tasks under other numbers
module _ (M N : ℕ → ℕ) (r : ℕ → ℕ) where
  multiples_to : (d : ℕ) (l : List ℕ) → Each (λ j. N (r j) ≡ M j) l → Multiples M d l → Multiples N d (map r l)
  unfolding Multiples Each
  multiples_to d [] h m = tt
  multiples_to d (j ∷ l) h m = (rw h.0 m.0, rw h.0 (multiples_to (M j) l h.1 m.1))

  multiples_back : (d : ℕ) (l : List ℕ) → Each (λ j. N (r j) ≡ M j) l → Multiples N d (map r l) → Multiples M d l
  unfolding Multiples Each
  multiples_back d [] h m = tt
  multiples_back d (j ∷ l) h m =
      let first : Multiple d (M j) = rw h.0 at m.0 in
      (first, multiples_back (M j) l h.1 (rw h.0 at m.1))

  last_same : (d : ℕ) (l : List ℕ) → Each (λ j. N (r j) ≡ M j) l → last_factor N d (map r l) ≡ last_factor M d l
  unfolding last_factor Each
  last_same d [] h = refl
  last_same d (j ∷ l) h = ap (λ x. last_factor N x (map r l)) h.0 ∙ last_same (M j) l h.1

  pub sum_same : (l : List ℕ) → Each (λ j. N (r j) ≡ M j) l → sum N (map r l) ≡ sum M l
  unfolding sum Each
  sum_same [] h = refl
  sum_same (j ∷ l) h = rw (h.0, sum_same l h.1)

-- the load at each task, where D is the same
module _ (e q M e' q' M' r : ℕ → ℕ) (Q D : ℕ) where
  unfoldable SameAt : ℕ → Type 0
  SameAt j = (e' (r j) ≡ e j) × (q' (r j) ≡ q j) × (M' (r j) ≡ M j)

  blocking_same : (l : List ℕ) → Each SameAt l → blocking q' (map r l) ≡ blocking q l
  unfolding blocking Each SameAt
  blocking_same [] h = refl
  blocking_same (j ∷ l) h = rw (h.0.1, blocking_same l h.1)

  load_same : (m : ℕ) (l : List ℕ) → Each SameAt l → load e' M' D m (map r l) ≡ load e M D m l
  unfolding load SameAt
  load_same m l h = sum_same (λ j. e j * D * (m / M j)) (λ i. e' i * D * (m / M' i)) r l (each_of l (λ j t. rw (t.0, t.2)) h)

  below_same : (xs l : List ℕ) → Each SameAt xs → Each SameAt l → overloaded_below e' q' M' Q D (map r xs) (map r l) ≡ overloaded_below e q M Q D xs l
  unfolding overloaded_below level_load Each SameAt
  below_same xs [] hx h = refl
  below_same xs (j ∷ l) hx h =
      let with : Each SameAt (xs ++ j ∷ []) = each_append SameAt xs (j ∷ []) hx (h.0, tt) in
      let cut : map r xs ++ r j ∷ [] ≡ map r (xs ++ j ∷ []) = sym (map-append r xs (j ∷ [])) in
      rw (cut, h.0.2, load_same (M j) (xs ++ j ∷ []) with, blocking_same l h.1, below_same (xs ++ j ∷ []) l with h.1)

  levels_same : (l : List ℕ) → Each SameAt l → level_overloaded e' q' M' Q D (map r l) ≡ level_overloaded e q M Q D l
  unfolding level_overloaded Each
  levels_same l h = below_same [] l tt h

module _ (f g : Figures) (r : ℕ → ℕ) (s : Renamed f g r) where
  members : (k : ℕ) → Each (λ j. (j < f.tasks) × (f.core j ≡ k)) (order_on f k)
  unfolding order_on
  members k = order_members f.period f.core k f.tasks

  factors : (k : ℕ) → Each (λ j. g.factor (r j) ≡ f.factor j) (order_on f k)
  factors k = each_of _ (λ j m. s.factor j m.0) (members k)

  -- chain and load of a core
  pub renamed_multiples : (k : ℕ) → Multiples f.factor 1 (order_on f k) → Multiples g.factor 1 (order_on g k)
  renamed_multiples k m = rw (s.order k) (multiples_to f.factor g.factor r 1 (order_on f k) (factors k) m)

  pub multiples_renamed : (k : ℕ) → Multiples g.factor 1 (order_on g k) → Multiples f.factor 1 (order_on f k)
  multiples_renamed k m = multiples_back f.factor g.factor r 1 (order_on f k) (factors k) (rw (s.order k) at m)

  pub renamed_full : (k : ℕ) → k < f.cores → full_load g.factor (g.pivot k) (order_on g k) ≡ full_load f.factor (f.pivot k) (order_on f k)
  renamed_full k h = rw (s.order k, last_same f.factor g.factor r 1 (order_on f k) (factors k), s.pivot k h)

  pub renamed_load : (k : ℕ) → k < f.cores → exact_load g.budget g.factor (g.divisor k) (order_on g k) ≡ exact_load f.budget f.factor (f.divisor k) (order_on f k)
  unfolding load
  renamed_load k h =
      rw (s.order k, last_same f.factor g.factor r 1 (order_on f k) (factors k), s.divisor k h)
      (sum_same (λ j. f.budget j * f.divisor k * (last_factor f.factor 1 (order_on f k) / f.factor j)) (λ i. g.budget i * f.divisor k * (last_factor f.factor 1 (order_on f k) / g.factor i)) r (order_on f k)
      (each_of _ (λ j m. rw (s.budget j m.0, s.factor j m.0)) (members k)))

  pub renamed_levels : (k : ℕ) → k < f.cores → level_overloaded g.budget g.stroke g.factor (g.pivot k) (g.divisor k) (order_on g k) ≡ level_overloaded f.budget f.stroke f.factor (f.pivot k) (f.divisor k) (order_on f k)
  unfolding SameAt
  renamed_levels k h =
      rw (s.order k, s.pivot k h, s.divisor k h)
      (levels_same f.budget f.stroke f.factor g.budget g.stroke g.factor r (f.pivot k) (f.divisor k) (order_on f k) (each_of _ (λ j m. (s.budget j m.0, s.stroke j m.0, s.factor j m.0)) (members k)))

-- the view by number of tasks in order
pub view_renamed : (f : Figures) (number core count : ℕ → ℕ) → f.core ≡ core → InOrder f.period number core count f.tasks f.cores → Renamed f (renumbered (position_of number f.tasks) f) number
view_renamed f number core count same h = record {
  tasks = refl;
  cores = refl;
  below = h.numbers.below;
  found = h.numbers.found;
  period = λ j b. ap f.period (own j b);
  budget = λ j b. ap f.budget (own j b);
  core = λ j b. ap f.core (own j b);
  stroke = λ j b. ap f.stroke (own j b);
  factor = λ j b. ap f.factor (own j b);
  pivot = λ k b. refl;
  divisor = λ k b. refl;
  order = numbered_order f number h.numbers (λ i j a b e. h.rising i j a b (rw (← same) e));
}
  where
    own : (j : ℕ) → j < f.tasks → position_of number f.tasks (number j) ≡ j
    own = position_number number f.tasks h.numbers

-- figures that agree have the same orders, and are so under the same numbers
pub agree_order : (f g : Figures) → Agree f g → (k : ℕ) → order_on g k ≡ order_on f k
unfolding order_on
agree_order f g s k =
    rw s.tasks
    (order_ext g.period f.period g.core k f.tasks s.period ∙ order_core_ext f.period g.core f.core k k f.tasks (λ i h. rw (s.core i h)))

pub agree_renamed : (f g : Figures) → Agree f g → Renamed f g (λ i. i)
agree_renamed f g s = record {
  tasks = s.tasks;
  cores = s.cores;
  below = λ j h. h;
  found = λ i h. (i, h, refl);
  period = s.period;
  budget = s.budget;
  core = s.core;
  stroke = s.stroke;
  factor = s.factor;
  pivot = s.pivot;
  divisor = s.divisor;
  order = λ k. agree_order f g s k ∙ sym (map-id (order_on f k));
}
