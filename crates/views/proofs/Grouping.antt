-- The tasks core by core, those of each core in priority order: where each stands, and that this is version 2's order.
-- Assumes nothing.
use Prim.Native.Nat.{ℕ, zero, suc, ◌+◌, ◌-◌, ◌<◌}
use mathlib.Core.Path.{◌≡◌, refl, sym, ap, subst₂, fun_ext, ◌∙◌}
use mathlib.Core.Bool.{Bool, true, false, cond}
use mathlib.Core.List.{List, [], ◌∷◌, ◌++◌, map}
use native.Mathlib.Numerals.{add-one}
use native.Mathlib.Omega.{arith}
use native.Mathlib.Decide.{ℕ_discrete}
use borrow.Author.Tests.{lt-ltb}
use lib.ListN.{length, get_or, length-append, get_or-append, length-map}
use lib.Seq.{get_or-append-add}
use lib.Dec.{ltb, eqb}
use Rattle.sheet.specs.Views.{first_of, core_by_counts}
use Rattle.fit.specs.Lists.{numbers, at, joined, select, sum, occurs}
use Rattle.fit.specs.Priority.{is_on, Above, order, tasks_on}
use Rattle.fit.proofs.Lists.{each_at, each_number, joined_next, numbers_length, select_all, sum_numbers}
use Rattle.fit.proofs.Priority.{order_members, order_holds, order_length, order_rising}
use Rattle.fit.proofs.Counting.{sum_occurs}
use Rattle.fit.proofs.Rising.{each_map, pairs_at, member_at, above_once}
use Rattle.views.specs.Order.{EachOnce, InOrder}
use Rattle.views.proofs.Counts.{first_next, first_rises, core_where}

-- lists one after the other: how long they are, and what stands where
module _ (f : ℕ → List ℕ) where
  abbrev size : ℕ → ℕ
  size k = length (f k)

  joined_length : (c : ℕ) → length (joined f (numbers 0 c)) ≡ first_of size c
  unfolding first_of joined numbers
  joined_length zero = refl
  joined_length (suc c) =
      let next : joined f (numbers 0 (suc c)) ≡ joined f (numbers 0 c) ++ f c = rw (add-one c) at (joined_next f c) in
      ap length next ∙ simp length-append (omega (arith, joined_length c))

  joined_at : (c k x : ℕ) → k < c → x < length (f k) → get_or (joined f (numbers 0 c)) (first_of size k + x) 0 ≡ get_or (f k) x 0
  unfolding first_of
  joined_at zero k x h q = absurd (omega arith)
  joined_at (suc c) k x h q =
      let next : joined f (numbers 0 (suc c)) ≡ joined f (numbers 0 c) ++ f c = rw (add-one c) at (joined_next f c) in
      ap (λ (l : List ℕ). get_or l (first_of size k + x) 0) next ∙ by (λ z. joined_at c k x z q) (ℕ_discrete k c)
    where
      inside : k < c → first_of size k + x < length (joined f (numbers 0 c))
      inside z = omega (arith, joined_length c, first_rises size (suc k) c z, first_next size k)

      by : (k < c → get_or (joined f (numbers 0 c)) (first_of size k + x) 0 ≡ get_or (f k) x 0) → Dec (k ≡ c) → get_or (joined f (numbers 0 c) ++ f c) (first_of size k + x) 0 ≡ get_or (f k) x 0
      by rec (yes e) = rw (e, ← joined_length c) (get_or-append-add (joined f (numbers 0 c)) (f c) x 0)
      by rec (no e) =
          let z : k < c = omega (arith, e) in
          get_or-append (joined f (numbers 0 c)) (f c) 0 (first_of size k + x) (inside z) ∙ rec z

-- how many tasks are on a core, and on the cores before it
on_core : (core : ℕ → ℕ) (k : ℕ) (l : List ℕ) → length (select (is_on core k) l) ≡ occurs k (map core l)
unfolding select is_on occurs
on_core core k [] = refl
on_core core k (i ∷ l) = by (eqb (core i) k) (on_core core k l)
  where
    by : (b : Bool) → length (select (is_on core k) l) ≡ occurs k (map core l) → length (cond b (i ∷ select (is_on core k) l) (select (is_on core k) l)) ≡ cond b (occurs k (map core l) + 1) (occurs k (map core l))
    by true e = omega (arith, e)
    by false e = e

first_sum : (count : ℕ → ℕ) (k : ℕ) → first_of count k ≡ sum count (numbers 0 k)
unfolding first_of sum numbers
first_sum count zero = refl
first_sum count (suc k) =
    let zero-first : 0 + k ≡ k = omega arith in
    rw (sum_numbers count 0 k, zero-first) (ap (λ x. x + count k) (first_sum count k))

module _ (p core : ℕ → ℕ) (n : ℕ) where
  abbrev tasks : ℕ → List ℕ
  tasks k = order p core k n

  order_size : (k : ℕ) → length (tasks k) ≡ occurs k (map core (numbers 0 n))
  unfolding tasks_on
  order_size k = order_length p core k n ∙ on_core core k (numbers 0 n)

  first_size : (k : ℕ) → first_of (λ j. length (tasks j)) k ≡ length (select (λ x. ltb x k) (map core (numbers 0 n)))
  first_size k = first_sum _ k ∙ ap (λ g. sum g (numbers 0 k)) (fun_ext order_size) ∙ sum_occurs (map core (numbers 0 n)) k

  -- where every task is on one of c cores
  module _ (c : ℕ) (placed : (i : ℕ) → i < n → core i < c) where
    abbrev grouping : List ℕ
    grouping = joined tasks (numbers 0 c)

    abbrev count : ℕ → ℕ
    count k = length (tasks k)

    count_all : first_of count c ≡ n
    count_all =
        let all : select (λ x. ltb x c) (map core (numbers 0 n)) ≡ map core (numbers 0 n) = select_all (λ x. ltb x c) _ (each_map _ core (numbers 0 n) (each_number _ 0 n (λ i a b. lt-ltb _ _ (placed i (omega arith))))) in
        first_size c ∙ ap length all ∙ length-map (numbers 0 n) core ∙ numbers_length 0 n

    -- position j is place x of core k
    pub record Spot (j : ℕ) : Type 0 where
      pub core_number : ℕ
      pub place : ℕ
      pub is_core : core_by_counts count c j ≡ core_number
      pub on_core : core_number < c
      pub inside : place < length (tasks core_number)
      pub start : j ≡ first_of count core_number + place
      pub task : at grouping j ≡ at (tasks core_number) place

    pub spot : (j : ℕ) → j < n → Spot j
    spot j h =
        let k : ℕ = core_by_counts count c j in
        let w = core_where count c j (omega (arith, count_all)) in
        let inner : j - first_of count k < length (tasks k) = omega (arith, w.1, w.2, first_next count k) in
        let where-it-is : first_of count k + (j - first_of count k) ≡ j = omega (arith, w.1) in
        record {
          core_number = k;
          place = j - first_of count k;
          is_core = refl;
          on_core = w.0;
          inside = inner;
          start = sym where-it-is;
          task = ap (at grouping) (sym where-it-is) ∙ joined_at tasks c k (j - first_of count k) w.0 inner;
        }

    -- it is a task of that core
    pub spot_member : (j : ℕ) (h : j < n) → (at grouping j < n) × (core (at grouping j) ≡ core_by_counts count c j)
    spot_member j h =
        let s = spot j h in
        let m = each_at _ 0 (tasks s.core_number) s.place s.inside (order_members p core s.core_number n) in
        rw (s.task, s.is_core) m

    -- every task stands somewhere
    task_spot : (i : ℕ) → i < n → (j : ℕ) × (j < n) × (at grouping j ≡ i)
    task_spot i h =
        let k : ℕ = core i in
        let (x, a, e) = member_at i (tasks k) (order_holds p core k n i h refl) in
        (first_of count k + x, omega (arith, count_all, first_rises count (suc k) c (placed i h), first_next count k), joined_at tasks c k x (placed i h) a ∙ e)

    -- two positions of one core rise
    spots_rise : (i j : ℕ) → i < j → j < n → core_by_counts count c i ≡ core_by_counts count c j → Above p (at grouping i) (at grouping j)
    spots_rise i j l h e =
        let s = spot i (omega arith) in
        let t = spot j h in
        let same : t.core_number ≡ s.core_number = sym t.is_core ∙ sym e ∙ s.is_core in
        let start : j ≡ first_of count s.core_number + t.place = t.start ∙ rw same in
        let inner : t.place < length (tasks s.core_number) = rw (← same) t.inside in
        let task : at grouping j ≡ at (tasks s.core_number) t.place = t.task ∙ rw same in
        subst₂ (Above p) (sym s.task) (sym task) (pairs_at (Above p) (tasks s.core_number) s.place t.place (omega (arith, s.start, start)) inner (order_rising p core s.core_number n))

    -- no task stands twice
    spots_differ : (i j : ℕ) → i < j → j < n → at grouping i ≡ at grouping j → ⊥
    spots_differ i j l h e =
        let same : core_by_counts count c i ≡ core_by_counts count c j = sym (spot_member i (omega arith)).1 ∙ ap core e ∙ (spot_member j h).1 in
        let up = spots_rise i j l h same in
        above_once p (at grouping i) (at grouping j) up (rw (← e) (rw (← e) at up))

    grouping_once : EachOnce (at grouping) n
    grouping_once = record { below = λ j h. (spot_member j h).0; found = task_spot; once = once }
      where
        once : (i j : ℕ) → i < n → j < n → at grouping i ≡ at grouping j → i ≡ j
        once i j a b e =
            let x : i < j → ⊥ = λ l. spots_differ i j l b e in
            let y : j < i → ⊥ = λ l. spots_differ j i l a (sym e) in
            omega (arith, x, y)

    -- The tasks so grouped are in the order of version 2.
    pub grouping_order : InOrder (λ j. p (at grouping j)) (at grouping) (core_by_counts count c) count n c
    unfolding Above
    grouping_order = record { numbers = grouping_once; counts = count_all; rising = spots_rise }
