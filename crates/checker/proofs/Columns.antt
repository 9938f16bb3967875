-- Figures that differ in the function of cores alone, and agree in it below n, have the same rows, and the same order.
-- Assumes nothing.
use Prim.Native.Nat.{ℕ, zero, suc, ◌+◌, ◌-◌, ◌≤◌, ◌<◌}
use mathlib.Core.Path.{◌≡◌, refl, ap}
use mathlib.Core.Bool.{Bool}
use Rattle.std.specs.Prelude.{Option}
use mathlib.Core.List.{List}
use native.Mathlib.Nat.{zero-add}
use native.Mathlib.Omega.{arith}
use Rattle.sheet.specs.Records.{Figures, figures_with}
use Rattle.fit.specs.Lists.{numbers, find, find_some, some_below}
use Rattle.fit.specs.Priority.{is_on}
use Rattle.fit.specs.Cores.{order_on}
use Rattle.fit.proofs.Selecting.{order_core_ext}
use Rattle.views.specs.Order.{falls_at, bad_sequence, misordered}
use Rattle.checker.specs.Tests.{bad_core, is_none, bare, stretched_at, chain_break_on, overloaded_on}
use Rattle.checker.specs.Rules.{task_rows, core_rows, fit_rows, record_rows}

-- tests that agree find the same
pub find_same : (q r : ℕ → Bool) (a n : ℕ) → ((i : ℕ) → a ≤ i → i < a + n → q i ≡ r i) → find q (numbers a n) ≡ find r (numbers a n)
unfolding find numbers
find_same q r a zero h = refl
find_same q r a (suc n) h = rw (h a (omega arith) (omega arith), find_same q r (suc a) n (λ i b c. h i (omega arith) (omega arith)))

find_some_same : (f g : ℕ → Option ℕ) (a n : ℕ) → ((i : ℕ) → f i ≡ g i) → find_some f (numbers a n) ≡ find_some g (numbers a n)
unfolding find_some numbers
find_some_same f g a zero h = refl
find_some_same f g a (suc n) h = rw (h a, find_some_same f g (suc a) n h)

some_same : (q r : ℕ → Bool) (n : ℕ) → ((i : ℕ) → i < n → q i ≡ r i) → some_below q n ≡ some_below r n
unfolding some_below
some_same q r zero h = refl
some_same q r (suc n) h = rw (h n (omega arith), some_same q r n (λ i l. h i (omega arith)))

module _ (core other : ℕ → ℕ) (n c : ℕ) (same : (i : ℕ) → i < n → core i ≡ other i) where
  at_tasks : (q r : ℕ → Bool) → ((i : ℕ) → i < n → q i ≡ r i) → find q (numbers 0 n) ≡ find r (numbers 0 n)
  at_tasks q r h = find_same q r 0 n (λ i a b. h i (rw zero-add at b))

  cores_same : find (bad_core c core) (numbers 0 n) ≡ find (bad_core c other) (numbers 0 n)
  unfolding bad_core
  cores_same = at_tasks _ _ (λ i h. rw (same i h))

  bare_same : (k : ℕ) → bare n core k ≡ bare n other k
  unfolding bare is_on
  bare_same k = ap is_none (at_tasks _ _ (λ i h. rw (same i h)))

  module _ (stroke : ℕ → ℕ) (tasks cores : List ℕ) where
    f : Figures
    f = figures_with core stroke n c tasks cores

    g : Figures
    g = figures_with other stroke n c tasks cores

    stretch_same : find (stretched_at f) (numbers 0 n) ≡ find (stretched_at g) (numbers 0 n)
    unfolding stretched_at f g
    stretch_same = at_tasks _ _ (λ i h. rw (same i h))

    orders_same : (k : ℕ) → order_on f k ≡ order_on g k
    unfolding order_on f g
    orders_same k = order_core_ext _ core other k k n (λ i h. rw (same i h))

    chain_same : (k : ℕ) → chain_break_on f k ≡ chain_break_on g k
    unfolding chain_break_on f g
    chain_same k = rw (orders_same k)

    over_same : (k : ℕ) → overloaded_on f k ≡ overloaded_on g k
    unfolding overloaded_on f g
    over_same k = rw (orders_same k)

    pub rows_same : (b : Bool) → record_rows b (figures_with core stroke n c tasks cores) ≡ record_rows b (figures_with other stroke n c tasks cores)
    unfolding record_rows task_rows core_rows fit_rows f g
    rows_same b =
        rw (
          cores_same,
          find_same _ _ 0 c (λ k a h. bare_same k),
          stretch_same,
          find_some_same _ _ 0 c chain_same,
          find_same _ _ 0 c (λ k a h. over_same k),
        )

  pub order_same : (period number count : ℕ → ℕ) → misordered period number core count n c ≡ misordered period number other count n c
  unfolding misordered bad_sequence falls_at
  order_same period number count = rw (some_same _ _ (n - 1) falls)
    where
      falls : (j : ℕ) → j < n - 1 → falls_at period number core j ≡ falls_at period number other j
      falls j h = rw (same j (omega arith), same (suc j) (omega arith))
