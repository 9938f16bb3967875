-- The tasks above one, gathered step by step as the code goes.
-- Assumes nothing.
use Rattle.std.proofs.Common.{◌≡◌, ◌∙◌, ℕ, ◌+◌, ◌≤◌, ◌<◌, Bool, true, false, cond, List, [], ◌∷◌, ◌++◌, length, take, set, add-one, add-zero, zero-add, arith}
use Rattle.std.specs.Prelude.{map}
use Rattle.std.specs.Int.{from_bool}
use Rattle.std.proofs.lemmas.List.{take_more_set, take-set}
use mathlib.Core.List.{map-append, append-nil}
use Rattle.fit.specs.Lists.{numbers, select}
use Rattle.fit.specs.Priority.{higher, above}
use Rattle.fit.proofs.Lists.{numbers_last, select_append}
use Rattle.margin.specs.declared.Task.{Task}
use Rattle.margin.specs.Margin.{tasks_above}
use Rattle.margin.specs.Steps.{task_at}

-- the tasks above i among one number more
above_next : (p : ℕ → ℕ) (i j : ℕ) → tasks_above p (numbers 0 (j + 1)) i ≡ tasks_above p (numbers 0 j) i ++ cond (above p j i) (j ∷ []) []
unfolding tasks_above select
above_next p i j = rw (add-one j, numbers_last 0 j, zero-add j) (select_append (λ k. above p k i) (numbers 0 j) (j ∷ []))

-- a task is laid past the first `count`, and counts if the test says so
laid : (f : ℕ → Task) (l : List ℕ) (tasks : List Task) (count j : ℕ) (b : Bool) → count < length tasks → take count tasks ≡ map f l → take (count + from_bool b) (set tasks count (f j)) ≡ map f (l ++ cond b (j ∷ []) [])
laid f l tasks count j true h e = rw (take_more_set tasks count (f j) h, e, map-append f l (j ∷ []))
laid f l tasks count j false h e = rw (add-zero count, take-set tasks count (f j), e, append-nil l)

module _ (p e : ℕ → ℕ) (i j q : ℕ) (t : Task) (eq : q ≡ p i) (et : t ≡ task_at p e j) (r : Bool) (er : r ≡ higher t.period j q i) (c : ℕ) (ec : c ≡ from_bool r) where
  test : r ≡ above p j i
  unfolding above
  test = er ∙ rw (eq, et)

  pub gather_more : (tasks : List Task) (count : ℕ) → count < length tasks → take count tasks ≡ map (task_at p e) (tasks_above p (numbers 0 j) i) → take (count + c) (set tasks count t) ≡ map (task_at p e) (tasks_above p (numbers 0 (j + 1)) i)
  gather_more tasks count h g =
      rw (above_next p i j, ← test, ec, et) (laid (task_at p e) (tasks_above p (numbers 0 j) i) tasks count j r h g)

-- what is counted is at most one more
pub count_within : (r : Bool) → from_bool r ≤ 1
count_within true = omega arith
count_within false = omega arith
