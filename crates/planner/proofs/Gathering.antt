-- The tasks of a core, picked out of the priority order, and factors put at their numbers, as the loops go.
-- Assumes nothing.
use Prim.Native.Nat.{ℕ, ◌+◌, ◌≤◌, ◌<◌}
use mathlib.Core.Path.{◌≡◌, sym, ◌∙◌}
use mathlib.Core.List.{List, [], ◌∷◌, ◌++◌, append-nil}
use native.Mathlib.Numerals.{add-one}
use native.Mathlib.Omega.{arith}
use borrow.Author.Tests.{eq-eqb, ne_eqb}
use lib.ListN.{length, take, drop, get_or, set, drop_of_length-le}
use lib.Seq.{take-suc, length-take-le, drop-cons}
use Rattle.fit.specs.Priority.{is_on}
use Rattle.fit.specs.Lists.{select, at}
use Rattle.fit.proofs.Lists.{select_append, select_length}
use Rattle.planner.specs.Steps.{spread}

-- after one more task of the order: those on the core, with that task if it is on it
module _ (core : List ℕ) (k : ℕ) (order : List ℕ) (j : ℕ) (h : j < length order) where
  pub select_on : at core (get_or order j 0) ≡ k → select (is_on (at core) k) (take (j + 1) order) ≡ select (is_on (at core) k) (take j order) ++ get_or order j 0 ∷ []
  unfolding select is_on
  select_on e = rw (add-one j, take-suc order j 0 h) (select_append (is_on (at core) k) (take j order) (get_or order j 0 ∷ []) ∙ rw (eq-eqb _ k e))

  pub select_off : (at core (get_or order j 0) ≡ k → ⊥) → select (is_on (at core) k) (take (j + 1) order) ≡ select (is_on (at core) k) (take j order)
  unfolding select is_on
  select_off e = rw (add-one j, take-suc order j 0 h) (select_append (is_on (at core) k) (take j order) (get_or order j 0 ∷ []) ∙ rw (ne_eqb _ k e) (append-nil _))

  pub select_room : length order ≤ 64 → length (select (is_on (at core) k) (take j order)) < 64
  select_room few = omega (arith, select_length (is_on (at core) k) (take j order), length-take-le j order (omega arith))

-- factors put at the numbers of the listed tasks, from place m on
pub spread_on : (own list factors next : List ℕ) (m : ℕ) → m < length list → spread own list 0 factors ≡ spread own (drop m list) m next → spread own list 0 factors ≡ spread own (drop (m + 1) list) (m + 1) (set next (get_or list m 0) (get_or own m 0))
unfolding spread
spread_on own list factors next m h e = e ∙ rw (drop-cons list m 0 h, add-one m)

pub spread_end : (own list factors next : List ℕ) (m : ℕ) → length list ≤ m → spread own list 0 factors ≡ spread own (drop m list) m next → next ≡ spread own list 0 factors
unfolding spread
spread_end own list factors next m h e = sym (e ∙ rw (drop_of_length-le list h))
