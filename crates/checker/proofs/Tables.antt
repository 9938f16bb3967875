-- A table of rules as the code goes through it: what a `?` hands on, and what it passes.
-- Assumes nothing.
use Prim.Native.Nat.{ℕ, ◌<◌, zero-le}
use mathlib.Core.Path.{◌≡◌, refl, ap, subst, ◌∙◌}
use mathlib.Core.Bool.{Bool, true, false}
use mathlib.Core.List.{List, [], ◌∷◌, ◌++◌}
use native.Mathlib.Nat.{sub-zero, zero-add}
use denote.Ref.{Bor}
use denote.Param.Members.{Mut}
use Rattle.std.specs.Prelude.{Option, None, Some, Result, Ok, Err, MatchOption, MatchBool, option_map}
use Rattle.std.specs.declared.ops.Range.{Range}
use Rattle.std.specs.Fn.{Called, CalledAt}
use Rattle.std.specs.Iterator.{YieldsThen}
use Rattle.std.specs.List.{FoldsTo, AllWithin, range_with_len}
use Rattle.std.proofs.iter.Yields.{nat_range_steps}
use Rattle.std.proofs.lemmas.Iterator.{YieldsList-from_range, cases_from_all}
use Rattle.std.proofs.lemmas.List.FromFn.{length-range_with_len, get_or-range_with_len}
use lib.ListN.{length}
use Rattle.std.proofs.lemmas.Iterator.Search.{find_from_yields_List}
use Rattle.std.specs.Result.{IsErrAnd}
use Rattle.sheet.specs.declared.Rejection.{Rejection}
use Rattle.sheet.specs.Table.{Row, Refused, ◌at◌, scan, whole, core, refusal_of}
use Rattle.sheet.proofs.Scans.{part_hit, row_hit, row_skip}
use Rattle.fit.specs.Lists.{numbers, find}
use Rattle.fit.proofs.Words.{find_range}
use Rattle.sheet.specs.Refusals.{number_of}
use Rattle.checker.specs.declared.Counts.{Counts}
use Rattle.checker.specs.Verdict.{Outcome, refused, outcome_of}

-- the first of n tasks or cores at which a test says that a rule is broken
as_is : (r o : Option ℕ) → option_map (λ x. x) r ≡ o → r ≡ o
as_is None o e = e
as_is (Some x) o e = e

pub first_of : {F : Type 0} {g : Mut F (Bor ℕ × Unit {0}) Bool} (q : ℕ → Bool) (n : ℕ) (u : Range ℕ) (f : F) (r : Option ℕ)
    → (xs : List ℕ) × (j : F) × YieldsThen nat_range_steps (record { start = 0; end = n }) xs r u × FoldsTo (λ p x q. CalledAt g p x false q) f xs j × MatchOption r (Unit {0}) (λ x. (h : F) × CalledAt g j x true h)
    → ((x : ℕ) (b : Bool) (p : F) → CalledAt g f x b p → (p ≡ f) × (b ≡ q x)) → r ≡ find q (numbers 0 n)
first_of q n u f r ran calls = as_is r _ (find_from_yields_List q u f r ran (YieldsList-from_range 0 n n refl (sub-zero n)) calls) ∙ find_range q 0 n

-- where a test says so of all of n tasks, it says so of each
pub all_of : {F : Type 0} {g : Mut F (ℕ × Unit {0}) Bool} (P : ℕ → Type 0) (n : ℕ) (u : Range ℕ) (f : F) (r : Bool)
    → (xs : List ℕ) × (o : Option ℕ) × (j : F) × YieldsThen nat_range_steps (record { start = 0; end = n }) xs o u × FoldsTo (λ p x q. Called g p (x, tt) true q) f xs j × MatchOption o (r ≡ true) (λ x. (r ≡ false) × ((h : F) × Called g j (x, tt) false h))
    → ((x : ℕ) (p : F) → Called g f (x, tt) true p → (p ≡ f) × P x) → r ≡ true → (i : ℕ) → i < n → P i
all_of P n u f r ran calls e i h =
    let all : MatchBool r (AllWithin P (range_with_len 0 n) 0 (length (range_with_len 0 n))) _ = cases_from_all u f r P (λ x. Unit {0}) ran (YieldsList-from_range 0 n n refl (sub-zero n)) calls (λ x q k. tt) in
    let each : AllWithin P (range_with_len 0 n) 0 (length (range_with_len 0 n)) = rw e at all in
    subst P (get_or-range_with_len 0 n i 0 h ∙ zero-add i) (each i 0 zero-le (rw (length-range_with_len 0 n) h))

-- what a `?` hands on
pub handed : {A : Type 0} (g : Result A (Rejection ℕ)) (r : Rejection ℕ) (x : Option Refused) → IsErrAnd g (λ e. e ≡ r) → refusal_of {A = A} (Err r) ≡ x → refusal_of g ≡ x
handed (Ok v) r x i e = absurd i
handed (Err w) r x i e = rw i e

-- a row that is broken, and a part in which one is
module _ {A B : Type 0} (g : Result A (Rejection ℕ)) {f : Result B (Rejection ℕ)} {r : Rejection ℕ} (is : IsErrAnd g (λ e. e ≡ r)) (was : f ≡ Err r) where
  pub row_err : (k : ℕ) (o p : Option ℕ) (rows : List Row) → refusal_of f ≡ scan (k at o ∷ []) → o ≡ p → refusal_of g ≡ scan (k at p ∷ rows)
  row_err k o p rows e h = handed g r _ is (row_hit f (k at p) rows r (rw h at e) was)

  pub whole_err : (k : ℕ) (b d : Bool) (rows : List Row) → refusal_of f ≡ scan (k at whole b ∷ []) → b ≡ d → refusal_of g ≡ scan (k at whole d ∷ rows)
  whole_err k b d rows e h = row_err k _ (whole d) rows e (ap whole h)

  pub core_err : (k : ℕ) (o p : Option ℕ) (rows : List Row) → refusal_of f ≡ scan (k at core o ∷ []) → o ≡ p → refusal_of g ≡ scan (k at core p ∷ rows)
  core_err k o p rows e h = row_err k _ (core p) rows e (ap core h)

  pub part_err : (a b : List Row) → refusal_of f ≡ scan a → refusal_of g ≡ scan (a ++ b)
  part_err a b e = handed g r _ is (part_hit f a b r e was)

-- a row that is kept
module _ {A : Type 0} {f : Result A (Rejection ℕ)} {v : A} (was : f ≡ Ok v) (rows : List Row) (x : Option Refused) where
  pub row_ok : (k : ℕ) (o p : Option ℕ) → refusal_of f ≡ scan (k at o ∷ []) → o ≡ p → x ≡ scan rows → x ≡ scan (k at p ∷ rows)
  row_ok k o p e h = row_skip f (k at p) rows v x (rw h at e) was

  pub whole_ok : (k : ℕ) (b d : Bool) → refusal_of f ≡ scan (k at whole b ∷ []) → b ≡ d → x ≡ scan rows → x ≡ scan (k at whole d ∷ rows)
  whole_ok k b d e h = row_ok k _ (whole d) e (ap whole h)

  pub core_ok : (k : ℕ) (o p : Option ℕ) → refusal_of f ≡ scan (k at core o ∷ []) → o ≡ p → x ≡ scan rows → x ≡ scan (k at core p ∷ rows)
  core_ok k o p e h = row_ok k _ (core p) e (ap core h)

-- the last row
module _ {A : Type 0} (f : Result A (Rejection ℕ)) (k : ℕ) where
  pub row_end : (o p : Option ℕ) → refusal_of f ≡ scan (k at o ∷ []) → o ≡ p → refusal_of f ≡ scan (k at p ∷ [])
  row_end o p e h = rw h at e

  pub whole_end : (b d : Bool) → refusal_of f ≡ scan (k at whole b ∷ []) → b ≡ d → refusal_of f ≡ scan (k at whole d ∷ [])
  whole_end b d e h = row_end _ (whole d) e (ap whole h)

  pub core_end : (o p : Option ℕ) → refusal_of f ≡ scan (k at core o ∷ []) → o ≡ p → refusal_of f ≡ scan (k at core p ∷ [])
  core_end o p e h = row_end _ (core p) e (ap core h)

-- the answer that a `?` hands on
pub answered : (g : Result Counts (Rejection ℕ)) (r : Rejection ℕ) {x : Outcome} → IsErrAnd g (λ e. e ≡ r) → refused (number_of r.word) r.place ≡ x → outcome_of g ≡ x
answered (Ok v) r i e = absurd i
answered (Err w) r i e = rw i e
