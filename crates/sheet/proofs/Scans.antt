-- The table read from the top, as the code's returns have it: a row that is broken, a row that is passed, and how a row's place is found.
-- Assumes nothing.
use Prim.Native.Nat.{ℕ, ◌+◌}
use mathlib.Core.Path.{◌≡◌, refl}
use mathlib.Core.Bool.{Bool, true, false}
use Rattle.std.specs.Prelude.{Option, None, Some}
use Rattle.sheet.proofs.Options.{some-ne-none, none-ne-some}
use mathlib.Core.List.{List, [], ◌∷◌, ◌++◌}
use Rattle.std.specs.Prelude.{Result, Ok, Err}
use Rattle.sheet.specs.declared.Rejection.{Rejection}
use Rattle.sheet.specs.declared.Refusal.{Refusal}
use Rattle.sheet.specs.Refusals.{number_of}
use Rattle.sheet.specs.Table.{Refused, Row, ◌at◌, scan, whole, core, refused_by, refusal_of}

pub scan_none : None ≡ scan []
unfolding scan
scan_none = refl

pub scan_hit : (k p : ℕ) (o : Option ℕ) (rows : List Row) → Some p ≡ o → Some (record { number = k; place = p }) ≡ scan (k at o ∷ rows)
unfolding scan
scan_hit k p o rows e = rw (← e)

-- a refusal that the code makes of a word and a place
pub scan_at : (r : Rejection ℕ) (word : Refusal) (k p : ℕ) (o : Option ℕ) (rows : List Row) → r ≡ record { word = word; place = p } → number_of word ≡ k → Some p ≡ o → Some (refused_by r) ≡ scan (k at o ∷ rows)
unfolding scan
scan_at r word k p o rows e n h = rw (← h, e, n)

pub scan_skip : (k : ℕ) (o : Option ℕ) (rows : List Row) (x : Option Refused) → None ≡ o → x ≡ scan rows → x ≡ scan (k at o ∷ rows)
unfolding scan
scan_skip k o rows x e h = rw (← e) h

-- a part of the table
pub scan_first : (a b : List Row) (r : Refused) → Some r ≡ scan a → Some r ≡ scan (a ++ b)
unfolding scan
scan_first [] b r e = absurd (some-ne-none r e)
scan_first ((k at None) ∷ a) b r e = scan_first a b r e
scan_first ((k at Some x) ∷ a) b r e = e

pub scan_second : (a b : List Row) (x : Option Refused) → None ≡ scan a → x ≡ scan b → x ≡ scan (a ++ b)
unfolding scan
scan_second [] b x e h = h
scan_second ((k at None) ∷ a) b x e h = scan_second a b x e h
scan_second ((k at Some y) ∷ a) b x e h = absurd (none-ne-some _ e)

-- a rule of the whole sheet
pub whole_true : (b r : Bool) → r ≡ b → r ≡ true → Some 0 ≡ whole b
unfolding whole
whole_true b r e h = rw (← e, h)

pub whole_false : (b r : Bool) → r ≡ b → r ≡ false → None ≡ whole b
unfolding whole
whole_false b r e h = rw (← e, h)

-- a task or a core that was looked for
pub found_at : (o r : Option ℕ) (i : ℕ) → r ≡ o → r ≡ Some i → Some i ≡ o
found_at o r i e h = rw h at e

pub found_none : (o r : Option ℕ) → r ≡ o → r ≡ None → None ≡ o
found_none o r e h = rw h at e

-- the same with the place in another type
pub found_place : (o r : Option ℕ) (i x : ℕ) → r ≡ o → r ≡ Some i → x ≡ i → Some x ≡ o
found_place o r i x e h z = rw z (found_at o r i e h)

pub core_at : (o : Option ℕ) (k : ℕ) → Some k ≡ o → Some (64 + k) ≡ core o
unfolding core
core_at o k e = rw (← e)

pub core_none : (o : Option ℕ) → None ≡ o → None ≡ core o
unfolding core
core_none o e = rw (← e)

-- what a part of the table finds, then the rows after it
module _ {A : Type 0} (f : Result A (Rejection ℕ)) where
  pub part_hit : (a b : List Row) (r : Rejection ℕ) → refusal_of f ≡ scan a → f ≡ Err r → Some (refused_by r) ≡ scan (a ++ b)
  part_hit a b r e h = scan_first a b _ (rw h at e)

  pub part_skip : (a b : List Row) (v : A) (x : Option Refused) → refusal_of f ≡ scan a → f ≡ Ok v → x ≡ scan b → x ≡ scan (a ++ b)
  part_skip a b v x e c h = scan_second a b x (rw c at e) h

  -- the same of one row
  pub row_hit : (row : Row) (rows : List Row) (r : Rejection ℕ) → refusal_of f ≡ scan (row ∷ []) → f ≡ Err r → Some (refused_by r) ≡ scan (row ∷ rows)
  row_hit row rows r e h = part_hit (row ∷ []) rows r e h

  pub row_skip : (row : Row) (rows : List Row) (v : A) (x : Option Refused) → refusal_of f ≡ scan (row ∷ []) → f ≡ Ok v → x ≡ scan rows → x ≡ scan (row ∷ rows)
  row_skip row rows v x e c h = part_skip (row ∷ []) rows v x e c h

-- a table in which nothing is broken, row by row
pub scan_clear : (k : ℕ) (o : Option ℕ) (rows : List Row) → None ≡ scan (k at o ∷ rows) → (o ≡ None) × (None ≡ scan rows)
unfolding scan
scan_clear k None rows e = (refl, e)
scan_clear k (Some x) rows e = absurd (none-ne-some _ e)

pub scan_clears : (a b : List Row) → None ≡ scan (a ++ b) → (None ≡ scan a) × (None ≡ scan b)
unfolding scan
scan_clears [] b e = (refl, e)
scan_clears ((k at None) ∷ a) b e = scan_clears a b e
scan_clears ((k at Some x) ∷ a) b e = absurd (none-ne-some _ e)

pub whole_clear : (b : Bool) → whole b ≡ None → b ≡ false
unfolding whole
whole_clear true e = absurd (some-ne-none 0 e)
whole_clear false e = refl

pub core_clear : (o : Option ℕ) → core o ≡ None → o ≡ None
unfolding core
core_clear None e = refl
core_clear (Some k) e = absurd (some-ne-none _ e)
