-- What a table's answer says, both ways: the first broken rule, a part of a table that has all rows of a rule, and the place of a row.
-- Assumes nothing.
use Prim.Native.Nat.{ℕ, ◌+◌}
use mathlib.Core.Path.{◌≡◌, refl, sym, ap, ◌∙◌}
use mathlib.Core.Logic.{◌↔◌}
use mathlib.Core.Bool.{Bool, true, false, false≢true}
use Rattle.std.specs.Prelude.{Option, None, Some}
use Rattle.sheet.proofs.Options.{some-ne-none, none-ne-some, some-injective}
use mathlib.Core.List.{List, [], ◌∷◌, ◌++◌}
use borrow.Author.Tests.{eqb-false}
use lib.Dec.{eqb}
use Rattle.sheet.specs.Table.{Refused, Row, ◌at◌, scan, AllKept, FirstBroken, has_rule, whole, core}
use Rattle.sheet.proofs.Ranges.{neither}
use Rattle.sheet.proofs.Scans.{scan_first}

-- A table finds nothing exactly when all its rules are kept.
pub scan_kept : (rows : List Row) → (scan rows ≡ None) ↔ AllKept rows
unfolding scan AllKept
scan_kept rows = (to rows, from rows)
  where
    to : (rows : List Row) → scan rows ≡ None → AllKept rows
    to [] e = tt
    to ((k at None) ∷ rows) e = (refl, to rows e)
    to ((k at Some x) ∷ rows) e = absurd (some-ne-none _ e)

    from : (rows : List Row) → AllKept rows → scan rows ≡ None
    from [] h = refl
    from ((k at o) ∷ rows) h = rw h.0 (from rows h.1)

-- refusals that are equal have the same number and place
same : (r q : Refused) → Some r ≡ Some q → (r.number ≡ q.number) × (r.place ≡ q.place)
same r q e = let z = some-injective r q e in (ap (λ (t : Refused). t.number) z, ap (λ (t : Refused). t.place) z)

-- rows that are kept, before others
scan_past : (before rows : List Row) → AllKept before → scan (before ++ rows) ≡ scan rows
unfolding scan AllKept
scan_past [] rows h = refl
scan_past ((k at o) ∷ before) rows h = rw h.0 (scan_past before rows h.1)

-- A table's answer is k at x exactly when k is its first broken rule, at x.
pub scan_exactly : (rows : List Row) (k x : ℕ) → (scan rows ≡ Some (record { number = k; place = x })) ↔ FirstBroken rows k x
unfolding scan AllKept
scan_exactly rows k x = (to rows, λ b. ap scan b.split ∙ scan_past b.before _ b.kept)
  where
    to : (rows : List Row) → scan rows ≡ Some (record { number = k; place = x }) → FirstBroken rows k x
    to [] e = absurd (none-ne-some _ e)
    to ((j at None) ∷ rows) e =
        let b = to rows e in
        record { before = j at None ∷ b.before; after = b.after; split = ap (λ (t : List Row). j at None ∷ t) b.split; kept = (refl, b.kept) }
    to ((j at Some y) ∷ rows) e =
        let s = same _ _ e in
        record { before = []; after = rows; split = rw (s.0, s.1); kept = tt }

-- rows that are not of rule k, before the answer k at x, alone, and after it
module _ (k x : ℕ) where
  other : (j y : ℕ) (rows : List Row) → has_rule k (j at Some y ∷ rows) ≡ false → j ≡ k → ⊥
  unfolding has_rule
  other j y rows w e = eqb-false k j (neither (eqb k j) (has_rule k rows) w).0 (sym e)

  later : (j : ℕ) (o : Option ℕ) (rows : List Row) → has_rule k (j at o ∷ rows) ≡ false → has_rule k rows ≡ false
  unfolding has_rule
  later j o rows w = (neither (eqb k j) (has_rule k rows) w).1

  passed : (a b : List Row) → has_rule k a ≡ false → scan (a ++ b) ≡ Some (record { number = k; place = x }) → AllKept a × (scan b ≡ Some (record { number = k; place = x }))
  unfolding scan AllKept
  passed [] b w e = (tt, e)
  passed ((j at None) ∷ a) b w e = let r = passed a b (later j None a w) e in ((refl, r.0), r.1)
  passed ((j at Some y) ∷ a) b w e = absurd (other j y a w (same _ _ e).0)

  never : (b : List Row) → has_rule k b ≡ false → scan b ≡ Some (record { number = k; place = x }) → ⊥
  unfolding scan
  never [] w e = none-ne-some _ e
  never ((j at None) ∷ b) w e = never b (later j None b w) e
  never ((j at Some y) ∷ b) w e = other j y b w (same _ _ e).0

  found : (m b : List Row) → has_rule k b ≡ false → scan (m ++ b) ≡ Some (record { number = k; place = x }) → scan m ≡ Some (record { number = k; place = x })
  unfolding scan
  found [] b w e = absurd (never b w e)
  found ((j at None) ∷ m) b w e = found m b w e
  found ((j at Some y) ∷ m) b w e = e

-- Where all rows of rule k stand in a part of a table, the first broken rule is k at x exactly when all rules before the part are kept
-- and it is k at x in the part.
pub part_exactly : (a m b : List Row) (k x : ℕ) → has_rule k a ≡ false → has_rule k b ≡ false → FirstBroken (a ++ (m ++ b)) k x ↔ (AllKept a × FirstBroken m k x)
part_exactly a m b k x wa wb = (
  (λ t. let r = passed k x a (m ++ b) wa ((scan_exactly (a ++ (m ++ b)) k x).1 t) in (r.0, (scan_exactly m k x).0 (found k x m b wb r.1))),
  (λ t. (scan_exactly (a ++ (m ++ b)) k x).0 (scan_past a (m ++ b) t.0 ∙ sym (scan_first m b _ (sym ((scan_exactly m k x).1 t.1))))),
)

-- A part of one row is broken first at the row's place.
pub row_exactly : (k x : ℕ) (o : Option ℕ) → FirstBroken (k at o ∷ []) k x ↔ (o ≡ Some x)
unfolding scan
row_exactly k x o = ((λ t. to o ((scan_exactly (k at o ∷ []) k x).1 t)), λ e. (scan_exactly (k at o ∷ []) k x).0 (rw e))
  where
    to : (o : Option ℕ) → scan (k at o ∷ []) ≡ Some (record { number = k; place = x }) → o ≡ Some x
    to None e = absurd (none-ne-some _ e)
    to (Some y) e = ap Some (same _ _ e).1

-- The place of a rule of the whole is 0, where it is broken.
pub whole_exactly : (b : Bool) (x : ℕ) → (whole b ≡ Some x) ↔ ((b ≡ true) × (x ≡ 0))
unfolding whole
whole_exactly true x = ((λ e. (refl, sym (some-injective 0 x e))), λ h. ap Some (sym h.1))
whole_exactly false x = ((λ e. absurd (none-ne-some x e)), λ h. absurd (false≢true h.0))

-- The place of core k is 64 + k.
pub core_exactly : (o : Option ℕ) (x : ℕ) → (core o ≡ Some x) ↔ ((k : ℕ) × (o ≡ Some k) × (x ≡ 64 + k))
unfolding core
core_exactly None x = ((λ e. absurd (none-ne-some x e)), λ h. absurd (none-ne-some _ h.1))
core_exactly (Some k) x = ((λ e. (k, refl, sym (some-injective _ _ e))), λ h. rw (some-injective _ _ h.1) (ap Some (sym h.2)))
