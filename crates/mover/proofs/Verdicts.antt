-- The verdict by the mover's rules beside the checker's: 3 for a sheet of version 3 that has its mark, else the same.
-- Assumes nothing.
use Prim.Native.Nat.{ℕ}
use mathlib.Core.Path.{◌≡◌, refl, sym, ◌∙◌}
use mathlib.Core.Logic.{◌↔◌}
use mathlib.Core.Bool.{Bool, true, false, not, ◌&&◌, and-false, true≢false}
use mathlib.Core.List.{List, ◌∷◌}
use native.Mathlib.Omega.{arith}
use lib.ListN.{length}
use lib.Dec.{ltb}
use Rattle.sheet.specs.Table.{Row, ◌at◌, whole, scan}
use Rattle.sheet.specs.Views.{is_stroked}
use Rattle.checker.specs.Tests.{is_marked}
use Rattle.checker.specs.Rules.{frame_rows, rules}
use Rattle.checker.specs.Verdict.{accepted, refused, outcome, verdict}
use Rattle.mover.specs.Answers.{move_rules, move_verdict}
use Rattle.mover.specs.Steps.{unmovable}

-- the checker's rows and the mover's, of a sheet that is short or not, has its mark or not, and is of version 3 or not
abbrev checker_rows : (short marked : Bool) → List Row → List Row
checker_rows short marked rest = 1 at whole short ∷ 2 at whole (not marked) ∷ rest

abbrev mover_rows : (short marked stroked : Bool) → List Row → List Row
mover_rows short marked stroked rest = 1 at whole short ∷ 2 at whole (not marked) ∷ 3 at whole stroked ∷ checker_rows short marked rest

rows_other : (n c : ℕ) (short marked stroked : Bool) (rest : List Row) → (not short && (marked && stroked)) ≡ true → outcome (scan (mover_rows short marked stroked rest)) n c ≡ refused 3 0
unfolding scan whole outcome
rows_other n c false true true rest e = refl
rows_other n c false true false rest e = absurd (true≢false (sym e))
rows_other n c false false stroked rest e = absurd (true≢false (sym e))
rows_other n c true marked stroked rest e = absurd (true≢false (sym e))

rows_same : (n c : ℕ) (short marked stroked : Bool) (rest : List Row) → (not short && (marked && stroked)) ≡ false → outcome (scan (mover_rows short marked stroked rest)) n c ≡ outcome (scan (checker_rows short marked rest)) n c
unfolding scan whole outcome
rows_same n c true marked stroked rest e = refl
rows_same n c false false stroked rest e = refl
rows_same n c false true false rest e = refl
rows_same n c false true true rest e = absurd (true≢false e)

rows_accepted : (n c x y : ℕ) (short marked stroked : Bool) (rest : List Row) → outcome (scan (mover_rows short marked stroked rest)) n c ≡ accepted x y → stroked ≡ false
unfolding scan whole outcome
rows_accepted n c x y false true false rest e = refl
rows_accepted n c x y false true true rest e = absurd (let z : ◌≡◌ {A = ℕ} 0 1 = cc in omega arith)
rows_accepted n c x y false false stroked rest e = absurd (let z : ◌≡◌ {A = ℕ} 0 1 = cc in omega arith)
rows_accepted n c x y true marked stroked rest e = absurd (let z : ◌≡◌ {A = ℕ} 0 1 = cc in omega arith)

module _ (s : List ℕ) where
  pub unmovable_verdict : unmovable s ≡ true → move_verdict s ≡ refused 3 0
  unfolding unmovable move_verdict move_rules rules frame_rows
  unmovable_verdict e = rows_other _ _ (ltb (length s) 8) (is_marked s) (is_stroked s) _ e

  pub movable_verdict : unmovable s ≡ false → move_verdict s ≡ verdict s
  unfolding unmovable move_verdict move_rules verdict rules frame_rows
  movable_verdict e = rows_same _ _ (ltb (length s) 8) (is_marked s) (is_stroked s) _ e

  -- A sheet that is not of version 3 has the checker's verdict.
  pub unstroked_verdict : is_stroked s ≡ false → move_verdict s ≡ verdict s
  unfolding unmovable
  unstroked_verdict u = movable_verdict (rw (u, and-false, and-false))

  -- The mover accepts what the checker accepts and is not of version 3.
  pub move_accepted : (n c : ℕ) → (move_verdict s ≡ accepted n c) ↔ ((is_stroked s ≡ false) × (verdict s ≡ accepted n c))
  unfolding move_verdict move_rules rules frame_rows
  move_accepted n c = (to, λ h. unstroked_verdict h.0 ∙ h.1)
    where
      to : move_verdict s ≡ accepted n c → (is_stroked s ≡ false) × (verdict s ≡ accepted n c)
      to v =
          let u : is_stroked s ≡ false = rows_accepted _ _ n c (ltb (length s) 8) (is_marked s) (is_stroked s) _ v in
          (u, sym (unstroked_verdict u) ∙ v)
