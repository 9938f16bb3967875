-- A sheet that is written lies within its buffer, and the bytes of an input past 713 do not matter.
-- Assumes nothing.
use Prim.Native.Nat.{ℕ, ◌≤◌, ◌<◌}
use mathlib.Core.Path.{◌≡◌, refl, sym, ap, ◌∙◌}
use mathlib.Core.Bool.{Bool, true, false, cond}
use mathlib.Core.List.{List, ◌++◌}
use native.Mathlib.Omega.{arith}
use lib.ListN.{length, take, drop, get_or, length-take, length-append}
use lib.Seq.{get_or-take, length-take-le}
use lib.Dec.{ltb}
use borrow.Author.Tests.{le-ltb}
use Rattle.sheet.specs.Numbers.{word}
use Rattle.fit.specs.Lists.{over}
use Rattle.checker.specs.Verdict as check
use Rattle.checker.proofs.Long.{verdict_cut}
use Rattle.checker.specs.Tests.{is_marked}
use Rattle.std.specs.Prelude.{Result, Ok}
use Rattle.sheet.specs.declared.Rejection.{Rejection}
use Rattle.mover.specs.Moved.{moved}
use Rattle.mover.specs.Steps.{unmovable}
use Rattle.mover.proofs.Verdicts.{unmovable_verdict, movable_verdict}
use Rattle.mover.specs.Answers.{written, refused, move_verdict, move_answer, move_output, answer_of}

-- a written sheet, and that front of the buffer is as long
module _ (s out new : List ℕ) (r : Result ℕ (Rejection ℕ)) (x : ℕ) (q : r ≡ Ok x) (e : answer_of r ≡ move_answer (move_verdict s) s (length out)) (b : new ≡ move_output (move_verdict s) s out) where
  pub moved_inside : x ≤ length new
  unfolding move_answer move_output over
  moved_inside = by (move_verdict s) (ap answer_of (sym q) ∙ e) b
    where
      room : (t : Bool) → written x ≡ cond t (refused 16 0) (written (length (moved s))) → new ≡ cond t out (moved s ++ drop (length (moved s)) out) → x ≤ length new
      room true e b = absurd (let z : ◌≡◌ {A = ℕ} 0 1 = cc in omega arith)
      room false e b =
          let w : x ≡ length (moved s) = cc in
          omega (arith, simp length-append at (ap length b))

      by : (o : check.Outcome) → written x ≡ move_answer o s (length out) → new ≡ move_output o s out → x ≤ length new
      by (check.refused k p) e b = absurd (let z : ◌≡◌ {A = ℕ} 0 1 = cc in omega arith)
      by (check.accepted n c) e b = room (ltb (length out) 712) e b

  pub moved_front : x ≡ length (take x new)
  moved_front = sym (length-take-le x new moved_inside)

-- the first 713 bytes tell whether a longer input is of version 3 and has its mark
unmovable_cut : (s : List ℕ) → 713 ≤ length s → unmovable (take 713 s) ≡ unmovable s
unfolding unmovable is_marked word
unmovable_cut s h = rw (le-ltb (length (take 713 s)) 8 (simp length-take (omega arith)), le-ltb (length s) 8 (omega arith), byte 0 (omega arith), byte 1 (omega arith), byte 2 (omega arith), byte 3 (omega arith), byte 4 (omega arith))
  where
    byte : (i : ℕ) → i < 713 → get_or (take 713 s) i 0 ≡ get_or s i 0
    byte i q = get_or-take 713 s i 0 q

-- A longer input has the answer of its first 713 bytes, which is a refusal.
pub moving_cut : (s : List ℕ) (room : ℕ) → 713 ≤ length s → move_answer (move_verdict (take 713 s)) (take 713 s) room ≡ move_answer (move_verdict s) s room
unfolding move_answer
moving_cut s room h = by (unmovable s) refl
  where
    by : (b : Bool) → unmovable s ≡ b → move_answer (move_verdict (take 713 s)) (take 713 s) room ≡ move_answer (move_verdict s) s room
    by true e = rw (unmovable_verdict (take 713 s) (unmovable_cut s h ∙ e), unmovable_verdict s e)
    by false e =
        let (k, cut, all) = verdict_cut s h in
        rw (movable_verdict (take 713 s) (unmovable_cut s h ∙ e), movable_verdict s e, cut, all)
