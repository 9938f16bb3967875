-- A moved sheet runs and reads as the sheet that was given: what the mover, the dispatcher and the listing promise, joined.
-- Assumes nothing.
use Prim.Native.Nat.{ℕ}
use mathlib.Core.Path.{◌≡◌, refl, sym, ap, ◌∙◌}
use mathlib.Core.Bool.{false}
use mathlib.Core.List.{List}
use native.Mathlib.Omega.{arith}
use lib.ListN.{take}
use Rattle.std.specs.Prelude.{Result, Ok, Err}
use Rattle.sheet.specs.declared.Rejection.{Rejection}
use Rattle.sheet.specs.Views.{version, is_stroked, figures}
use Rattle.checker.specs.Verdict as check
use Rattle.checker.proofs.Acceptance.{accepted_exactly}
use Rattle.checker.proofs.Views.{views_fit}
use Rattle.mover.specs.Answers as move
use Rattle.mover.specs.Moved.{moved}
use Rattle.mover.specs.Meaning.{Moves, Moving}
use Rattle.mover.proofs.Moving.{moves}
use Rattle.dispatcher.proofs.Agree.{agree_answer, agree_state}
use Rattle.listing.proofs.Agree.{agree_text}
use Rattle.listing.proofs.Sheets.{accepted_text}
use Rattle.capi.specs.declared.MoveAnswer.{MoveAnswer}
use Rattle.capi.specs.Answers.{moved_of}
use Rattle.capi.specs.Moved.{RunsAlike}
use Rattle.capi.proofs.Answers.{positive}

runs_alike : (s t : List ℕ) (n c : ℕ) → check.verdict s ≡ check.accepted n c → Moves s t n c → RunsAlike s t
runs_alike s t n c e m =
    let (a, x, y) = (accepted_exactly s n c).0 e in
    record {
      check = m.accepts ∙ sym e;
      other = m.other;
      unstroked = m.unstroked;
      back = m.back;
      answer = agree_answer s t n c e m.accepts;
      state = agree_state s t n c e m.accepts m.same;
      listing = (accepted_text s n c e, accepted_text t n c m.accepts ∙ agree_text (version t) (figures s) (figures t) m.same ((views_fit s a.order).0 a.fitting).tasks);
    }

-- An accepted sheet of version 1 or 2 and its moved sheet run alike.
pub moved_alike : (s : List ℕ) (n c : ℕ) → is_stroked s ≡ false → check.verdict s ≡ check.accepted n c → RunsAlike s (moved s)
moved_alike s n c u e = runs_alike s (moved s) n c e (moves s n c u e)

-- the promise of a move in terms of the C answer: a refusal's number is not 0, so a refused move promises nothing
pub moved_runs : (v : Result ℕ (Rejection ℕ)) (s new : List ℕ) (r : MoveAnswer) → r ≡ moved_of (move.answer_of v) → Moving s v new → r.refusal ≡ 0 → RunsAlike s (take r.length new)
unfolding moved_of
moved_runs (Ok size) s new r e m z =
    let (n, c, q, w) = m.moves size refl in
    rw e (runs_alike s (take size new) n c q w)
moved_runs (Err x) s new r e m z = absurd (omega (arith, positive x.word, ap (λ (q : MoveAnswer). q.refusal) e))
