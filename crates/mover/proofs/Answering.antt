-- The mover's answers as the code gives them: version 3, the checker's refusal, an output that is too short, and a sheet.
-- Assumes nothing.
use Prim.Native.Nat.{ℕ, ◌≤◌, ◌<◌}
use mathlib.Core.Path.{◌≡◌, sym, ◌∙◌}
use mathlib.Core.Bool.{Bool, true, false}
use mathlib.Core.List.{List}
use borrow.Author.Tests.{lt-ltb, le-ltb}
use lib.ListN.{length}
use Rattle.sheet.specs.Refusals.{number_of}
use Rattle.fit.specs.Lists.{over}
use Rattle.std.specs.Prelude.{Result, Ok, Err}
use Rattle.std.specs.Result.{IsErrAnd}
use Rattle.sheet.specs.declared.Rejection.{Rejection}
use Rattle.checker.specs.declared.Counts.{Counts}
use Rattle.checker.specs.Verdict.{verdict, accepted, refused as rejected, outcome_of}
use Rattle.checker.proofs.Acceptance.{accepted_exactly}
use Rattle.mover.specs.Moved.{moved}
use Rattle.mover.specs.Answers.{written, refused, move_verdict, move_answer, move_output, answer_of}
use Rattle.mover.specs.Meaning.{Moving}
use Rattle.mover.specs.Steps.{Sized, unmovable}
use Rattle.mover.proofs.Verdicts.{unmovable_verdict, movable_verdict, move_accepted}
use Rattle.mover.proofs.Moving.{refused_moving, written_moving}

-- version 3
module _ (s out : List ℕ) (b : Bool) (t : b ≡ unmovable s) (e : b ≡ true) where
  pub unmovable_answer : refused 3 0 ≡ move_answer (move_verdict s) s (length out)
  unfolding move_answer
  unmovable_answer = rw (unmovable_verdict s (sym t ∙ e))

  pub unmovable_output : out ≡ move_output (move_verdict s) s out
  unfolding move_output
  unmovable_output = rw (unmovable_verdict s (sym t ∙ e))

module _ (s out : List ℕ) (b : Bool) (t : b ≡ unmovable s) (m : b ≡ false) (v : Result Counts (Rejection ℕ)) (h : outcome_of v ≡ verdict s) where
  same : outcome_of v ≡ move_verdict s
  same = h ∙ sym (movable_verdict s (sym t ∙ m))

  -- the checker's refusal, which a `?` hands on
  module _ (r : Rejection ℕ) (e : v ≡ Err r) where
    no : move_verdict s ≡ rejected (number_of r.word) r.place
    no = sym same ∙ rw e

    pub refused_answer : (g : Result ℕ (Rejection ℕ)) → IsErrAnd g (λ e. e ≡ r) → answer_of g ≡ move_answer (move_verdict s) s (length out)
    unfolding move_answer
    refused_answer (Ok n) i = absurd i
    refused_answer (Err w) i = rw (i, no)

    pub refused_output : out ≡ move_output (move_verdict s) s out
    unfolding move_output
    refused_output = rw no

    pub refused_means : (g : Result ℕ (Rejection ℕ)) → IsErrAnd g (λ e. e ≡ r) → Moving s g out
    refused_means (Ok n) i = absurd i
    refused_means (Err w) i = refused_moving s out w

  -- an accepted sheet
  module _ (n c : ℕ) (e : v ≡ Ok (record { tasks = n; cores = c })) where
    is : move_verdict s ≡ accepted n c
    is = sym same ∙ rw e

    pub accepted_sized : Sized s n c
    accepted_sized =
        let a = (accepted_exactly s n c).0 ((move_accepted s n c).0 is).1 in
        let f = a.0.frame in
        record { tasks = a.1; cores = a.2; few_tasks = rw a.1 f.tasks; few_cores = rw a.2 f.cores; size = rw (a.1, a.2) f.size }

    pub tight_answer : length out < 712 → refused 16 0 ≡ move_answer (move_verdict s) s (length out)
    unfolding move_answer
    tight_answer q = rw (is, lt-ltb (length out) 712 q)

    pub tight_output : length out < 712 → out ≡ move_output (move_verdict s) s out
    unfolding move_output
    tight_output q = rw (is, lt-ltb (length out) 712 q)

    pub moved_answer : (r : ℕ) → 712 ≤ length out → r ≡ length (moved s) → written r ≡ move_answer (move_verdict s) s (length out)
    unfolding move_answer
    moved_answer r q z = rw (is, le-ltb (length out) 712 q, z)

    pub moved_output : (after : List ℕ) → 712 ≤ length out → after ≡ over (moved s) out → after ≡ move_output (move_verdict s) s out
    unfolding move_output
    moved_output after q z = rw (is, le-ltb (length out) 712 q) z

    pub moved_moving : (r : ℕ) (after : List ℕ) → r ≡ length (moved s) → after ≡ over (moved s) out → Moving s (Ok r) after
    moved_moving r after y z =
        let (u, a) = (move_accepted s n c).0 is in
        written_moving s out after n c r u a y z
