-- The sheet that the mover writes is accepted with the same counts and figures, and moved again it is the one that was given.
-- Assumes nothing.
use Prim.Native.Nat.{ℕ}
use mathlib.Core.Path.{◌≡◌, refl, sym, ap, subst, ◌∙◌}
use mathlib.Core.Bool.{Bool, true, false, not}
use mathlib.Core.List.{List}
use native.Mathlib.Omega.{arith}
use lib.ListN.{length, drop}
use lib.Seq.{take_at}
use Rattle.sheet.specs.declared.Rejection.{Rejection}
use Rattle.sheet.specs.Records.{task_count, core_count}
use Rattle.sheet.specs.Views.{is_grouped, is_stroked}
use Rattle.fit.specs.Lists.{over}
use Rattle.checker.specs.Verdict as check
use Rattle.checker.specs.Verdict.{verdict}
use Rattle.checker.specs.Accepted.{Acceptable}
use Rattle.checker.proofs.Acceptance.{accepted_exactly}
use Rattle.std.specs.Prelude.{Ok, Err}
use Rattle.mover.specs.Moved.{version1, version2, moved}
use Rattle.mover.specs.Meaning.{Moves, Moving}
use Rattle.mover.proofs.Agreeing.{version1_ungrouped, version1_unstroked, version2_grouped, version2_unstroked, version2_agree}
use Rattle.mover.proofs.Accepting.{to_version1, to_version2, version1_counts}
use Rattle.mover.proofs.Trips.{version2_counts, new_agree, from_ungrouped, from_grouped}

-- the sheet of the other version, for each version
moved_ungrouped : (s : List ℕ) → is_grouped s ≡ false → moved s ≡ version2 s
unfolding moved
moved_ungrouped s e = rw e

moved_grouped : (s : List ℕ) → is_grouped s ≡ true → moved s ≡ version1 s
unfolding moved
moved_grouped s e = rw e

-- An accepted sheet of version 1 or 2 and its moved sheet.
pub moves : (s : List ℕ) (n c : ℕ) → is_stroked s ≡ false → verdict s ≡ check.accepted n c → Moves s (moved s) n c
moves s n c u v = by (is_grouped s) refl
  where
    a : Acceptable s
    a = ((accepted_exactly s n c).0 v).0

    counts : (n ≡ task_count s) × (c ≡ core_count s)
    counts = (((accepted_exactly s n c).0 v).1, ((accepted_exactly s n c).0 v).2)

    by : (b : Bool) → is_grouped s ≡ b → Moves s (moved s) n c
    by true g = rw (moved_grouped s g) (record {
      accepts = (accepted_exactly (version1 s) n c).1 (to_version1 s g a.order a, counts.0 ∙ sym (version1_counts s).0, counts.1 ∙ sym (version1_counts s).1);
      other = version1_ungrouped s ∙ ap not (sym g);
      unstroked = version1_unstroked s;
      same = new_agree s g a;
      back = moved_ungrouped (version1 s) (version1_ungrouped s) ∙ from_grouped s g a;
    })
    by false g = rw (moved_ungrouped s g) (record {
      accepts = (accepted_exactly (version2 s) n c).1 (to_version2 s g u a, counts.0 ∙ sym (version2_counts s).0, counts.1 ∙ sym (version2_counts s).1);
      other = version2_grouped s ∙ ap not (sym g);
      unstroked = version2_unstroked s;
      same = version2_agree s g a.fitting.tasks.core u;
      back = moved_grouped (version2 s) (version2_grouped s) ∙ from_ungrouped s g u a;
    })

-- Moving such a sheet twice gives the same bytes.
pub moved_back : (s : List ℕ) (n c : ℕ) → is_stroked s ≡ false → verdict s ≡ check.accepted n c → moved (moved s) ≡ s
moved_back s n c u v = (moves s n c u v).back

-- a refusal says nothing, and what is written is the moved sheet
pub refused_moving : (s new : List ℕ) (r : Rejection ℕ) → Moving s (Err r) new
refused_moving s new r = record { moves = λ size e. absurd (let z : ◌≡◌ {A = ℕ} 0 1 = cc in omega arith) }

pub written_moving : (s out new : List ℕ) (n c r : ℕ) → is_stroked s ≡ false → verdict s ≡ check.accepted n c → r ≡ length (moved s) → new ≡ over (moved s) out → Moving s (Ok r) new
unfolding over
written_moving s out new n c r u v e b = record {
  moves = λ size w.
      let same : length (moved s) ≡ size = sym e ∙ cc in
      (n, c, v, subst (λ (t : List ℕ). Moves s t n c) (sym (rw b (take_at (moved s) (drop (length (moved s)) out) size same))) (moves s n c u v));
}
