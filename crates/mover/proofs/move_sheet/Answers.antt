use Prim.Native.Nat.{ℕ}
use mathlib.Core.Path.{◌≡◌}
use Rattle.std.specs.Prelude.{Result, Ok}
use Rattle.std.proofs.Common.{rules}
use Rattle.sheet.specs.declared.Rejection.{Rejection}
use Rattle.checker.specs.declared.Counts.{Counts}
use Rattle.checker.specs.Verdict.{verdict, outcome_of}
use Rattle.mover.proofs.Answering.{unmovable_answer, unmovable_output, refused_answer, refused_output, refused_means, accepted_sized, tight_answer, tight_output, moved_answer, moved_output, moved_moving}
use Rattle.mover.proofs.Moving.{refused_moving}
use Rattle.mover.proofs.move_sheet.Goals as goal

pub returns-then-is_unmovable : goal.returns-then-is_unmovable
returns-then-is_unmovable c = record {
  result_value = rw c.at.ensures (unmovable_answer _ _ _ c.is_unmovable.ensures c.if-is_unmovable.true);
  out_after = unmovable_output _ _ _ c.is_unmovable.ensures c.if-is_unmovable.true;
  moves = refused_moving _ _ _;
}

pub returns-in_err-tasks : goal.returns-in_err-tasks
returns-in_err-tasks c = record {
  result_value = refused_answer _ _ _ c.is_unmovable.ensures c.if-is_unmovable.false _ c.check.ensures _ c.in_err-tasks.was _ c.from_residual.ensures.1;
  out_after = refused_output _ _ _ c.is_unmovable.ensures c.if-is_unmovable.false _ c.check.ensures _ c.in_err-tasks.was;
  moves = refused_means _ _ _ c.is_unmovable.ensures c.if-is_unmovable.false _ c.check.ensures _ c.in_err-tasks.was _ c.from_residual.ensures.1;
}

-- the checker's acceptance is sought among the facts
pub returns-then-out-lt712 : goal.returns-then-out-lt712
returns-then-out-lt712 c =
    let answer = λ (v : Result Counts (Rejection ℕ)) (h : outcome_of v ≡ verdict c.args.sheet.now) (x : Counts) (e : v ≡ Ok x). tight_answer c.args.sheet.now c.args.out.now _ c.is_unmovable.ensures c.if-is_unmovable.false v h x.tasks x.cores e c.if-out-lt712.true in
    let output = λ (v : Result Counts (Rejection ℕ)) (h : outcome_of v ≡ verdict c.args.sheet.now) (x : Counts) (e : v ≡ Ok x). tight_output c.args.sheet.now c.args.out.now _ c.is_unmovable.ensures c.if-is_unmovable.false v h x.tasks x.cores e c.if-out-lt712.true in
    record {
      result_value = rw c.at-then-out-lt712.ensures (search (answer, rules));
      out_after = search (output, rules);
      moves = refused_moving _ _ _;
    }

pub write_other-requires : goal.write_other-requires
write_other-requires c = (c.if-out-lt712.false, accepted_sized c.args.sheet.now c.args.out.now _ c.is_unmovable.ensures c.if-is_unmovable.false _ c.check.ensures _ _ c.in_ok-tasks.was)

pub returns : goal.returns
returns c = record {
  result_value = moved_answer c.args.sheet.now c.args.out.now _ c.is_unmovable.ensures c.if-is_unmovable.false _ c.check.ensures _ _ c.in_ok-tasks.was _ c.if-out-lt712.false c.write_other.ensures.0;
  out_after = moved_output c.args.sheet.now c.args.out.now _ c.is_unmovable.ensures c.if-is_unmovable.false _ c.check.ensures _ _ c.in_ok-tasks.was _ c.if-out-lt712.false c.write_other.ensures.1;
  moves = moved_moving c.args.sheet.now c.args.out.now _ c.is_unmovable.ensures c.if-is_unmovable.false _ c.check.ensures _ _ c.in_ok-tasks.was _ _ c.write_other.ensures.0 c.write_other.ensures.1;
}
