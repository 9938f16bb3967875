use Rattle.std.proofs.Common.{rules}
use Rattle.checker.proofs.Spares.{core_start, low_left, high_left, core_end, spare_err, spare_ok}
use Rattle.checker.proofs.frame.core_spares.Goals.{then-not-grouped+in_ok-spare, else-not-grouped}
use Rattle.checker.proofs.frame.core_spares.Goals as goal

pub loop-k-init : goal.loop-k-init
loop-k-init c = core_start _ _ _ _

pub returns-in_err-spare : goal.returns-in_err-spare
returns-in_err-spare c = spare_err _ _ _ _ (low_left _ _ _ _ _ _ _ c.loop-k-test.true (search rules) c.loop-k.invariant (search rules)) _ c.spare.ensures _ _ c.in_err-spare.was c.from_residual.ensures.1

pub returns-in_err-spare-2 : goal.returns-in_err-spare-2
returns-in_err-spare-2 c = spare_err _ _ _ _ (elim c.if-not-grouped.branch [
  | then-not-grouped+in_ok-spare w ↦ spare_ok _ _ _ _ (low_left _ _ _ _ _ _ _ c.loop-k-test.true (search rules) c.loop-k.invariant (search rules)) _ w.spare.ensures _ w.in_ok-spare.was
  | else-not-grouped w ↦ high_left _ _ _ _ _ _ _ c.loop-k-test.true (search rules) c.loop-k.invariant (search rules)
]) _ c.spare-in-loop-k.ensures _ _ c.in_err-spare-2.was c.from_residual-in_err-spare-2.ensures.1

pub loop-k-preserved : goal.loop-k-preserved
loop-k-preserved c = spare_ok _ _ _ _ (elim c.if-not-grouped.branch [
  | then-not-grouped+in_ok-spare w ↦ spare_ok _ _ _ _ (low_left _ _ _ _ _ _ _ c.loop-k-test.true (search rules) c.loop-k.invariant (search rules)) _ w.spare.ensures _ w.in_ok-spare.was
  | else-not-grouped w ↦ high_left _ _ _ _ _ _ _ c.loop-k-test.true (search rules) c.loop-k.invariant (search rules)
]) _ c.spare-in-loop-k.ensures _ c.in_ok-spare-2.was

pub returns : goal.returns
returns c = core_end _ _ _ _ _ _ c.loop-k-test.false c.loop-k.invariant
