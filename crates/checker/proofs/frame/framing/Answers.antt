use mathlib.Core.Path.{refl}
use Rattle.checker.specs.Rules.{frame_rows}
use Rattle.checker.proofs.Tables.{whole_err, whole_ok, whole_end}
use Rattle.checker.proofs.frame.framing.Goals as goal

pub returns-in_err-refuse_if : goal.returns-in_err-refuse_if
unfolding frame_rows
returns-in_err-refuse_if c =
    whole_err _ c.from_residual.ensures.1 c.in_err-refuse_if.was _ _ _ _ c.refuse_if.ensures refl

pub returns-in_err-refuse_if-2 : goal.returns-in_err-refuse_if-2
unfolding frame_rows
returns-in_err-refuse_if-2 c =
    whole_ok c.in_ok-refuse_if.was _ _ _ _ _ c.refuse_if.ensures refl
    (whole_err _ c.from_residual-in_err-refuse_if-2.ensures.1 c.in_err-refuse_if-2.was _ _ _ _ c.refuse_if-2.ensures (cc))

pub returns-in_err-refuse_if-3 : goal.returns-in_err-refuse_if-3
unfolding frame_rows
returns-in_err-refuse_if-3 c =
    whole_ok c.in_ok-refuse_if.was _ _ _ _ _ c.refuse_if.ensures refl
    (whole_ok c.in_ok-refuse_if-2.was _ _ _ _ _ c.refuse_if-2.ensures (cc)
    (whole_err _ c.from_residual-in_err-refuse_if-3.ensures.1 c.in_err-refuse_if-3.was _ _ _ _ c.refuse_if-3.ensures c.is_other_version.ensures))

pub returns-in_err-refuse_if-4 : goal.returns-in_err-refuse_if-4
unfolding frame_rows
returns-in_err-refuse_if-4 c =
    whole_ok c.in_ok-refuse_if.was _ _ _ _ _ c.refuse_if.ensures refl
    (whole_ok c.in_ok-refuse_if-2.was _ _ _ _ _ c.refuse_if-2.ensures (cc)
    (whole_ok c.in_ok-refuse_if-3.was _ _ _ _ _ c.refuse_if-3.ensures c.is_other_version.ensures
    (whole_err _ c.from_residual-in_err-refuse_if-4.ensures.1 c.in_err-refuse_if-4.was _ _ _ _ c.refuse_if-4.ensures (cc))))

pub returns : goal.returns
unfolding frame_rows
returns c =
    whole_ok c.in_ok-refuse_if.was _ _ _ _ _ c.refuse_if.ensures refl
    (whole_ok c.in_ok-refuse_if-2.was _ _ _ _ _ c.refuse_if-2.ensures (cc)
    (whole_ok c.in_ok-refuse_if-3.was _ _ _ _ _ c.refuse_if-3.ensures c.is_other_version.ensures
    (whole_ok c.in_ok-refuse_if-4.was _ _ _ _ _ c.refuse_if-4.ensures (cc)
    (whole_end _ _ _ _ c.refuse_if-5.ensures (cc)))))
