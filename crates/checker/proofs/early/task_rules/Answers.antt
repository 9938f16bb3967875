use mathlib.Core.Path.{refl}
use Rattle.std.proofs.Common.{rules}
use Rattle.checker.specs.Rules.{task_rows}
use Rattle.checker.proofs.Tables.{first_of, row_err, whole_err, row_ok, whole_ok, row_end}
use Rattle.checker.proofs.early.task_rules.Goals as goal

pub returns-in_err-refuse : goal.returns-in_err-refuse
unfolding task_rows
returns-in_err-refuse c =
    row_err _ c.from_residual.ensures.1 c.in_err-refuse.was _ _ _ _ c.refuse.ensures (first_of _ _ _ _ _ c.find.ensures.ran (λ x b p k. search rules))

pub returns-in_err-refuse-2 : goal.returns-in_err-refuse-2
unfolding task_rows
returns-in_err-refuse-2 c =
    row_ok c.in_ok-refuse.was _ _ _ _ _ c.refuse.ensures (first_of _ _ _ _ _ c.find.ensures.ran (λ x b p k. search rules))
    (row_err _ c.from_residual-in_err-refuse-2.ensures.1 c.in_err-refuse-2.was _ _ _ _ c.refuse-2.ensures (first_of _ _ _ _ _ c.find-2.ensures.ran (λ x b p k. search rules)))

pub returns-in_err-refuse-3 : goal.returns-in_err-refuse-3
unfolding task_rows
returns-in_err-refuse-3 c =
    row_ok c.in_ok-refuse.was _ _ _ _ _ c.refuse.ensures (first_of _ _ _ _ _ c.find.ensures.ran (λ x b p k. search rules))
    (row_ok c.in_ok-refuse-2.was _ _ _ _ _ c.refuse-2.ensures (first_of _ _ _ _ _ c.find-2.ensures.ran (λ x b p k. search rules))
    (row_err _ c.from_residual-in_err-refuse-3.ensures.1 c.in_err-refuse-3.was _ _ _ _ c.refuse-3.ensures (first_of _ _ _ _ _ c.find-3.ensures.ran (λ x b p k. search rules))))

pub returns-in_err-refuse_if : goal.returns-in_err-refuse_if
unfolding task_rows
returns-in_err-refuse_if c =
    row_ok c.in_ok-refuse.was _ _ _ _ _ c.refuse.ensures (first_of _ _ _ _ _ c.find.ensures.ran (λ x b p k. search rules))
    (row_ok c.in_ok-refuse-2.was _ _ _ _ _ c.refuse-2.ensures (first_of _ _ _ _ _ c.find-2.ensures.ran (λ x b p k. search rules))
    (row_ok c.in_ok-refuse-3.was _ _ _ _ _ c.refuse-3.ensures (first_of _ _ _ _ _ c.find-3.ensures.ran (λ x b p k. search rules))
    (whole_err _ c.from_residual-in_err-refuse_if.ensures.1 c.in_err-refuse_if.was _ _ _ _ c.refuse_if.ensures refl)))

pub returns : goal.returns
unfolding task_rows
returns c =
    row_ok c.in_ok-refuse.was _ _ _ _ _ c.refuse.ensures (first_of _ _ _ _ _ c.find.ensures.ran (λ x b p k. search rules))
    (row_ok c.in_ok-refuse-2.was _ _ _ _ _ c.refuse-2.ensures (first_of _ _ _ _ _ c.find-2.ensures.ran (λ x b p k. search rules))
    (row_ok c.in_ok-refuse-3.was _ _ _ _ _ c.refuse-3.ensures (first_of _ _ _ _ _ c.find-3.ensures.ran (λ x b p k. search rules))
    (whole_ok c.in_ok-refuse_if.was _ _ _ _ _ c.refuse_if.ensures refl
    (row_end _ _ _ _ c.refuse-4.ensures (first_of _ _ _ _ _ c.find-4.ensures.ran (λ x b p k. search rules))))))
