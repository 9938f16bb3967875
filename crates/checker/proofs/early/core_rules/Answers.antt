use Rattle.std.proofs.Common.{rules}
use Rattle.checker.specs.Rules.{core_rows}
use Rattle.checker.proofs.Tables.{first_of, row_err, core_err, row_ok, core_ok, row_end}
use Rattle.checker.proofs.early.core_rules.Goals as goal

pub returns-in_err-refuse_core : goal.returns-in_err-refuse_core
unfolding core_rows
returns-in_err-refuse_core c =
    core_err _ c.from_residual.ensures.1 c.in_err-refuse_core.was _ _ _ _ c.refuse_core.ensures c.first_bare.ensures

pub returns-in_err-refuse : goal.returns-in_err-refuse
unfolding core_rows
returns-in_err-refuse c =
    core_ok c.in_ok-refuse_core.was _ _ _ _ _ c.refuse_core.ensures c.first_bare.ensures
    (row_err _ c.from_residual-in_err-refuse.ensures.1 c.in_err-refuse.was _ _ _ _ c.refuse.ensures (first_of _ _ _ _ _ c.find.ensures.ran (λ x b p k. search rules)))

pub returns-in_err-refuse_core-2 : goal.returns-in_err-refuse_core-2
unfolding core_rows
returns-in_err-refuse_core-2 c =
    core_ok c.in_ok-refuse_core.was _ _ _ _ _ c.refuse_core.ensures c.first_bare.ensures
    (row_ok c.in_ok-refuse.was _ _ _ _ _ c.refuse.ensures (first_of _ _ _ _ _ c.find.ensures.ran (λ x b p k. search rules))
    (core_err _ c.from_residual-in_err-refuse_core-2.ensures.1 c.in_err-refuse_core-2.was _ _ _ _ c.refuse_core-2.ensures (first_of _ _ _ _ _ c.find-2.ensures.ran (λ x b p k. search rules))))

pub returns : goal.returns
unfolding core_rows
returns c =
    core_ok c.in_ok-refuse_core.was _ _ _ _ _ c.refuse_core.ensures c.first_bare.ensures
    (row_ok c.in_ok-refuse.was _ _ _ _ _ c.refuse.ensures (first_of _ _ _ _ _ c.find.ensures.ran (λ x b p k. search rules))
    (core_ok c.in_ok-refuse_core-2.was _ _ _ _ _ c.refuse_core-2.ensures (first_of _ _ _ _ _ c.find-2.ensures.ran (λ x b p k. search rules))
    (row_end _ _ _ _ c.refuse-2.ensures (first_of _ _ _ _ _ c.find-3.ensures.ran (λ x b p k. search rules)))))
