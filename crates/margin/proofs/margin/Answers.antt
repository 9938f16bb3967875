use Rattle.std.proofs.Common.{rules, arith}
use Rattle.margin.specs.Answers.{answer_from, margin_answer}
use Rattle.margin.proofs.Results.{margin_unlisted, margin_listed, margin_few, all_listed, margin_ticks}
use Rattle.margin.proofs.Exact.{exact}
use Rattle.margin.proofs.margin.Goals as goal

pub returns-in_err-check_list-clause-result_value : goal.returns-in_err-check_list-clause-result_value
unfolding margin_answer answer_from
returns-in_err-check_list-clause-result_value c = search rules

pub returns-then-n-number-clause-result_value : goal.returns-then-n-number-clause-result_value
returns-then-n-number-clause-result_value c = search (margin_unlisted, rules)

pub overflow_cast-n : goal.overflow_cast-n
overflow_cast-n c = omega (arith, margin_few _ _ c.check_list.ensures _ c.in_ok-check_list.was)

pub overflow_cast-number : goal.overflow_cast-number
overflow_cast-number c = omega (arith, margin_few _ _ c.check_list.ensures _ c.in_ok-check_list.was)

pub margin_of-requires : goal.margin_of-requires
margin_of-requires c = (margin_listed _ _ c.check_list.ensures _ c.in_ok-check_list.was, all_listed _, omega arith)

pub returns-clause-result_value : goal.returns-clause-result_value
returns-clause-result_value c = search (margin_ticks, rules)

pub returns-in_err-check_list-clause-exact : goal.returns-in_err-check_list-clause-exact
returns-in_err-check_list-clause-exact c = exact _

pub returns-then-n-number-clause-exact : goal.returns-then-n-number-clause-exact
returns-then-n-number-clause-exact c = exact _

pub returns-clause-exact : goal.returns-clause-exact
returns-clause-exact c = exact _
