use Rattle.std.proofs.Common.{rules, arith}
use Rattle.std.proofs.lemmas.Grind.{common_steps}
use Rattle.plan.proofs.Numbers.{number_none, number_start, number_end, number_wrong, number_turn}
use Rattle.plan.proofs.read_number.Goals as goal

pub returns-then-is_empty : goal.returns-then-is_empty
returns-then-is_empty c = number_none _ (grind (arith, common_steps))

pub loop-byte-init : goal.loop-byte-init
loop-byte-init c = number_start _ (grind (arith, common_steps))

pub returns-then-not-is_ascii_digit : goal.returns-then-not-is_ascii_digit
returns-then-not-is_ascii_digit c = number_wrong _ _ _ c.loop-byte.invariant c.loop-byte-test.true (grind (arith, common_steps))

pub loop-byte-preserved : goal.loop-byte-preserved
loop-byte-preserved c = number_turn _ _ _ c.loop-byte.invariant c.loop-byte-test.true (grind (arith, common_steps)) _ c.extend-number.ensures.0 c.extend-number.ensures.1

pub returns : goal.returns
returns c = search (number_end, rules)
