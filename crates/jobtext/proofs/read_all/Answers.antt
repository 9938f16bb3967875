use Rattle.std.proofs.Common.{rules}
use Rattle.jobtext.proofs.Texts.{read_turn, read_wrong, read_end}
use Rattle.jobtext.proofs.read_all.Goals as goal

pub returns-in_err-advance-clause-read : goal.returns-in_err-advance-clause-read
returns-in_err-advance-clause-read c = search (read_wrong, rules)

pub loop-byte-preserved : goal.loop-byte-preserved
loop-byte-preserved c = search (read_turn, rules)

pub returns-in_err-end_line-clause-read : goal.returns-in_err-end_line-clause-read
returns-in_err-end_line-clause-read c = search (read_end, rules)

pub returns-clause-read : goal.returns-clause-read
returns-clause-read c = search (read_end, rules)
