use Rattle.std.proofs.Common.{rules}
use Rattle.jobtext.proofs.Texts.{seek_start, seek_end, seek_wrong, seek_found, seek_turn}
use Rattle.jobtext.proofs.line_of.Goals as goal

pub loop-byte-init : goal.loop-byte-init
loop-byte-init c = search (seek_start, rules)

pub returns-in-Err : goal.returns-in-Err
returns-in-Err c = search (seek_wrong, rules)

pub returns : goal.returns
returns c = search (seek_end, rules)

pub returns-in-Ok : goal.returns-in-Ok
returns-in-Ok c = search (seek_found, rules)

pub loop-byte-preserved : goal.loop-byte-preserved
loop-byte-preserved c = search (seek_turn, rules)
