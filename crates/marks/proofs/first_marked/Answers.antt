use Rattle.std.proofs.Common.{rules}
use Rattle.marks.proofs.Gathering.{sought_turn, sought_hit, sought_end}
use Rattle.marks.proofs.first_marked.Goals as goal

pub returns-then-word-ne0 : goal.returns-then-word-ne0
returns-then-word-ne0 c = search (sought_hit, c.told-marks, c.fits-marks, rules)

pub loop-g-preserved : goal.loop-g-preserved
loop-g-preserved c = search (sought_turn, c.told-marks, c.fits-marks, rules)

pub returns : goal.returns
returns c = search (sought_end, c.told-marks, rules)
