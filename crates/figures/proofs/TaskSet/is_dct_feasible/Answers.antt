use Rattle.std.proofs.Common.{rules}
use Rattle.figures.proofs.Ranges.{ready}
use Rattle.figures.proofs.Rounds.{dct_usable, dct_feasible}
use Rattle.figures.proofs.TaskSet.is_dct_feasible.Goals as goal

pub passes-requires : goal.passes-requires
passes-requires c = search (dct_usable, ready, rules)

pub returns : goal.returns
returns c = search (dct_feasible, ready, rules)
