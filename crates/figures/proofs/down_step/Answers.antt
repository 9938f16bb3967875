use Rattle.std.proofs.Common.{rules}
use Rattle.std.proofs.Math.Nat.{mul-pos}
use Rattle.figures.proofs.Steps.{down_is}
use Rattle.figures.proofs.down_step.Goals as goal

pub returns : goal.returns
returns c = search (down_is, mul-pos, rules)
