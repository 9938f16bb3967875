use Rattle.std.proofs.Common.{rules, arith}
use Rattle.checker.proofs.Tables.{first_of}
use Rattle.checker.proofs.Bare.{same_bare}
use Rattle.checker.proofs.early.first_bare.Goals as goal

pub returns : goal.returns
returns c = same_bare _ _ _ _ _ c.used_cores-used.ensures (omega arith) (first_of _ _ _ _ _ c.find.ensures.ran (λ x b p k. search rules))
