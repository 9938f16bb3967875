use mathlib.Core.Path.{◌∙◌}
use Rattle.checker.proofs.Mark.{marked}
use Rattle.checker.proofs.frame.is_marked.Goals as goal

pub returns : goal.returns
returns c = c.starts_with.ensures.value ∙ marked c.args.sheet.now
