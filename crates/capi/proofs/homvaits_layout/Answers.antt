use mathlib.Core.Path.{refl}
use Rattle.capi.specs.Answers.{layout}
use Rattle.capi.proofs.homvaits_layout.Goals as goal

pub returns : goal.returns
unfolding layout
returns c = refl
