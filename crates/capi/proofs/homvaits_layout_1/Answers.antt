use Rattle.capi.specs.Answers.{layout}
use Rattle.capi.proofs.homvaits_layout_1.Goals as goal

pub returns : goal.returns
unfolding layout
returns c = c.homvaits_layout.ensures
