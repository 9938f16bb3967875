use mathlib.Core.Path.{◌≡◌}
use mathlib.Core.Bool.{true}
use Rattle.std.proofs.Common.{rules}
use Rattle.sheet.specs.Views.{figures_by}
use Rattle.checker.specs.Steps.{sound_at}
use Rattle.checker.proofs.Tables.{all_of}
use Rattle.checker.proofs.early.all_sound.Goals as goal

pub returns : goal.returns
returns c = all_of (λ i. sound_at (figures_by c.args.r.now) i ≡ true) _ _ _ _ c.all.ensures.ran (λ x p k. search rules)
