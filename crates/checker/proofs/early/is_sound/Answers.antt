use Rattle.std.proofs.Common.{rules}
use Rattle.sheet.specs.Ranges.{bad_period, bad_budget, bad_stroke}
use Rattle.checker.specs.Tests.{bad_factor, stretched_at}
use Rattle.checker.proofs.Reading.{sound_none, sound_read}
use Rattle.checker.proofs.early.is_sound.Goals as goal

pub returns-then-r-k : goal.returns-then-r-k
returns-then-r-k c = sound_none c.args.r.now.stroked c.args.r.now.tasks.now c.args.r.now.cores.now c.args.r.now.on.now _ _ _ _ (search rules) c.if-r-k.true

pub returns : goal.returns
unfolding bad_period bad_budget bad_stroke bad_factor stretched_at
returns c = sound_read c.args.r.now.stroked c.args.r.now.tasks.now c.args.r.now.cores.now c.args.r.now.on.now _ _ _ _ (search rules) _ _ _ _ _ _ _ c.if-r-k.false (search rules) (search rules) c.is_bad_budget.ensures c.is_bad_stroke.ensures c.is_bad_period.ensures c.is_bad_factor.ensures c.is_stretched.ensures
