use Rattle.checker.proofs.Judging.{over_broken, over_whole}
use Rattle.checker.proofs.fits.judge_over.Goals as goal

pub returns-in-Ok : goal.returns-in-Ok
returns-in-Ok c = over_whole _ _ _ _ c.chain_of.ensures c.in-Ok.is

pub returns-in-Err : goal.returns-in-Err
returns-in-Err c = rw (c.at.ensures, c.from.ensures) (over_broken _ _ _ _ c.chain_of.ensures c.in-Err.is)
