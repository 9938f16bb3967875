use Rattle.std.proofs.Common.{rules, refl}
use Rattle.figures.proofs.LoadLoop.{load_start, load_turn, load_over, load_end}
use Rattle.figures.proofs.TaskSet.passes.Goals as goal

pub loop-i-init : goal.loop-i-init
loop-i-init c = rw c.product-limit.ensures (load_start _ _ _ c.requires _ (search rules))

pub returns-then-limit-total : goal.returns-then-limit-total
returns-then-limit-total c =
    load_over _ _ _ c.requires _ _ refl _ _ (rw c.product-limit.ensures at c.loop-i.invariant) _ _ c.loop-i-test.true refl c.share-total.ensures.0 (rw c.product-limit.ensures at c.if-limit-total.true)

pub loop-i-preserved : goal.loop-i-preserved
loop-i-preserved c = search (load_turn, rules)

pub returns : goal.returns
returns c = load_end _ _ _ c.requires _ _ refl _ _ (rw c.product-limit.ensures at c.loop-i.invariant) (search rules) c.loop-i-test.false
