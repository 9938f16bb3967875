use Rattle.std.proofs.Common.{rules, length, ◌≡◌}
use lib.ListN.{length-take}
use Rattle.dispatcher.proofs.Starting.{fill_start, fill_turn, fill_end}
use Rattle.dispatcher.proofs.fill.Goals as goal

pub loop-i-init : goal.loop-i-init
loop-i-init g c = λ t k. search (fill_start, rules)

pub loop-i-preserved : goal.loop-i-preserved
loop-i-preserved g c = λ t k. fill_turn t _ c.loop-i.i _ _ (search rules) c.loop-i-test.true (c.loop-i.invariant t k) (k _ _ (search rules) (search rules))

pub returns : goal.returns
returns g c = λ t k.
    let many : c.args.order.now.count ≡ length c.as_slice-j-items.result.now = rw c.as_slice-j-items.ensures (simp length-take (search rules)) in
    rw c.as_slice-j-items.ensures at (fill_end t c.as_slice-j-items.result.now c.loop-i.i c.args.order.now.count _ (search rules) (search rules) many (c.loop-i.invariant t k))
