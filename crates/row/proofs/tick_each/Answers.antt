use Rattle.std.proofs.Common.{ℕ, ◌≡◌, ◌+◌, ◌<◌, ◌≤◌, List, arith, ap, ◌∙◌, set, length, get_or}
use Rattle.std.proofs.lemmas.List.{length-map}
use Rattle.fit.proofs.Overwriting.{overwritten, over_at, over_turn, self_turn, over_end}
use Rattle.timing.specs.Calls.{tick}
use Rattle.state.specs.declared.Core.{Core}
use Rattle.state.specs.Operations.{ask, step}
use Rattle.row.specs.Bytes.{answer_byte}
use Rattle.row.specs.Row.{written}
use Rattle.fit.specs.Lists.{over}
use Rattle.row.proofs.tick_each.Goals as goal

abbrev byte_of : Core → ℕ
byte_of s = answer_byte (ask tick s)

states_turn : (xs zs : List Core) (i : ℕ) (d s : Core) → i < length xs → zs ≡ overwritten (step tick) xs xs i → s ≡ step tick (get_or zs i d) → set zs i s ≡ overwritten (step tick) xs xs (i + 1)
states_turn xs zs i d s h e f = rw (f, e) (self_turn (step tick) xs i d h)

bytes_turn : (xs zs : List Core) (bs ws : List ℕ) (i b : ℕ) (d : Core) → i < length xs → length xs ≤ length bs → zs ≡ overwritten (step tick) xs xs i → ws ≡ overwritten byte_of xs bs i → b ≡ byte_of (get_or zs i d) → set ws i b ≡ overwritten byte_of xs bs (i + 1)
bytes_turn xs zs bs ws i b d h k e f g =
    let m : i < length bs = omega arith in
    rw (g, e, f) (ap (λ (u : Core). set (overwritten byte_of xs bs i) i (byte_of u)) (over_at (step tick) xs xs i d h h) ∙ over_turn byte_of xs bs i d h m)

written_is : (xs : List Core) (bs : List ℕ) (i : ℕ) → i ≤ length xs → length xs ≤ i → overwritten byte_of xs bs i ≡ written xs bs
unfolding written over
written_is xs bs i h k =
    let e : i ≡ length xs = omega arith in
    over_end byte_of xs bs i e ∙ rw (length-map xs byte_of)

pub loop-i-preserved : goal.loop-i-preserved
loop-i-preserved c =
    let o = c.tick-ticked.ensures.operation in
    record {
      states = states_turn c.args.row.now c.loop-i.row c.loop-i.i _ _ c.loop-i-test.true c.loop-i.invariant.states o.core;
      bytes = bytes_turn c.args.row.now c.loop-i.row c.args.answers.now c.loop-i.answers c.loop-i.i _ _ c.loop-i-test.true c.requires c.loop-i.invariant.states c.loop-i.invariant.bytes (c.byte_of.ensures ∙ ap answer_byte o.answer);
    }

pub returns-clause-bytes : goal.returns-clause-bytes
returns-clause-bytes c = c.loop-i.invariant.bytes ∙ written_is c.args.row.now c.args.answers.now c.loop-i.i c.loop-i.auto.i-end c.loop-i-test.false
