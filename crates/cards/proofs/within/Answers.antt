-- A number divided by 0 is 0.
use Rattle.std.proofs.Common.{rules, ℕ, ◌*◌, ◌/◌, sym, ap, ◌∙◌}
use Rattle.std.proofs.Math.Nat.{div-zero}
use Rattle.fit.specs.Fits.{within}
use Rattle.cards.proofs.within.Goals as goal

pub returns-then-d-eq0 : goal.returns-then-d-eq0
unfolding within
returns-then-d-eq0 c =
    let a = c.args in
    sym (ap (λ (x : ℕ). a.q * a.m / x) c.if-d-eq0.true ∙ div-zero (a.q * a.m))

pub returns : goal.returns
unfolding within
returns c = search rules
