use Rattle.std.proofs.Common.{◌≡◌}
use Rattle.fit.proofs.Overwriting.{overwritten}
use Rattle.timing.specs.Calls.{tick}
use Rattle.state.specs.Operations.{ask, step}
use Rattle.row.specs.Bytes.{answer_byte}
use Rattle.row.proofs.tick_each.Given as goal

-- both rows when i of each are overwritten
abbrev pub invariant-loop-i : goal.invariant-loop-i
invariant-loop-i l =
    record {
      states : l.row ≡ overwritten (step tick) l.fn.row l.fn.row l.i;
      bytes : l.answers ≡ overwritten (λ s. answer_byte (ask tick s)) l.fn.row l.fn.answers l.i;
    }
