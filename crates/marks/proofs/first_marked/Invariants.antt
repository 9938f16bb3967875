use Prim.Native.Nat.{◌*◌}
use Rattle.fit.proofs.Finds.{Searched}
use Rattle.marks.specs.Words.{marked}
use Rattle.marks.proofs.first_marked.Given as goal

abbrev pub invariant-loop-g : goal.invariant-loop-g
invariant-loop-g l = Searched marked (8 * l.g) l.marks
