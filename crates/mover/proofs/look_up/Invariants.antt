use Rattle.fit.specs.Answers.{Column}
use Rattle.mover.specs.Steps.{found}
use Rattle.mover.proofs.look_up.Given as goal

abbrev pub invariant-loop-i : goal.invariant-loop-i
invariant-loop-i l = Column (found l.list l.places) l.i l.column
