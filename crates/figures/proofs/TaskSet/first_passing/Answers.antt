use Rattle.std.proofs.Common.{Some, refl, rules}
use Rattle.figures.proofs.Rounds.{rounds}
use Rattle.figures.proofs.TaskSet.first_passing.Goals as goal

pub returns-in-Some : goal.returns-in-Some
returns-in-Some c =
    let f = Some c.in-Some.figures in
    rounds _ _ c.args.self.now.few c.args.self.now.sorted f f f c.in-Some.ensures refl refl

pub returns-in-Some-first_sr : goal.returns-in-Some-first_sr
returns-in-Some-first_sr c =
    let f = Some c.in-Some-first_sr.figures in
    rounds _ _ c.args.self.now.few c.args.self.now.sorted _ f f c.in_default.ensures c.in-Some-first_sr.ensures refl

pub returns : goal.returns
returns c = search (rounds c.args.self.now.periods.now c.args.self.now.budgets.now c.args.self.now.few c.args.self.now.sorted, c.in_default.ensures, c.in_default-first_sr.ensures, rules)
