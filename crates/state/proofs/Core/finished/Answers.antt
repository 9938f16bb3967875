use Rattle.std.proofs.Common.{rules}
use Rattle.timing.specs.Tasks.{with_job}
use Rattle.state.proofs.Outcomes.{spot_room, spot_fits, finish_absent, finish_quiet, finish_ends}
use Rattle.state.proofs.Core.finished.Goals as goal

pub offset_bounds-self-at : goal.offset_bounds-self-at
offset_bounds-self-at c = search (spot_fits, rules)

pub bounds-self-at : goal.bounds-self-at
bounds-self-at c = search (spot_room, rules)

pub returns-in_err-at-clause-refused : goal.returns-in_err-at-clause-refused
returns-in_err-at-clause-refused c = search (finish_absent, rules)

pub returns-then-t-eq0-clause-refused : goal.returns-then-t-eq0-clause-refused
returns-then-t-eq0-clause-refused c = finish_quiet c.args.self.now c.args.number (search rules) c.spot_of.result (search rules) c.in_ok-at.at (search rules) _ c.from.result (search rules) (search rules) (search rules)

pub returns-clause-accepted : goal.returns-clause-accepted
unfolding with_job
returns-clause-accepted c = (search (spot_room, rules), finish_ends c.args.self.now c.args.number (search rules) c.spot_of.result (search rules) c.in_ok-at.at (search rules) _ (search rules) (search rules))
