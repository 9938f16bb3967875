use Rattle.std.proofs.Common.{rules}
use Rattle.timing.specs.Tasks.{with_job}
use Rattle.state.proofs.Outcomes.{spot_room, spot_fits, release_absent, release_early, release_late, release_starts}
use Rattle.state.proofs.Core.released.Goals as goal

pub offset_bounds-self-at : goal.offset_bounds-self-at
offset_bounds-self-at c = search (spot_fits, rules)

pub bounds-self-at : goal.bounds-self-at
bounds-self-at c = search (spot_room, rules)

pub returns-in_err-at-clause-refused : goal.returns-in_err-at-clause-refused
returns-in_err-at-clause-refused c = search (release_absent, rules)

pub returns-then-t-clause-refused : goal.returns-then-t-clause-refused
returns-then-t-clause-refused c = release_early c.args.self.now c.args.number (search rules) c.spot_of.result (search rules) c.in_ok-at.at (search rules) _ c.from-place.result (search rules) (search rules) (search rules)

pub returns-then-t-gt0-clause-refused : goal.returns-then-t-gt0-clause-refused
returns-then-t-gt0-clause-refused c = release_late c.args.self.now c.args.number (search rules) c.spot_of.result (search rules) c.in_ok-at.at (search rules) _ c.from-place.result (search rules) (search rules) (search rules) (search rules)

pub returns-clause-accepted : goal.returns-clause-accepted
unfolding with_job
returns-clause-accepted c = (search (spot_room, rules), release_starts c.args.self.now c.args.number (search rules) c.spot_of.result (search rules) c.in_ok-at.at (search rules) _ (search rules) (search rules) (search rules))
