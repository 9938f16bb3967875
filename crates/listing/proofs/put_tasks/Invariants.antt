use Rattle.std.proofs.Common.{◌*◌}
use Rattle.sheet.specs.Views.{renumbered, figures_by}
use Rattle.fit.specs.Lists.{numbers, at as column, joined}
use Rattle.listing.specs.Listing.{task_line}
use Rattle.listing.specs.Steps.{Capped}
use Rattle.listing.proofs.put_tasks.Given as goal

abbrev pub invariant-loop-i : goal.invariant-loop-i
invariant-loop-i l = Capped (114 * l.i) l.initial.out l.from (joined (task_line (renumbered (column l.positions) (figures_by l.r))) (numbers 0 l.i)) l.out l.at
