use Rattle.std.proofs.Common.{◌*◌}
use Rattle.sheet.specs.Views.{figures_by}
use Rattle.fit.specs.Lists.{numbers, joined}
use Rattle.listing.specs.Listing.{core_line}
use Rattle.listing.specs.Steps.{Capped}
use Rattle.listing.proofs.Figures.{Begins}
use Rattle.listing.proofs.put_cores.Given as goal

abbrev pub invariant-loop-k : goal.invariant-loop-k
invariant-loop-k l = record {
  lines : Capped (76 * l.k) l.initial.out l.from (joined (core_line (figures_by l.r)) (numbers 0 l.k)) l.out l.at;
  begins : Begins (figures_by l.r) l.periods l.list l.k l.start;
}
