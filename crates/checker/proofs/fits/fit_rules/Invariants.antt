use Prim.Native.Nat.{◌≤◌, min}
use mathlib.Core.Path.{◌≡◌}
use lib.ListN.{length}
use Rattle.sheet.specs.Views.{figures_by}
use Rattle.order.specs.Cores.{on_cores}
use Rattle.checker.proofs.Judging.{Passed}
use Rattle.checker.proofs.fits.fit_rules.Given as goal

abbrev pub invariant-loop-k : goal.invariant-loop-k
invariant-loop-k l = record {
  from : l.from ≡ length (on_cores (figures_by l.r).period (figures_by l.r).core l.k (min l.r.n 64));
  within : l.from ≤ 64;
  passed : Passed (figures_by l.r) l.r.c l.k l.found;
}
