-- The figures of a core as the code hands them out (docs/SHEET.md, section 5).
use Rattle.std.specs.Prelude.{Option}
use Rattle.std.specs.Option.{option_map}
use Rattle.fit.specs.Lists.{padded}
use Rattle.figures.specs.declared.CoreFigures.{CoreFigures}
use Rattle.figures.specs.Constructions.{Acceleration}

-- pivot and divisor, and the factors in priority order with zeros past them
unfoldable pub written : Acceleration → CoreFigures
written a = record { pivot = a.Q; divisor = a.D; factors = padded a.factors }

-- the figures, if something passes
abbrev pub outcome : Option Acceleration → Option CoreFigures
outcome = option_map written
