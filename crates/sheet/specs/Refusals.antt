-- The refusals (docs/SHEET.md, section 9).
use Rattle.std.specs.Prelude.{ℕ}
use Rattle.sheet.specs.declared.Refusal.{Refusal}
use Rattle.sheet.specs.declared.Refusal.TheVariants.{Stub, Mark, Version, Count, Length, Spare, Period, Budget, Core, Bare, Factor, Stretch, Chain, Overload, NoFit, Tight, Unlisted, Early, Late, Quiet, Foreign, Start, Order, Row, Stroke}

-- the number of each refusal, by its word
abbrev pub number_of : Refusal → ℕ
number_of Stub = 1
number_of Mark = 2
number_of Version = 3
number_of Count = 4
number_of Length = 5
number_of Spare = 6
number_of Period = 7
number_of Budget = 8
number_of Core = 9
number_of Bare = 10
number_of Factor = 11
number_of Stretch = 12
number_of Chain = 13
number_of Overload = 14
number_of NoFit = 15
number_of Tight = 16
number_of Unlisted = 17
number_of Early = 18
number_of Late = 19
number_of Quiet = 20
number_of Foreign = 21
number_of Start = 22
number_of Order = 23
number_of Row = 24
number_of Stroke = 25
