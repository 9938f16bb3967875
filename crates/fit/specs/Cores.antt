-- A core of a sheet (docs/SHEET.md, section 3): its tasks in priority order, and the w of each.
use Rattle.std.specs.Prelude.{ℕ, List}
use Rattle.sheet.specs.Records.{Figures}
use Rattle.fit.specs.Priority.{order}
use Rattle.fit.specs.Fits.{within}

-- the tasks of core k in priority order
unfoldable pub order_on : Figures → ℕ → List ℕ
order_on f k = order f.period f.core k f.tasks

-- w of task i on core k
unfoldable pub within_on : Figures → ℕ → ℕ → ℕ
within_on f k i = within (f.pivot k) (f.divisor k) (f.factor i)
