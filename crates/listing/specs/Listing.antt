-- The listing: the text of any bytes, as ASCII codes (docs/SHEET.md, section 8). Every line ends with a line feed.
use Rattle.std.specs.Prelude.{ℕ, ◌*◌, List, [], ◌∷◌, ◌++◌}
use Rattle.sheet.specs.Numbers.{word}
use Rattle.sheet.specs.Records.{Figures}
use Rattle.sheet.specs.Views.{figures}
use Rattle.fit.specs.Lists.{numbers, joined}
use Rattle.fit.specs.Rounding.{ceiling}
use Rattle.fit.specs.Fits.{exact_load, full_load}
use Rattle.fit.specs.Cores.{order_on, within_on}
use Rattle.checker.specs.Verdict.{Outcome, accepted, refused, verdict}
use Rattle.listing.specs.Decimal.{decimal}
use Rattle.listing.specs.Words.{space, line_feed}
use Rattle.listing.specs.Words as the

-- a word and a number, then a space or the line feed
unfoldable pub field : List ℕ → ℕ → ℕ → List ℕ
field w x end = w ++ decimal x ++ end ∷ []

-- the first line: the mark, the version, and the counts n and c
unfoldable pub header_line : ℕ → ℕ → ℕ → List ℕ
header_line version n c = field the.mark version space ++ field the.tasks n space ++ field the.cores c line_feed

-- the line of task i; "within" is w, with Q and D of its core
unfoldable pub task_line : Figures → ℕ → List ℕ
task_line f i =
    field the.task i space
    ++ field the.core (f.core i) space
    ++ field the.period (f.period i) space
    ++ field the.budget (f.budget i) space
    ++ field the.factor (f.factor i) space
    ++ field the.within (within_on f (f.core i) i) line_feed

-- a load in thousandths of a full one, rounded up
unfoldable pub thousandths : ℕ → ℕ → ℕ
thousandths load full = ceiling (1000 * load) full

-- the load of core k in thousandths: one division at the end, of the exact sum
unfoldable pub load_of : Figures → ℕ → ℕ
load_of f k = thousandths (exact_load f.budget f.factor (f.divisor k) (order_on f k)) (full_load f.factor (f.pivot k) (order_on f k))

-- the line of core k
unfoldable pub core_line : Figures → ℕ → List ℕ
core_line f k =
    field the.core k space
    ++ field the.pivot (f.pivot k) space
    ++ field the.divisor (f.divisor k) space
    ++ field the.load (load_of f k) line_feed

-- the text of an accepted sheet: the first line, the tasks by number, the cores by number
unfoldable pub sheet_text : ℕ → Figures → List ℕ
sheet_text version f =
    header_line version f.tasks f.cores
    ++ joined (task_line f) (numbers 0 f.tasks)
    ++ joined (core_line f) (numbers 0 f.cores)

-- the one line of a refused sheet
unfoldable pub refused_line : ℕ → ℕ → List ℕ
refused_line number place = field the.refused number space ++ field the.place place line_feed

-- the text of bytes s with this verdict
unfoldable pub text_of : Outcome → List ℕ → List ℕ
text_of (accepted n c) s = sheet_text (word s 3) (figures s)
text_of (refused number place) s = refused_line number place

-- the text of any bytes
unfoldable pub listing_of : List ℕ → List ℕ
listing_of s = text_of (verdict s) s
