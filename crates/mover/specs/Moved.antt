-- The sheet of the other version (docs/SHEET.md, section 12): the same tasks, cores and spare bytes, laid out anew.
use Rattle.std.specs.Prelude.{ℕ, zero, suc, ◌+◌, ◌*◌, cond, List, [], ◌∷◌, ◌++◌, length, get_or, drop}
use Rattle.sheet.specs.Records.{Figures, task_count, core_count}
use Rattle.sheet.specs.Views.{is_grouped, position_of_number, figures}
use Rattle.fit.specs.Lists.{numbers, at, joined}
use Rattle.fit.specs.Cores.{order_on}

-- the n bytes from offset a on
unfoldable pub bytes : List ℕ → ℕ → ℕ → List ℕ
bytes s a zero = []
bytes s a (suc n) = get_or s a 0 ∷ bytes s (suc a) n

-- the header with another version, which is below 256
unfoldable pub header_with : List ℕ → ℕ → List ℕ
header_with s version = bytes s 0 3 ++ (version ∷ 0 ∷ bytes s 5 3)

-- the record of position j with another byte 4
unfoldable pub task_with : List ℕ → ℕ → ℕ → List ℕ
task_with tasks j x = bytes tasks (10 * j) 4 ++ (x ∷ bytes tasks (10 * j + 5) 5)

-- the record of core k with another byte 2
unfoldable pub core_with : List ℕ → ℕ → ℕ → List ℕ
core_with cores k x = bytes cores (8 * k) 2 ++ (x ∷ bytes cores (8 * k + 3) 5)

-- How a sheet is laid out anew: its version; from which position the record of each position comes, and its byte 4; and byte 2 of each
-- core record.
pub record Layout : Type 0 where
  pub version : ℕ
  pub from : ℕ → ℕ
  pub byte4 : ℕ → ℕ
  pub count : ℕ → ℕ

-- the sheet so laid out
unfoldable pub laid_out : Layout → List ℕ → List ℕ
laid_out y s =
    header_with s y.version
    ++ (joined (λ i. task_with (drop 8 s) (y.from i) (y.byte4 i)) (numbers 0 (task_count s))
    ++ joined (λ k. core_with (drop (10 * task_count s) (drop 8 s)) k (y.count k)) (numbers 0 (core_count s)))

-- the tasks core by core, those of each core in priority order
unfoldable pub grouping : Figures → List ℕ
grouping f = joined (order_on f) (numbers 0 f.cores)

-- version 1: the task records by number, byte 4 the core; the task counts are zeros
abbrev pub layout1 : List ℕ → Layout
layout1 s = record { version = 1; from = position_of_number (is_grouped s) (task_count s) (drop 8 s); byte4 = (figures s).core; count = λ k. 0 }

-- version 2: the task records by core and then by priority, byte 4 the old number; the task counts
abbrev pub layout2 : List ℕ → Layout
layout2 s = record { version = 2; from = at (grouping (figures s)); byte4 = at (grouping (figures s)); count = λ k. length (order_on (figures s) k) }

-- the version 1 sheet and the version 2 sheet with the tasks, cores and spare bytes of a sheet
unfoldable pub version1 : List ℕ → List ℕ
version1 s = laid_out (layout1 s) s

unfoldable pub version2 : List ℕ → List ℕ
version2 s = laid_out (layout2 s) s

-- the sheet of the other version: 1 becomes 2, and 2 becomes 1
unfoldable pub moved : List ℕ → List ℕ
moved s = cond (is_grouped s) (version1 s) (version2 s)
