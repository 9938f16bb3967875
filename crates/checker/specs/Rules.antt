-- The rules 1 to 14, 23 and 25 as one table, read from the top (docs/SHEET.md, sections 4, 12 and 14). Places of tasks are positions.
use Rattle.std.specs.Prelude.{ℕ, ◌+◌, ◌*◌, Bool, not, ◌||◌, List, [], ◌∷◌, ◌++◌, length, drop, ltb, eqb}
use Rattle.std.specs.Prelude.{Option}
use Rattle.std.specs.Option.{option_map}
use Rattle.sheet.specs.Table.{Row, ◌at◌, whole, core}
use Rattle.sheet.specs.Ranges.{bad_period, bad_budget, bad_stroke}
use Rattle.sheet.specs.Records.{Figures, task_count, core_count}
use Rattle.sheet.specs.Views.{is_grouped, is_stroked, positioned_in}
use Rattle.fit.specs.Lists.{numbers, find, find_some}
use Rattle.checker.specs.Tests.{is_marked, bad_version, task_spares, core_spares, is_set, bad_order, bad_core, bare, bad_factor, bad_pivot, stretched_at, chain_break_on, overloaded_on}

-- an offset in the part from byte 8, as one in the sheet
unfoldable pub offset : Option ℕ → Option ℕ
offset o = option_map (λ a. 8 + a) o

-- 1 Stub, 2 Mark, 3 Version, 4 Count, 5 Length
unfoldable pub frame_rows : List ℕ → List Row
frame_rows s =
    1 at whole (ltb (length s) 8)
    ∷ 2 at whole (not (is_marked s))
    ∷ 3 at whole (bad_version s)
    ∷ 4 at whole (ltb 64 (task_count s) || ltb 8 (core_count s))
    ∷ 5 at whole (not (eqb (length s) (8 + 10 * task_count s + 8 * core_count s)))
    ∷ []

-- 6 Spare: byte 7 of the header, byte 5 of each task record but in version 3, bytes 2 and 3 of each core record, in version 2 byte 3 alone
unfoldable pub spare_rows : (grouped stroked : Bool) → ℕ → ℕ → List ℕ → List ℕ → List Row
spare_rows grouped stroked n c s records =
    6 at find (is_set s) (7 ∷ [])
    ∷ 6 at offset (find (is_set records) (task_spares stroked 0 n))
    ∷ 6 at offset (find (is_set records) (core_spares grouped (10 * n) c))
    ∷ []

-- 7 Period, 8 Budget and 25 Stroke, each at the first task by position, 23 Order, 9 Core at the first task; in versions 1 and 2 every q is
-- 1, so that 25 is never given
unfoldable pub task_rows : Bool → Figures → List Row
task_rows misordered f =
    7 at find (bad_period f.period) (numbers 0 f.tasks)
    ∷ 8 at find (bad_budget f.period f.budget) (numbers 0 f.tasks)
    ∷ 25 at find (bad_stroke f.budget f.stroke) (numbers 0 f.tasks)
    ∷ 23 at whole misordered
    ∷ 9 at find (bad_core f.cores f.core) (numbers 0 f.tasks)
    ∷ []

-- 10 Bare at the first core, 11 Factor at the first task and then at the first core, 12 Stretch at the first task
unfoldable pub core_rows : Figures → List Row
core_rows f =
    10 at core (find (bare f.tasks f.core) (numbers 0 f.cores))
    ∷ 11 at find (bad_factor f.factor) (numbers 0 f.tasks)
    ∷ 11 at core (find (bad_pivot f.pivot f.divisor) (numbers 0 f.cores))
    ∷ 12 at find (stretched_at f) (numbers 0 f.tasks)
    ∷ []

-- 13 Chain by core number and inside a core by priority, 14 Overload at the first core
unfoldable pub fit_rows : Figures → List Row
fit_rows f = 13 at find_some (chain_break_on f) (numbers 0 f.cores) ∷ 14 at core (find (overloaded_on f) (numbers 0 f.cores)) ∷ []

-- rules 7 to 14, 23 and 25
unfoldable pub record_rows : Bool → Figures → List Row
record_rows misordered f = task_rows misordered f ++ (core_rows f ++ fit_rows f)

-- the same, of the part from byte 8
unfoldable pub part_rows : (grouped stroked : Bool) → ℕ → ℕ → List ℕ → List Row
part_rows grouped stroked n c records =
    let f : Figures = positioned_in grouped stroked n c records in
    record_rows (bad_order grouped f records) f

-- the whole table, of any bytes
unfoldable pub rules : List ℕ → List Row
rules s =
    frame_rows s
    ++ (spare_rows (is_grouped s) (is_stroked s) (task_count s) (core_count s) s (drop 8 s)
    ++ part_rows (is_grouped s) (is_stroked s) (task_count s) (core_count s) (drop 8 s))
