-- The two views of a sheet (docs/SHEET.md, section 12): by position, which the rules and places of the checker go by, and by task number,
-- which priority, state, listing and the on_time rule go by. In versions 1 and 3 they are one.
use Rattle.std.specs.Prelude.{ℕ, zero, suc, ◌+◌, ◌*◌, Bool, cond, List, drop, leb, eqb, get_or}
use Rattle.sheet.specs.declared.Records.{Records}
use Rattle.sheet.specs.Numbers.{word}
use Rattle.sheet.specs.Records.{Figures, core_at, number_at, count_at, stroke_at, figures_with, task_count, core_count}

-- the version of a sheet
abbrev pub version : List ℕ → ℕ
version s = word s 3

-- version 2: the task records stand core by core
abbrev pub is_grouped : List ℕ → Bool
is_grouped s = eqb (version s) 2

-- version 3: byte 5 of a task record is its stroke length q (docs/SHEET.md, section 14)
abbrev pub is_stroked : List ℕ → Bool
is_stroked s = eqb (version s) 3

-- how many tasks stand on the cores before core k, by their task counts: the position of its first task
unfoldable pub first_of : (ℕ → ℕ) → ℕ → ℕ
first_of count zero = 0
first_of count (suc k) = first_of count k + count k

-- the core of position j among c cores with these task counts: the last one that begins at j or before it; c where j is past them all
unfoldable pub core_by_counts : (ℕ → ℕ) → ℕ → ℕ → ℕ
core_by_counts count zero j = 0
core_by_counts count (suc c) j = cond (leb (first_of count (suc c)) j) (suc c) (core_by_counts count c j)

-- the position of the task with old number i: the last of the first n that has it; 0 where none has
unfoldable pub position_of : (ℕ → ℕ) → ℕ → ℕ → ℕ
position_of number zero i = 0
position_of number (suc n) i = cond (eqb (number n) i) n (position_of number n i)

-- the core of each position: byte 4 of its record, or by the task counts of the core records
abbrev pub core_of_position : Bool → ℕ → List ℕ → List ℕ → ℕ → ℕ
core_of_position grouped c tasks cores = cond grouped (core_by_counts (count_at cores) c) (core_at tasks)

-- the number of the task at each position: the position itself, or byte 4 of its record
abbrev pub number_of_position : Bool → List ℕ → ℕ → ℕ
number_of_position grouped tasks = cond grouped (number_at tasks) (λ j. j)

-- the position of each task number among n
abbrev pub position_of_number : Bool → ℕ → List ℕ → ℕ → ℕ
position_of_number grouped n tasks = cond grouped (position_of (number_at tasks) n) (λ i. i)

-- the stroke length of each position: byte 5 of its record in version 3, else 1
abbrev pub stroke_of_position : Bool → List ℕ → ℕ → ℕ
stroke_of_position stroked tasks = cond stroked (stroke_at tasks) (λ j. 1)

-- by position: the figures of the part from byte 8, which is n task records and then c core records
abbrev pub positioned_in : (grouped stroked : Bool) → ℕ → ℕ → List ℕ → Figures
positioned_in grouped stroked n c records =
    let cores : List ℕ = drop (10 * n) records in
    figures_with (core_of_position grouped c records cores) (stroke_of_position stroked records) n c records cores

abbrev pub by_position : List ℕ → Figures
by_position s = positioned_in (is_grouped s) (is_stroked s) (task_count s) (core_count s) (drop 8 s)

-- the figures of records by position, as the code holds them
abbrev pub figures_by : Records → Figures
figures_by r = figures_with (λ j. get_or r.on.now j 0) (stroke_of_position r.stroked r.tasks.now) r.n r.c r.tasks.now r.cores.now

-- the same figures, those of each task looked up at its position
abbrev pub renumbered : (ℕ → ℕ) → Figures → Figures
renumbered position f =
    record {
      tasks = f.tasks;
      cores = f.cores;
      period = λ i. f.period (position i);
      budget = λ i. f.budget (position i);
      core = λ i. f.core (position i);
      stroke = λ i. f.stroke (position i);
      factor = λ i. f.factor (position i);
      pivot = f.pivot;
      divisor = f.divisor;
    }

-- by task number: the figures of a sheet
abbrev pub figures : List ℕ → Figures
figures s = renumbered (position_of_number (is_grouped s) (task_count s) (drop 8 s)) (by_position s)
