-- What the code's own steps ask and give; no public contract speaks of it.
use Rattle.std.specs.Prelude.{ℕ, ◌+◌, ◌*◌, ◌≤◌, ◌<◌, ◌≡◌, Bool, not, ◌&&◌, List, length, get_or, ltb}
use Rattle.sheet.specs.Records.{task_count, core_count}
use Rattle.sheet.specs.Views.{is_stroked}
use Rattle.fit.specs.Lists.{numbers, at, joined}
use Rattle.fit.specs.Priority.{order}
use Rattle.checker.specs.Tests.{is_marked}
use Rattle.mover.specs.declared.Arrangement.{Arrangement}
use Rattle.mover.specs.Moved.{task_with, core_with, Layout}

-- the task record of new position i, and the record of core k, by what stands in arrays
unfoldable pub task_bytes : (tasks from byte4 : List ℕ) → ℕ → List ℕ
task_bytes tasks from byte4 i = task_with tasks (get_or from i 0) (get_or byte4 i 0)

unfoldable pub core_bytes : (cores counts : List ℕ) → ℕ → List ℕ
core_bytes cores counts k = core_with cores k (get_or counts k 0)

-- the counts of a sheet are n and c, and it is as long as they give
pub record Sized (s : List ℕ) (n c : ℕ) : Type 0 where
  pub tasks : n ≡ task_count s
  pub cores : c ≡ core_count s
  pub few_tasks : n ≤ 64
  pub few_cores : c ≤ 8
  pub size : length s ≡ 8 + 10 * n + 8 * c

-- a sheet has the length of a header and the mark, and is of version 3
unfoldable pub unmovable : List ℕ → Bool
unmovable s = not (ltb (length s) 8) && (is_marked s && is_stroked s)

-- what stands in a list at the i-th of some places
unfoldable pub found : (list places : List ℕ) → ℕ → ℕ
found list places i = get_or list (get_or places i 0) 0

-- the layout of version 2 for n tasks with periods p on c cores
abbrev pub grouped_by : (p core : ℕ → ℕ) → ℕ → ℕ → Layout
grouped_by p core n c =
    let from : ℕ → ℕ = at (joined (λ k. order p core k n) (numbers 0 c)) in
    record { version = 2; from = from; byte4 = from; count = λ k. length (order p core k n) }

-- a layout of n tasks and c cores, in arrays
pub record Arranged (y : Layout) (n c : ℕ) (a : Arrangement) : Type 0 where
  pub version : a.version ≡ y.version
  pub from : (i : ℕ) → i < n → get_or a.from i 0 ≡ y.from i
  pub byte4 : (i : ℕ) → i < n → get_or a.byte4 i 0 ≡ y.byte4 i
  pub count : (k : ℕ) → k < c → get_or a.counts k 0 ≡ y.count k
