-- What the place of a refusal says (docs/SHEET.md, section 4), where one row of the table does not say it: rules 6 and 13.
use Rattle.std.specs.Prelude.{ℕ, ◌+◌, ◌*◌, ◌<◌, ◌≡◌, false, List, get_or}
use Rattle.sheet.specs.Records.{Figures, task_count, core_count}
use Rattle.sheet.specs.Views.{is_grouped, is_stroked}
use Rattle.fit.specs.Fits.{Multiples}
use Rattle.fit.specs.Firsts.{FirstBreak}
use Rattle.fit.specs.Cores.{order_on}

-- byte x of a sheet is spare: byte 7, byte 5 of a task record but in version 3, byte 3 of a core record, or byte 2 of one but in version 2
pub data SpareOffset (s : List ℕ) (x : ℕ) : Type 0 where
  header : x ≡ 7 → SpareOffset s x
  task : (i : ℕ) → i < task_count s → is_stroked s ≡ false → x ≡ 8 + 10 * i + 5 → SpareOffset s x
  core_low : (k : ℕ) → k < core_count s → is_grouped s ≡ false → x ≡ 8 + 10 * task_count s + 8 * k + 2 → SpareOffset s x
  core_high : (k : ℕ) → k < core_count s → x ≡ 8 + 10 * task_count s + 8 * k + 3 → SpareOffset s x

-- x is the lowest offset of a spare byte that is not 0
pub record LowestSpare (s : List ℕ) (x : ℕ) : Type 0 where
  pub spare : SpareOffset s x
  pub set : get_or s x 0 ≡ 0 → ⊥
  pub lowest : (y : ℕ) → SpareOffset s y → y < x → get_or s y 0 ≡ 0

-- x is the position of the first task by priority that breaks the chain of its core, and no core before that one has a broken chain
pub record FirstChainBreak (f : Figures) (x : ℕ) : Type 0 where
  pub core : ℕ
  pub below : core < f.cores
  pub breaks : FirstBreak f.factor 1 (order_on f core) x
  pub first : (k : ℕ) → k < core → Multiples f.factor 1 (order_on f k)
