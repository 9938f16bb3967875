-- What it means that a sheet is accepted, as a proposition (docs/SHEET.md, sections 2 to 4, 12 and 14), and what a dispatcher may rely on for
-- a core of an accepted sheet.
use Rattle.std.specs.Prelude.{ℕ, ◌+◌, ◌*◌, ◌≤◌, ◌<◌, ◌≡◌, ◌⊎◌, Bool, true, false, List, length, get_or, drop}
use Rattle.sheet.specs.Records.{Figures, number_at, count_at, task_count, core_count}
use Rattle.sheet.specs.Views.{version, is_grouped, is_stroked, number_of_position, positioned_in, by_position, figures}
use Rattle.fit.specs.Lists.{Each, EachPair}
use Rattle.fit.specs.Priority.{Above}
use Rattle.fit.specs.Fits.{Multiple, Multiples, LevelsFit, within}
use Rattle.fit.specs.Cores.{order_on}
use Rattle.views.specs.Order.{InOrder}
use Rattle.views.specs.Renamed.{Renamed}

-- at each task of core k the load, with what a task below it may hold the core for, is at most one
unfoldable pub LoadAtMostOne : Figures → ℕ → Type 0
LoadAtMostOne f k = LevelsFit f.budget f.stroke f.factor (f.pivot k) (f.divisor k) (order_on f k)

-- rules 1 to 5: the letters T S H, version 1, 2 or 3, at most 64 tasks and 8 cores, and the length that the counts give
pub record Framed (s : List ℕ) : Type 0 where
  pub mark : (get_or s 0 0 ≡ 0x54) × (get_or s 1 0 ≡ 0x53) × (get_or s 2 0 ≡ 0x48)
  pub version : (version s ≡ 1) ⊎ ((version s ≡ 2) ⊎ (version s ≡ 3))
  pub tasks : task_count s ≤ 64
  pub cores : core_count s ≤ 8
  pub size : length s ≡ 8 + 10 * task_count s + 8 * core_count s

-- rule 6: every spare byte is zero; in version 2 byte 2 of a core record is none, in version 3 byte 5 of a task record
pub record SparesZero (s : List ℕ) : Type 0 where
  pub header : get_or s 7 0 ≡ 0
  pub tasks : is_stroked s ≡ false → (i : ℕ) → i < task_count s → get_or (drop 8 s) (10 * i + 5) 0 ≡ 0
  pub cores : (k : ℕ) → k < core_count s → (is_grouped s ≡ false → get_or (drop 8 s) (10 * task_count s + 8 * k + 2) 0 ≡ 0) × (get_or (drop 8 s) (10 * task_count s + 8 * k + 3) 0 ≡ 0)

-- rules 7 to 9 and 25: the period, budget, stroke length and core of every task are in range
pub record TasksInRange (f : Figures) : Type 0 where
  pub period : (i : ℕ) → i < f.tasks → (1 ≤ f.period i) × (f.period i ≤ 60000)
  pub budget : (i : ℕ) → i < f.tasks → (1 ≤ f.budget i) × (f.budget i ≤ f.period i)
  pub stroke : (i : ℕ) → i < f.tasks → (1 ≤ f.stroke i) × (f.stroke i ≤ f.budget i)
  pub core : (i : ℕ) → i < f.tasks → f.core i < f.cores

-- rules 10 to 12: every core has a task; M, Q and D are in range; no accelerated period is above its period
pub record CoresInRange (f : Figures) : Type 0 where
  pub not_bare : (k : ℕ) → k < f.cores → (i : ℕ) × (i < f.tasks) × (f.core i ≡ k)
  pub factor : (i : ℕ) → i < f.tasks → (1 ≤ f.factor i) × (f.factor i ≤ 120000)
  pub pivot : (k : ℕ) → k < f.cores → (1 ≤ f.pivot k) × (f.pivot k ≤ 60000)
  pub divisor : (k : ℕ) → k < f.cores → (1 ≤ f.divisor k) × (f.divisor k ≤ 120000)
  pub accelerated : (i : ℕ) → i < f.tasks → f.pivot (f.core i) * f.factor i ≤ f.period i * f.divisor (f.core i)

-- rules 13 and 14: every core is simply periodic, and its load is at most one
pub record CoresFit (f : Figures) : Type 0 where
  pub simply_periodic : (k : ℕ) → k < f.cores → Multiples f.factor 1 (order_on f k)
  pub load : (k : ℕ) → k < f.cores → LoadAtMostOne f k

-- rules 7 to 14 and 25 are kept
pub record Fitting (f : Figures) : Type 0 where
  pub tasks : TasksInRange f
  pub cores : CoresInRange f
  pub fits : CoresFit f

-- rule 23: the records of a version 2 sheet, the part from byte 8, are in its order
unfoldable pub OrderKept : (grouped stroked : Bool) → ℕ → ℕ → List ℕ → Type 0
OrderKept grouped stroked n c records =
    let f : Figures = positioned_in grouped stroked n c records in
    grouped ≡ true → InOrder f.period (number_at records) f.core (count_at (drop (10 * n) records)) n c

-- all rules are kept; rules 7 to 14 and 25 go by position
pub record Acceptable (s : List ℕ) : Type 0 where
  pub frame : Framed s
  pub spares : SparesZero s
  pub order : OrderKept (is_grouped s) (is_stroked s) (task_count s) (core_count s) (drop 8 s)
  pub fitting : Fitting (by_position s)

-- What a dispatcher may rely on for a core with pivot Q and divisor D whose tasks in priority order are l; p, e, q and M are by task
-- number. Each factor divides all after it. The load is at most one at every level: of each task with those above it and what a task below
-- it may hold the core for, at that task's own factor. And e ≤ w ≤ p for every task.
pub record Schedulable (p e q M : ℕ → ℕ) (Q D : ℕ) (l : List ℕ) : Type 0 where
  pub count : length l ≤ 64
  pub number : Each (λ i. i < 64) l
  pub order : EachPair (Above p) l
  pub period : Each (λ i. (1 ≤ p i) × (p i ≤ 60000)) l
  pub budget : Each (λ i. (1 ≤ e i) × (e i ≤ p i)) l
  pub stroke : Each (λ i. (1 ≤ q i) × (q i ≤ e i)) l
  pub factor : Each (λ i. 1 ≤ M i) l
  pub divisor : 1 ≤ D
  pub accelerated : Each (λ i. Q * M i ≤ p i * D) l
  pub multiples : EachPair (λ i j. Multiple (M i) (M j)) l
  pub level : LevelsFit e q M Q D l
  pub bounds : Each (λ i. (e i ≤ within Q D (M i)) × (within Q D (M i) ≤ p i)) l

-- The same by task number for core k of a sheet that is accepted with n tasks and c cores, the sheet's size, and that its two views have
-- the same figures: all that a dispatcher uses of the checker.
pub record CoreOf (s : List ℕ) (n c k : ℕ) : Type 0 where
  pub tasks : n ≡ task_count s
  pub cores : c ≡ core_count s
  pub few : n ≤ 64
  pub size : length s ≡ 8 + 10 * n + 8 * c
  pub core : k < c
  pub views : Renamed (by_position s) (figures s) (number_of_position (is_grouped s) (drop 8 s))
  pub schedulable : Schedulable (figures s).period (figures s).budget (figures s).stroke (figures s).factor ((figures s).pivot k) ((figures s).divisor k) (order_on (figures s) k)
