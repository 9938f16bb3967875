-- First fit (docs/SHEET.md, section 5). p and e are the tasks' periods and budgets by number, and n is how many there are.
use Rattle.std.specs.Prelude.{ℕ, ◌+◌, Bool, true, false, cond, List, [], ◌∷◌, ◌++◌, map, set, take, drop, replicate, ltb}
use Rattle.std.specs.Prelude.{Option, None, Some}
use Rattle.fit.specs.Lists.{numbers, find, at}
use Rattle.fit.specs.Priority.{order}
use Rattle.figures.specs.Constructions.{Acceleration}
use Rattle.figures.specs.Passing.{first_passing}
use Rattle.planner.specs.declared.Assignment.{Assignment}

-- a list walked once round from a start: from that position to the end, then from the front up to it
unfoldable pub rotate : ℕ → List ℕ → List ℕ
rotate start l = drop start l ++ take start l

-- No task has a core. An assignment has the core of each task by number, 255 for a task that has none yet, and how many cores are open.
unfoldable pub unassigned : Assignment
unassigned = record { core = replicate 64 255; cores = 0 }

-- the tasks of core k in priority order
unfoldable pub core_set : (ℕ → ℕ) → ℕ → List ℕ → ℕ → List ℕ
core_set p n core k = order p (at core) k n

-- the figures of core k, if one of the constructions passes
unfoldable pub core_figures : (ℕ → ℕ) → (ℕ → ℕ) → ℕ → List ℕ → ℕ → Option Acceleration
core_figures p e n core k = first_passing (map p (core_set p n core k)) (map e (core_set p n core k))

-- there are figures
unfoldable pub is_some : Option Acceleration → Bool
is_some None = false
is_some (Some a) = true

-- core k's tasks together with task i pass
unfoldable pub takes : (ℕ → ℕ) → (ℕ → ℕ) → ℕ → ℕ → List ℕ → ℕ → Bool
takes p e n i core k = is_some (core_figures p e n (set core i k) k)

-- the open core that was found, else the next new one if fewer than the limit are open, else none
unfoldable pub chosen : Option ℕ → ℕ → ℕ → Option ℕ
chosen (Some k) limit cores = Some k
chosen None limit cores = cond (ltb cores limit) (Some cores) None

-- the core for task i: the lowest open core that takes it, else a new one, else none
unfoldable pub core_for : (ℕ → ℕ) → (ℕ → ℕ) → ℕ → ℕ → ℕ → Assignment → Option ℕ
core_for p e n limit i a = chosen (find (takes p e n i a.core) (numbers 0 a.cores)) limit a.cores

-- the assignment with task i on core k, which may be the next new one
unfoldable pub assign : ℕ → ℕ → Assignment → Assignment
assign i k a = record { core = set a.core i k; cores = cond (ltb k a.cores) a.cores (a.cores + 1) }

-- the outcome of a walk: every task has a core, or one finds none
pub data Fit : Type 0 where
  placed : Assignment → Fit
  unplaced : ℕ → Fit

-- go on with the core for task i, or end with task i where there is none
unfoldable pub onward : ℕ → (ℕ → Fit) → Option ℕ → Fit
onward i f None = unplaced i
onward i f (Some k) = f k

-- each task of the walk goes to the core for it; the first for which there is none ends the walk
unfoldable pub first_fit : (ℕ → ℕ) → (ℕ → ℕ) → ℕ → ℕ → List ℕ → Assignment → Fit
first_fit p e n limit [] a = placed a
first_fit p e n limit (i ∷ l) a = onward i (λ k. first_fit p e n limit l (assign i k a)) (core_for p e n limit i a)
