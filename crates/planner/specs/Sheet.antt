-- The bytes of the sheet for an assignment of tasks to cores (docs/SHEET.md, sections 2 and 5).
use Rattle.std.specs.Prelude.{ℕ, ◌/◌, ◌%◌, List, [], ◌∷◌, ◌++◌, eqb}
use Rattle.std.specs.Prelude.{Option, None, Some}
use Rattle.fit.specs.Lists.{numbers, at, place_of, joined}
use Rattle.figures.specs.Constructions.{Acceleration, no_figures}
use Rattle.planner.specs.declared.Assignment.{Assignment}
use Rattle.planner.specs.FirstFit.{core_set, core_figures}

-- a number in two and in four bytes, low byte first
unfoldable pub two : ℕ → List ℕ
two x = x % 256 ∷ x / 256 % 256 ∷ []

unfoldable pub four : ℕ → List ℕ
four x = two x ++ two (x / 65536)

-- the header, a task record and a core record; spare bytes are zero
unfoldable pub header : ℕ → ℕ → List ℕ
header n c = 0x54 ∷ 0x53 ∷ 0x48 ∷ 1 ∷ 0 ∷ n ∷ c ∷ 0 ∷ []

unfoldable pub task_record : ℕ → ℕ → ℕ → ℕ → List ℕ
task_record p e k m = two p ++ (two e ++ (k ∷ 0 ∷ four m))

unfoldable pub core_record : ℕ → ℕ → List ℕ
core_record q d = two q ++ (0 ∷ 0 ∷ four d)

-- the figures, or zeros where there are none
unfoldable pub or_zeros : Option Acceleration → Acceleration
or_zeros None = no_figures
or_zeros (Some a) = a

-- the figures of core k of an assignment
unfoldable pub figures_for : (ℕ → ℕ) → (ℕ → ℕ) → ℕ → Assignment → ℕ → Acceleration
figures_for p e n a k = or_zeros (core_figures p e n a.core k)

-- the factor of task i: the one at its place by priority on its core
unfoldable pub factor_for : (ℕ → ℕ) → (ℕ → ℕ) → ℕ → Assignment → ℕ → ℕ
factor_for p e n a i = at (figures_for p e n a (at a.core i)).factors (place_of (λ j. eqb j i) (core_set p n a.core (at a.core i)))

-- the header, the task records by number, the core records by number
unfoldable pub sheet_of : (ℕ → ℕ) → (ℕ → ℕ) → ℕ → Assignment → List ℕ
sheet_of p e n a =
    header n a.cores
    ++ (joined (λ i. task_record (p i) (e i) (at a.core i) (factor_for p e n a i)) (numbers 0 n)
    ++ joined (λ k. core_record (figures_for p e n a k).Q (figures_for p e n a k).D) (numbers 0 a.cores))
