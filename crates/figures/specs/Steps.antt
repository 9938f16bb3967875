-- What the code's own steps ask and give; no public contract speaks of it.
use Rattle.std.specs.Prelude.{ℕ, ◌≤◌, ◌<◌, Bool, ◌&&◌, List}
use Rattle.fit.specs.Lists.{at}
use Rattle.figures.specs.declared.CoreFigures.{CoreFigures}
use Rattle.figures.specs.Constructions.{Acceleration}
use Rattle.figures.specs.Passing.{passes, in_range}

-- an acceleration is in range and passes: a trial that can be taken
unfoldable pub feasible : List ℕ → Acceleration → Bool
feasible es a = in_range a && passes es a

-- the code's figures as an acceleration, which has zeros past the factors
abbrev pub read_back : CoreFigures → Acceleration
read_back f = record { Q = f.pivot; D = f.divisor; factors = f.factors }

-- n is 1 to 64, and divisor and factors of n tasks are in range
pub record Usable (d : ℕ) (ms : List ℕ) (n : ℕ) : Type 0 where
  pub some : 1 ≤ n
  pub few : n ≤ 64
  pub divisor : d ≤ 120000
  pub factors : (k : ℕ) → k < n → (1 ≤ at ms k) × (at ms k ≤ 120000)
