-- A decimal number, as an argument of the program. A core limit and a start are out of range long before 1,000,000, so every number from
-- there on counts as 1,000,000.
use Rattle.std.specs.Prelude.{ℕ, ◌+◌, ◌-◌, ◌*◌, min, cond, List, [], ◌∷◌}
use Rattle.jobtext.specs.Text.{is_digit}
use Rattle.std.specs.Prelude.{Option, Some, None}

-- a number with one digit more, whose character is b
unfoldable pub longer : ℕ → ℕ → ℕ
longer x b = min (10 * x + b - 48) 1000000

-- a number of which x is read already
unfoldable pub number_from : ℕ → List ℕ → Option ℕ
number_from x [] = Some x
number_from x (b ∷ l) = cond (is_digit b) (number_from (longer x b) l) None

-- one digit or more, and nothing else
unfoldable pub number_in : List ℕ → Option ℕ
number_in [] = None
number_in (b ∷ l) = number_from 0 (b ∷ l)
