-- A quotient rounded up (docs/SHEET.md, sections 5 and 8).
use Rattle.std.specs.Prelude.{ℕ, ◌+◌, ◌-◌, ◌/◌}

-- a / b rounded up
unfoldable pub ceiling : ℕ → ℕ → ℕ
ceiling a b = (a + b - 1) / b
