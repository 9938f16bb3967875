-- Unsigned numbers in bytes, low byte first (docs/SHEET.md, section 2). A byte past the end reads as 0.
use Rattle.std.specs.Prelude.{ℕ, ◌+◌, ◌*◌, List, get_or}

-- the number of two bytes at offset i
unfoldable pub word : List ℕ → ℕ → ℕ
word s i = get_or s i 0 + 256 * get_or s (i + 1) 0

-- the number of four bytes at offset i
unfoldable pub long : List ℕ → ℕ → ℕ
long s i = word s i + 65536 * word s (i + 2)
