-- What a caller may take as read.
use Rattle.std.specs.Prelude.{◌≡◌, ℕ, ◌≤◌, List, length, take}
use Rattle.std.specs.Prelude.{Option, Some, None}

-- the first n bytes of a buffer are inside it, and they are n; the second part follows from the first, and spares a caller of
-- `&buf[..n]` a proof
abbrev pub IsPrefixLen : ℕ → List ℕ → Type 0
IsPrefixLen n buf = (n ≤ length buf) × (n ≡ length (take n buf))

-- the bytes that were read lie at the front of the buffer; of a failure nothing is said
abbrev pub Inside : Option ℕ → List ℕ → Type 0
Inside (Some n) buf = IsPrefixLen n buf
Inside None buf = Unit {0}
