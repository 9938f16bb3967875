-- The answer bytes of a row (docs/SHEET.md, section 13).
use Rattle.std.specs.Prelude.{ℕ}
use Rattle.timing.specs.Calls.{Answer, accepted, served, idle, refused}

-- an answer as a byte: the number of the task that has the tick, or 255 where it is idle; a tick of a state in form has no other answer
unfoldable pub answer_byte : Answer → ℕ
answer_byte accepted = 255
answer_byte (served j) = j
answer_byte idle = 255
answer_byte (refused n p) = 255
