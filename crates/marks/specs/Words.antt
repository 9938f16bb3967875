-- The pending marks of a core's tasks, eight to a word, by which a tick looks for the first pending task (docs/SHEET.md, section 6).
use Rattle.std.specs.Prelude.{ℕ, zero, suc, ◌+◌, ◌*◌, ◌/◌, ◌%◌, ◌<◌, ◌≡◌, Bool, cond, List, [], ◌∷◌, map, take, drop, ltb}
use Rattle.std.specs.Int.Count.{count_trailing_zeros}
use Rattle.fit.specs.Lists.{padded}
use Rattle.timing.specs.declared.Task.{Task}
use Rattle.timing.specs.Tasks.{pending}
use Rattle.timing.specs.Serving.{nth}

-- the mark of a task: 1 where it is pending, else 0
unfoldable pub mark : Task → ℕ
mark t = cond (pending t) 1 0

-- a mark is set: it is not 0
unfoldable pub marked : ℕ → Bool
marked m = ltb 0 m

-- the marks of a core's tasks, a byte each, in 64 places; past the tasks there is none
unfoldable pub marks_of : List Task → List ℕ
marks_of s = padded (map mark s)

-- bytes as one number, the first of them lowest
unfoldable pub word_of : List ℕ → ℕ
word_of [] = 0
word_of (m ∷ l) = m + 256 * word_of l

-- word g of the marks: the eight at the places 8g to 8g + 7
unfoldable pub word_at : List ℕ → ℕ → ℕ
word_at m g = word_of (take 8 (drop (8 * g) m))

-- byte k of a word
unfoldable pub byte_of : ℕ → ℕ → ℕ
byte_of zero w = w % 256
byte_of (suc k) w = byte_of k (w / 256)

-- the place of a word's lowest mark, by the zeros below its lowest set bit
abbrev pub lowest_mark : ℕ → ℕ
lowest_mark w = count_trailing_zeros 64 w / 8

-- the task at place 8g + k is pending, and none of the k before it in its word is
pub record LowestFirst (s : List Task) (g k : ℕ) : Type 0 where
  pub inside : k < 8
  pub pends : 0 < (nth s (8 * g + k)).left
  pub others : (j : ℕ) → j < k → (nth s (8 * g + j)).left ≡ 0
