-- The words of the listing, each with the space behind it, as ASCII codes (docs/SHEET.md, section 8).
use Rattle.std.specs.Prelude.{ℕ, List, [], ◌∷◌}
use Prim.Native.Char.{code}
use Prim.Native.String.{String, [] as []ˢ, ◌∷◌ as ◌∷ˢ◌}

-- the codes of a text's characters
abbrev pub codes : String → List ℕ
codes []ˢ = []
codes (c ∷ˢ s) = code c ∷ codes s

abbrev pub space : ℕ
space = 32

abbrev pub line_feed : ℕ
line_feed = 10

abbrev pub mark : List ℕ
mark = codes "TSH "

abbrev pub tasks : List ℕ
tasks = codes "tasks "

abbrev pub cores : List ℕ
cores = codes "cores "

abbrev pub task : List ℕ
task = codes "task "

abbrev pub core : List ℕ
core = codes "core "

abbrev pub period : List ℕ
period = codes "period "

abbrev pub budget : List ℕ
budget = codes "budget "

abbrev pub factor : List ℕ
factor = codes "factor "

abbrev pub within : List ℕ
within = codes "within "

abbrev pub pivot : List ℕ
pivot = codes "pivot "

abbrev pub divisor : List ℕ
divisor = codes "divisor "

abbrev pub load : List ℕ
load = codes "load "

abbrev pub refused : List ℕ
refused = codes "refused "

abbrev pub place : List ℕ
place = codes "place "
