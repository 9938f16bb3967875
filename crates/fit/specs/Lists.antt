-- Functions on lists, mostly of task or core numbers, in which the definitions are written (docs/SHEET.md, sections 3 to 8).
use Rattle.std.specs.Prelude.{ℕ, zero, suc, ◌+◌, ◌-◌, eqb, Bool, false, cond, ◌||◌, List, [], ◌∷◌, ◌++◌, length, get_or, drop, replicate}
use Rattle.std.specs.Prelude.{Option, None, Some}

-- what stands at a place of a list, and 0 past its end
abbrev pub at : List ℕ → ℕ → ℕ
at l i = get_or l i 0

-- a list in an array of 64 places, with zeros past it
unfoldable pub padded : List ℕ → List ℕ
padded l = l ++ replicate (64 - length l) 0

-- the n numbers from a up
unfoldable pub numbers : ℕ → ℕ → List ℕ
numbers a zero = []
numbers a (suc n) = a ∷ numbers (suc a) n

-- the first of a list that passes a test
unfoldable pub find : (ℕ → Bool) → List ℕ → Option ℕ
find q [] = None
find q (i ∷ l) = cond (q i) (Some i) (find q l)

-- some number below n passes a test
unfoldable pub some_below : (ℕ → Bool) → ℕ → Bool
some_below q zero = false
some_below q (suc n) = some_below q n || q n

-- how many of a list stand before the first that passes a test
unfoldable pub place_of : {A : Type 0} → (A → Bool) → List A → ℕ
place_of q [] = 0
place_of q (x ∷ l) = cond (q x) 0 (suc (place_of q l))

-- an answer, or another where there is none
abbrev pub or_else : Option ℕ → Option ℕ → Option ℕ
or_else None o = o
or_else (Some x) o = Some x

-- what the first of a list that has an answer answers
unfoldable pub find_some : (ℕ → Option ℕ) → List ℕ → Option ℕ
find_some f [] = None
find_some f (i ∷ l) = or_else (f i) (find_some f l)

-- the sum of a figure over a list
unfoldable pub sum : (ℕ → ℕ) → List ℕ → ℕ
sum f [] = 0
sum f (i ∷ l) = f i + sum f l

-- those of a list that pass a test
unfoldable pub select : {A : Type 0} → (A → Bool) → List A → List A
select q [] = []
select q (x ∷ l) = cond (q x) (x ∷ select q l) (select q l)

-- the lists that f gives for each of a list, one after the other
unfoldable pub joined : (ℕ → List ℕ) → List ℕ → List ℕ
joined f [] = []
joined f (i ∷ l) = f i ++ joined f l

-- bytes laid over the front of a buffer, of which the rest stays as it was
unfoldable pub over : List ℕ → List ℕ → List ℕ
over s out = s ++ drop (length s) out

-- how often a number stands in a list; two lists in which every number stands equally often are permutations of each other
unfoldable pub occurs : ℕ → List ℕ → ℕ
occurs x [] = 0
occurs x (i ∷ l) = cond (eqb i x) (occurs x l + 1) (occurs x l)

-- everything in a list has a property
unfoldable pub Each : {A : Type 0} → (A → Type 0) → List A → Type 0
Each P [] = Unit {0}
Each P (x ∷ l) = P x × Each P l

-- everything in a list stands in a relation to everything after it
unfoldable pub EachPair : {A : Type 0} → (A → A → Type 0) → List A → Type 0
EachPair R [] = Unit {0}
EachPair R (x ∷ l) = Each (R x) l × EachPair R l
