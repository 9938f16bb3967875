-- What a search finds, as facts (docs/SHEET.md, section 4: the first task, the first core).
use Rattle.std.specs.Prelude.{ℕ, ◌<◌, ◌≡◌, Bool, true, false, List, ◌∷◌, ◌++◌}
use Rattle.std.specs.Prelude.{Option, None, Some}
use Rattle.fit.specs.Fits.{Multiple, Multiples, last_factor}

-- x is the first number below n that passes a test
pub record FirstAt (q : ℕ → Bool) (n x : ℕ) : Type 0 where
  pub below : x < n
  pub passes : q x ≡ true
  pub first : (y : ℕ) → y < x → q y ≡ false

-- x is what the first number below n that has an answer answers
pub record FirstAnswer (g : ℕ → Option ℕ) (n x : ℕ) : Type 0 where
  pub number : ℕ
  pub below : number < n
  pub answers : g number ≡ Some x
  pub first : (y : ℕ) → y < number → g y ≡ None

-- i is the first task of a list whose factor is no multiple of the factor before it, which is d before the first: the tasks before it are
-- a chain
pub record FirstBreak (M : ℕ → ℕ) (d : ℕ) (l : List ℕ) (i : ℕ) : Type 0 where
  pub before : List ℕ
  pub after : List ℕ
  pub split : l ≡ before ++ i ∷ after
  pub chain : Multiples M d before
  pub breaks : Multiple (last_factor M d before) (M i) → ⊥
