-- A refusal, and a table of rules that is read from the top (docs/SHEET.md, section 9).
use Rattle.std.specs.Prelude.{ℕ, ◌+◌, Bool, true, false, ◌||◌, ◌≡◌, List, [], ◌∷◌, ◌++◌, eqb}
use Rattle.std.specs.Prelude.{Option, None, Some}
use Rattle.std.specs.Option.{option_map}
use Rattle.std.specs.Prelude.{Result, Ok, Err}
use Rattle.sheet.specs.declared.Rejection.{Rejection}
use Rattle.sheet.specs.Refusals.{number_of}

-- a refusal: a number, and a place that is a task, 64 plus a core, an offset, or 0
pub record Refused : Type 0 where
  pub number : ℕ
  pub place : ℕ

-- a row: a rule's number, and the first place at which the rule is broken, if it is
infix 68 ◌at◌
pub data Row : Type 0 where
  ◌at◌ : ℕ → Option ℕ → Row

-- the refusal of the first row that has a place
unfoldable pub scan : List Row → Option Refused
scan [] = None
scan ((k at None) ∷ rows) = scan rows
scan ((k at Some x) ∷ rows) = Some (record { number = k; place = x })

-- every rule of a table is kept: no row has a place
unfoldable pub AllKept : List Row → Type 0
AllKept [] = Unit {0}
AllKept ((k at o) ∷ rows) = (o ≡ None) × AllKept rows

-- the first broken rule of a table is k, at place x: its row has this place, and every row before it is kept
pub record FirstBroken (rows : List Row) (k x : ℕ) : Type 0 where
  pub before : List Row
  pub after : List Row
  pub split : rows ≡ before ++ k at Some x ∷ after
  pub kept : AllKept before

-- a row of a table is of rule k
unfoldable pub has_rule : ℕ → List Row → Bool
has_rule k [] = false
has_rule k ((j at o) ∷ rows) = eqb k j || has_rule k rows

-- a rule about the whole sheet, list or call has place 0 where it is broken
unfoldable pub whole : Bool → Option ℕ
whole true = Some 0
whole false = None

-- the place of a core: 64 plus its number
unfoldable pub core : Option ℕ → Option ℕ
core o = option_map (λ k. 64 + k) o

-- what the code's `Err` has, as a refusal: a word stands for its number
abbrev pub refused_by : Rejection ℕ → Refused
refused_by r = record { number = number_of r.word; place = r.place }

-- the refusal in the code's answer, if it is one
abbrev pub refusal_of : {A : Type 0} → Result A (Rejection ℕ) → Option Refused
refusal_of (Ok x) = None
refusal_of (Err r) = Some (refused_by r)
