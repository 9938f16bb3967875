-- A number, digit by digit, as the code reads it.
-- Assumes nothing.
use Rattle.std.proofs.Common.{◌≡◌, refl, sym, ◌∙◌, ℕ, ◌+◌, ◌≤◌, ◌<◌, true, false, List, [], ◌∷◌, length, drop, get_or, arith, add-one, drop-cons}
use Rattle.std.specs.Prelude.{None, Some}
use lib.ListN.{drop_of_length-le}
use Rattle.jobtext.specs.Text.{is_digit}
use Rattle.plan.specs.Number.{longer, number_from, number_in}

-- an empty text is no number
pub number_none : (text : List ℕ) → length text ≡ 0 → None ≡ number_in text
unfolding number_in
number_none [] h = refl
number_none (b ∷ l) h = absurd (omega arith)

-- the number so far, and what is left from place i on
pub record Reading (text : List ℕ) (x i : ℕ) : Type 0 where
  pub rest : number_in text ≡ number_from x (drop i text)
  pub most : x ≤ 1000000

pub number_start : (text : List ℕ) → (length text ≡ 0 → ⊥) → Reading text 0 0
unfolding number_in
number_start [] h = absurd (h refl)
number_start (b ∷ l) h = record { rest = refl; most = omega arith }

module _ (text : List ℕ) (x i : ℕ) (g : Reading text x i) where
  pub number_end : length text ≤ i → Some x ≡ number_in text
  unfolding number_from
  number_end h = sym (g.rest ∙ rw (drop_of_length-le text {i = i} h))

  module _ (h : i < length text) where
    pub number_wrong : is_digit (get_or text i 0) ≡ false → None ≡ number_in text
    unfolding number_from
    number_wrong wrong = sym (g.rest ∙ rw (drop-cons text i 0 h, wrong))

    pub number_turn : is_digit (get_or text i 0) ≡ true → (y : ℕ) → y ≡ longer x (get_or text i 0) → y ≤ 1000000 → Reading text y (i + 1)
    unfolding number_from
    number_turn right y q m = record { rest = g.rest ∙ rw (drop-cons text i 0 h, right, q, add-one i); most = m }
