-- Numbers as the listing prints them (docs/SHEET.md, section 8).
use Rattle.std.specs.Prelude.{ℕ, zero, suc, ◌+◌, ◌-◌, ◌*◌, ◌/◌, ◌%◌, cond, List, [], ◌∷◌, ◌++◌, ltb}

-- The decimal digits of x, the highest first, as ASCII codes ('0' is 48): a number below 10 is one digit, any other has the digits of
-- its tenth, then its last digit. The first argument bounds the digits; any bound above x gives all of them.
unfoldable pub digits : ℕ → ℕ → List ℕ
digits zero x = []
digits (suc k) x =
    let rest : List ℕ = digits k (x / 10) in
    cond (ltb x 10) ((48 + x) ∷ []) (rest ++ (48 + x % 10) ∷ [])

-- all the digits of x
unfoldable pub decimal : ℕ → List ℕ
decimal x = digits (suc x) x

-- the number that digits mean, read from the left, where v was read before them
unfoldable pub value_from : ℕ → List ℕ → ℕ
value_from v [] = v
value_from v (d ∷ l) = value_from (10 * v + (d - 48)) l
