-- The load test, step by step as the code goes.
-- Assumes nothing.
use Prim.Native.Nat.{ℕ, zero, suc, ◌+◌, ◌-◌, ◌*◌, ◌/◌, ◌≤◌, ◌<◌, zero-le}
use mathlib.Core.Path.{◌≡◌, refl, sym, ap, ◌∙◌}
use mathlib.Core.Bool.{true, false, not}
use mathlib.Core.List.{List}
use native.Mathlib.Nat.{zero-add, add-zero, add-suc, suc-add, mul-le-mul, le_refl}
use native.Mathlib.Numerals.{add-one}
use native.Mathlib.Omega.{arith}
use borrow.Author.Tests.{lt-ltb, le-ltb}
use lib.ListN.{length}
use lib.Dec.{ltb}
use mir.Syntax.{w64}
use mir.Val.{Fits}
use Rattle.fit.specs.Lists.{numbers, sum, at}
use Rattle.fit.specs.Fits.{last_factor, load, overloaded}
use Rattle.fit.proofs.Lists.{sum_numbers}
use Rattle.figures.specs.Passing.{passes}
use Rattle.figures.specs.Steps.{Usable}

-- the load of the first i places, with divisor d and last factor L
unfoldable pub load_to : List ℕ → List ℕ → ℕ → ℕ → ℕ → ℕ
load_to es ms d L i = sum (λ k. at es k * d * (L / at ms k)) (numbers 0 i)

-- the load so far is at most the limit
pub record LoadLoop (es ms : List ℕ) (d L limit total i : ℕ) : Type 0 where
  pub divisor : d ≤ 120000
  pub high : L ≤ 120000
  pub bound : limit ≤ 7864200000
  pub light : total ≤ limit
  pub same : total ≡ load_to es ms d L i

module _ (es ms : List ℕ) (d : ℕ) (u : Usable d ms (length es)) where
  last_high : at ms (length es - 1) ≤ 120000
  last_high = (u.factors (length es - 1) (omega (arith, u.some))).1

  module _ (w : ℕ) (small : w < 65536) where
    limit_high : w * at ms (length es - 1) ≤ 7864200000
    limit_high = mul-le-mul {n₂ = 65535} {m₂ = 120000} (omega arith) last_high

    pub limit_fits : Fits w64 (w * at ms (length es - 1))
    limit_fits = record { fits = omega (arith, limit_high) }

    pub load_start : LoadLoop es ms d (at ms (length es - 1)) (w * at ms (length es - 1)) 0 0
    unfolding sum numbers load_to
    load_start = record { divisor = u.divisor; high = last_high; bound = limit_high; light = zero-le; same = refl }

-- a longer sum is no smaller
sum_more : (g : ℕ → ℕ) (i j : ℕ) → sum g (numbers 0 i) ≤ sum g (numbers 0 (i + j))
sum_more g i zero = rw (add-zero i) (le_refl _)
sum_more g i (suc j) = rw (add-suc i j) (omega (arith, sum_more g i j, sum_numbers g 0 (i + j)))

module _ (es ms : List ℕ) (d L limit total i : ℕ) (s : LoadLoop es ms d L limit total i) where
  pub total_fits : (x : ℕ) → x ≤ 943704000000000 → Fits w64 (total + x)
  total_fits x h = record { fits = omega (arith, s.light, s.bound) }

  module _ (x e : ℕ) (here : e ≡ at es i) (own : x ≡ e * d * (L / at ms i)) where
    more : total + x ≡ load_to es ms d L (i + 1)
    unfolding load_to
    more =
        let step : x ≡ at es (0 + i) * d * (L / at ms (0 + i)) = rw (zero-add i) (own ∙ ap (λ t. t * d * (L / at ms i)) here) in
        rw (add-one i) (omega (arith, s.same, step, sum_numbers (λ k. at es k * d * (L / at ms k)) 0 i))

    pub load_turn : total + x ≤ limit → LoadLoop es ms d L limit (total + x) (i + 1)
    load_turn h = record { divisor = s.divisor; high = s.high; bound = s.bound; light = h; same = more }

-- the factor at the last place
pub last_place : (M : ℕ → ℕ) (d k n : ℕ) → last_factor M d (numbers k (suc n)) ≡ M (k + n)
unfolding last_factor numbers
last_place M d k zero = ap M (sym (add-zero k))
last_place M d k (suc n) = last_place M (M k) (suc k) n ∙ ap M (suc-add k n ∙ sym (add-suc k n))

module _ (es ms : List ℕ) (d : ℕ) (u : Usable d ms (length es)) (w q : ℕ) (pivot : w ≡ q) where
  last_is : last_factor (at ms) 1 (numbers 0 (length es)) ≡ at ms (length es - 1)
  last_is =
      let n : suc (length es - 1) ≡ length es = omega (arith, u.some) in
      ap (λ t. last_factor (at ms) 1 (numbers 0 t)) (sym n) ∙ last_place (at ms) 1 0 (length es - 1) ∙ ap (at ms) (zero-add (length es - 1))

  test_is : passes es (record { Q = q; D = d; factors = ms }) ≡ not (ltb (w * at ms (length es - 1)) (load_to es ms d (at ms (length es - 1)) (length es)))
  unfolding passes overloaded load load_to
  test_is = rw (last_is, pivot)

  module _ (total i : ℕ) (s : LoadLoop es ms d (at ms (length es - 1)) (w * at ms (length es - 1)) total i) where
    pub load_end : i ≤ length es → length es ≤ i → true ≡ passes es (record { Q = q; D = d; factors = ms })
    load_end a b =
        let whole : total ≡ load_to es ms d (at ms (length es - 1)) (length es) = s.same ∙ ap (load_to es ms d _) (omega arith) in
        rw (test_is, le-ltb _ _ (rw whole at s.light))

    pub load_over : (x e : ℕ) → i < length es → e ≡ at es i → x ≡ e * d * (at ms (length es - 1) / at ms i) → w * at ms (length es - 1) < total + x → false ≡ passes es (record { Q = q; D = d; factors = ms })
    unfolding load_to
    load_over x e h here own over =
        let part : total + x ≡ load_to es ms d (at ms (length es - 1)) (i + 1) = more es ms d _ _ total i s x e here own in
        let rest : i + 1 + (length es - (i + 1)) ≡ length es = omega arith in
        let less = sum_more (λ k. at es k * d * (at ms (length es - 1) / at ms k)) (i + 1) (length es - (i + 1)) in
        let whole : w * at ms (length es - 1) < load_to es ms d (at ms (length es - 1)) (length es) = omega (arith, rw rest at less, part) in
        rw (test_is, lt-ltb _ _ whole)
