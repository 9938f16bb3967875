-- One pass over a list of tasks, step by step as the code goes: the chain of factors and the load; and bounds of loads.
-- Assumes nothing.
use Prim.Native.Nat.{ℕ, ◌+◌, ◌*◌, ◌/◌, ◌%◌, ◌≤◌, ◌<◌}
use mathlib.Core.Path.{◌≡◌, refl, sym, ◌∙◌}
use mathlib.Core.Bool.{Bool, true, false, true≢false}
use mathlib.Core.List.{List}
use native.Mathlib.Nat.{mul_assoc, mul-le-mul, mul-le-mul_right, mul-div-le, div-le_self, le_trans}
use native.Mathlib.Numerals.{add-one}
use native.Mathlib.Omega.{arith}
use borrow.Author.Tests.{le-leb, eq-eqb, ne_eqb}
use lib.ListN.{length, get_or, drop, drop_of_length-le}
use lib.Seq.{drop-cons}
use Rattle.std.specs.Prelude.{Result, Ok, Err, ◌↔◌, sum_by}
use Rattle.fit.proofs.Words.{sum_std}
use Rattle.fit.specs.declared.Break.{Break}
use Rattle.fit.specs.Fits.{chain_break, last_factor, load}
use Rattle.fit.specs.Answers.{chain_answer, chained, load_in_range}

-- the chain from place i on, where the factor before it is d
pub record Linked (M : ℕ → ℕ) (l : List ℕ) (d i : ℕ) : Type 0 where
  pub break : chain_break M 1 l ≡ chain_break M d (drop i l)
  pub last : last_factor M 1 l ≡ last_factor M d (drop i l)

pub link_start : (M : ℕ → ℕ) (l : List ℕ) → Linked M l 1 0
link_start M l = record { break = refl; last = refl }

module _ (M : ℕ → ℕ) (l : List ℕ) (d i m : ℕ) (r : Bool) (h : i < length l) (k : Linked M l d i) (f : m ≡ M (get_or l i 0)) (t : (r ≡ true) ↔ (m % d ≡ 0)) where
  pub link_turn : r ≡ true → Linked M l m (i + 1)
  unfolding chain_break last_factor
  link_turn e = record { break = k.break ∙ rw (add-one i, drop-cons l i 0 h, ← f, eq-eqb (m % d) 0 (t.0 e)); last = k.last ∙ rw (add-one i, drop-cons l i 0 h, f) }

  pub link_break : r ≡ false → ◌≡◌ {A = Result ℕ Break} (Err (record { task = get_or l i 0 })) (chained M l)
  unfolding chain_break chained chain_answer
  link_break e = rw (k.break, drop-cons l i 0 h, ← f, ne_eqb (m % d) 0 (λ z. true≢false (sym (t.1 z) ∙ e)))

pub link_end : (M : ℕ → ℕ) (l : List ℕ) (d i : ℕ) → length l ≤ i → Linked M l d i → Ok d ≡ chained M l
unfolding chain_break last_factor chained chain_answer
link_end M l d i h k = rw (k.break, k.last, drop_of_length-le l {i = i} h)

-- one task's part of the load, within the ranges
pub share_bound : (e d last m : ℕ) → e < 65536 → d ≤ 120000 → last ≤ 120000 → (e * d ≤ 7864200000) × (e * d * (last / m) ≤ 943704000000000)
share_bound e d last m he hd hl =
    let small : e ≤ 65535 = omega arith in
    let a : e * d ≤ 65535 * 120000 = mul-le-mul small hd in
    let b : e * d * (last / m) ≤ 7864200000 * 120000 = mul-le-mul a (le_trans (div-le_self last m) hl) in
    (a, b)

-- the load within the ranges
pub load_whole : (e M : ℕ → ℕ) (D L r : ℕ) (l : List ℕ) → D ≤ 120000 → L ≤ 120000 → length l ≤ 64 → r ≡ sum_by (λ i. e i * D * (L / M i)) l → r ≡ load_in_range e M D L l
unfolding load load_in_range
load_whole e M D L r l a b c h = rw (le-leb D 120000 a, le-leb L 120000 b, le-leb (length l) 64 c) (h ∙ sym (sum_std (λ i. e i * D * (L / M i)) l))

-- the two parts of the load at a task, where the load before it was within the greatest pivot
pub level_bound : (above d m e D : ℕ) → above ≤ 65535 * d → m < 4294967296 → e < 65536 → D < 4294967296 → (above * (m / d) ≤ 281470681677825) × (e * D ≤ 281470681677825)
level_bound above d m e D h hm he hD =
    let a : above * (m / d) ≤ 65535 * (d * (m / d)) = rw (← (mul_assoc 65535 d (m / d))) (mul-le-mul_right (m / d) h) in
    let b : d * (m / d) ≤ m = mul-div-le m d in
    let x : e ≤ 65535 = omega arith in
    let y : D ≤ 4294967295 = omega arith in
    (omega (arith, a, b), mul-le-mul x y)
