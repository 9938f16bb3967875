-- Levels, the first tasks of a list down to one of them: in a chain of factors the load of the whole list bounds the load of each level.
-- Assumes nothing.
use Prim.Native.Nat.{ℕ, ◌+◌, ◌*◌, ◌/◌, ◌%◌, ◌≤◌, ◌<◌}
use mathlib.Core.Path.{◌≡◌, refl, sym, ap, subst, ◌∙◌}
use mathlib.Core.Bool.{Bool, true, false, cond}
use Rattle.std.specs.Prelude.{None, Some}
use Rattle.sheet.proofs.Options.{some-ne-none}
use mathlib.Core.List.{List, [], ◌∷◌, ◌++◌}
use native.Mathlib.Nat.{mul-one, mul-zero, zero-mul, mul_assoc, mul_comm, mul-pos, mul-div_right, mul-mod_right, div-add-mod, add-mul, le_of_mul-le-mul_right, lt_of_mul-lt-mul_left, div-le_of_le-mul}
use native.Mathlib.Omega.{arith}
use borrow.Author.Tests.{eqb-true, eq-eqb}
use lib.Dec.{eqb}
use lib.Seq.{append_snoc}
use Rattle.fit.specs.Lists.{sum, occurs, Each, EachPair}
use Rattle.fit.specs.Fits.{chain_break, Multiple, Multiples, last_factor, load, within}
use Rattle.fit.proofs.Lists.{each_of, each_append, each_halves, each_between, pairs_before, sum_append}

-- multiples: of itself, of a multiple, and exactly where nothing is left of a division
pub multiple_self : (m : ℕ) → Multiple m m
unfolding Multiple
multiple_self m = (1, sym (mul-one m))

pub multiple_trans : (a b c : ℕ) → Multiple a b → Multiple b c → Multiple a c
unfolding Multiple
multiple_trans a b c h k = (h.0 * k.0, k.1 ∙ rw h.1 (mul_assoc a h.0 k.0))

pub multiple_mod : (d m : ℕ) → m % d ≡ 0 → Multiple d m
unfolding Multiple
multiple_mod d m h = (m / d, omega (arith, div-add-mod m d))

pub mod_multiple : (d m : ℕ) → Multiple d m → m % d ≡ 0
unfolding Multiple
mod_multiple d m h = rw h.1 (mul-mod_right d h.0)

-- a chain has no break where each factor is a multiple of the one before, and nowhere else
pub chain_multiples : (M : ℕ → ℕ) (d : ℕ) (l : List ℕ) → chain_break M d l ≡ None → Multiples M d l
unfolding chain_break Multiples
chain_multiples M d [] h = tt
chain_multiples M d (i ∷ l) h = by (eqb (M i % d) 0) refl h (λ q. chain_multiples M (M i) l q)
  where
    by : (b : Bool) → eqb (M i % d) 0 ≡ b → cond b (chain_break M (M i) l) (Some i) ≡ None → (chain_break M (M i) l ≡ None → Multiples M (M i) l) → Multiple d (M i) × Multiples M (M i) l
    by true e q r = (multiple_mod d (M i) (eqb-true (M i % d) 0 e), r q)
    by false e q r = absurd (some-ne-none i q)

pub multiples_chain : (M : ℕ → ℕ) (d : ℕ) (l : List ℕ) → Multiples M d l → chain_break M d l ≡ None
unfolding chain_break Multiples
multiples_chain M d [] h = refl
multiples_chain M d (i ∷ l) h = rw (eq-eqb (M i % d) 0 (mod_multiple d (M i) h.0)) (multiples_chain M (M i) l h.1)

-- in a chain each factor is a multiple of all before it, and the last factor of all
multiples_first : (M : ℕ → ℕ) (d : ℕ) (l : List ℕ) → Multiples M d l → Each (λ i. Multiple d (M i)) l
unfolding Multiples Each
multiples_first M d [] h = tt
multiples_first M d (i ∷ l) h = (h.0, each_of l (λ j q. multiple_trans d (M i) (M j) h.0 q) (multiples_first M (M i) l h.1))

pub multiples_pairs : (M : ℕ → ℕ) (d : ℕ) (l : List ℕ) → Multiples M d l → EachPair (λ i j. Multiple (M i) (M j)) l
unfolding Multiples EachPair
multiples_pairs M d [] h = tt
multiples_pairs M d (i ∷ l) h = (multiples_first M (M i) l h.1, multiples_pairs M (M i) l h.1)

first_last : (M : ℕ → ℕ) (d : ℕ) (l : List ℕ) → Multiples M d l → Multiple d (last_factor M d l)
unfolding Multiples last_factor
first_last M d [] h = multiple_self d
first_last M d (i ∷ l) h = multiple_trans d (M i) _ h.0 (first_last M (M i) l h.1)

pub multiples_last : (M : ℕ → ℕ) (d : ℕ) (l : List ℕ) → Multiples M d l → Each (λ i. Multiple (M i) (last_factor M d l)) l
unfolding Multiples last_factor Each
multiples_last M d [] h = tt
multiples_last M d (i ∷ l) h = (first_last M (M i) l h.1, multiples_last M (M i) l h.1)

-- what bounds all factors bounds the last, and it is positive if they are
pub load_last : (M : ℕ → ℕ) (b d : ℕ) (l : List ℕ) → d ≤ b → Each (λ i. M i ≤ b) l → last_factor M d l ≤ b
unfolding last_factor Each
load_last M b d [] q h = q
load_last M b d (i ∷ l) q h = load_last M b (M i) l h.0 h.1

pub last_positive : (M : ℕ → ℕ) (d : ℕ) (l : List ℕ) → 0 < d → Each (λ i. 0 < M i) l → 0 < last_factor M d l
unfolding last_factor Each
last_positive M d [] q h = q
last_positive M d (i ∷ l) q h = last_positive M (M i) l h.0 h.1

-- a load is above 0 where there is a task, its budget and D are positive, and m is a positive multiple of all factors
pub load_above : (e M : ℕ → ℕ) (D m x : ℕ) (l : List ℕ) → 1 ≤ occurs x l → 0 < D → 0 < m → Each (λ i. 0 < e i) l → Each (λ i. 0 < M i) l → Each (λ i. Multiple (M i) m) l → 0 < load e M D m l
unfolding load sum occurs Each Multiple
load_above e M D m x [] n d pos he hM h = absurd (omega arith)
load_above e M D m x (i ∷ l) n d pos he hM h =
    let (c, times) = h.0 in
    let once : 0 < c = lt_of_mul-lt-mul_left (M i) (rw (mul-zero (M i), ← times) pos) in
    let whole : 0 < m / M i = rw (times, mul-div_right c hM.0) once in
    omega (arith, mul-pos (mul-pos he.0 d) whole)

-- c times as much, divided
div_scale : (k m c : ℕ) → 0 < k → Multiple k m → m * c / k ≡ m / k * c
unfolding Multiple
div_scale k m c pos h = rw (h.1, mul_assoc k h.0 c, mul-div_right (h.0 * c) pos, mul-div_right h.0 pos)

-- at c times a multiple of all factors the load is c times as large
pub load_scale : (e M : ℕ → ℕ) (D m c : ℕ) (l : List ℕ) → Each (λ i. 0 < M i) l → Each (λ i. Multiple (M i) m) l → load e M D (m * c) l ≡ load e M D m l * c
unfolding load sum Each
load_scale e M D m c [] pos h = sym (zero-mul c)
load_scale e M D m c (i ∷ l) pos h =
    let own : e i * D * (m * c / M i) ≡ e i * D * (m / M i) * c = rw (div_scale (M i) m c pos.0 h.0) (sym (mul_assoc (e i * D) (m / M i) c)) in
    omega (arith, load_scale e M D m c l pos.1 h.1, add-mul (e i * D * (m / M i)) (load e M D m l) c)

-- at each level of a chain the factors are positive, and divide its last
pub multiples_level : (M : ℕ → ℕ) (l : List ℕ) → Multiples M 1 l → Each (λ i. 0 < M i) l → (xs : List ℕ) (i : ℕ) (ys : List ℕ) → l ≡ xs ++ i ∷ ys → Each (λ j. 0 < M j) (xs ++ i ∷ []) × Each (λ j. Multiple (M j) (M i)) (xs ++ i ∷ [])
unfolding Each
multiples_level M l chain pos xs i ys s =
    let cut : l ≡ xs ++ i ∷ [] ++ ys = s ∙ sym (append_snoc xs i ys) in
    let before : Each (λ j. Multiple (M j) (M i)) xs = pairs_before _ xs i ys (subst (EachPair (λ j k. Multiple (M j) (M k))) s (multiples_pairs M 1 l chain)) in
    ((each_halves _ (xs ++ i ∷ []) ys (subst (Each (λ j. 0 < M j)) cut pos)).0, each_append _ xs (i ∷ []) before (multiple_self (M i), tt))

-- where the load of the whole list is at most one, so is that of each level, at its last factor
pub level_load_lem : (e M : ℕ → ℕ) (D Q : ℕ) (l : List ℕ) → Multiples M 1 l → Each (λ i. 0 < M i) l → load e M D (last_factor M 1 l) l ≤ Q * last_factor M 1 l → (xs : List ℕ) (i : ℕ) (ys : List ℕ) → l ≡ xs ++ i ∷ ys → load e M D (M i) (xs ++ i ∷ []) ≤ Q * M i
unfolding load Each Multiple
level_load_lem e M D Q l chain pos fits xs i ys s =
    let L : ℕ = last_factor M 1 l in
    let level : List ℕ = xs ++ i ∷ [] in
    let cut : l ≡ level ++ ys = s ∙ sym (append_snoc xs i ys) in
    let part : load e M D L l ≡ load e M D L level + load e M D L ys = ap (load e M D L) cut ∙ sum_append _ level ys in
    let (positive, factors) = multiples_level M l chain pos xs i ys s in
    let (c, times) = each_between (λ j. Multiple (M j) L) xs i ys s (multiples_last M 1 l chain) in
    let once : 0 < c = lt_of_mul-lt-mul_left (M i) (rw (mul-zero (M i), ← times) (last_positive M 1 l (omega arith) pos)) in
    let whole : load e M D (M i * c) level ≤ Q * (M i * c) = rw (← times) (omega arith) in
    le_of_mul-le-mul_right (omega (arith, load_scale e M D (M i) c level positive factors, mul_assoc Q (M i) c)) once

-- w is at most the period where acceleration holds
pub within_period : (Q D M p : ℕ) → Q * M ≤ p * D → within Q D M ≤ p
unfolding within
within_period Q D M p h = div-le_of_le-mul D (rw (mul_comm D p) h)
