-- DCT: its figures are sound, and its accelerated periods are the stated floors and ceilings of exact fractions.
-- Assumes nothing.
use Prim.Native.Nat.{ℕ, zero, suc, ◌+◌, ◌-◌, ◌*◌, ◌/◌, ◌≤◌, ◌<◌}
use mathlib.Core.Path.{◌≡◌, refl, sym, ap, ap₂, subst, ◌∙◌}
use mathlib.Core.List.{List, [], ◌∷◌, ◌++◌, map}
use native.Mathlib.Nat.{add-zero, zero-add, suc-add, add-suc, add-sub_of_le, div-eq_of_eq-mul_right, mul-zero, mul-one, one-mul, mul-suc, mul_comm, mul_assoc, mul_right_comm, div-one, div_self, mul-div_right, mul-div-le, mul-div-mul_right, le-div_iff_mul-le, mul-le-mul_left, mul-le-mul_right, mul-pos, le_refl}
use native.Mathlib.Omega.{arith}
use lib.ListN.{length, take, drop, length-drop}
use lib.Seq.{split_at, get_or-take, get_or-drop, length-take-le}
use Rattle.fit.specs.Lists.{at}
use Rattle.fit.specs.Fits.{Multiple}
use Rattle.fit.specs.Rounding.{ceiling}
use Rattle.fit.proofs.Ceiling.{ceiling_reaches, ceiling_before, ceiling_positive, ceiling_scale}
use Rattle.figures.specs.Constructions.{down, downs, up, ups, dct}
use Rattle.figures.specs.Meaning.{SortedPeriods, DctPeriods, Factors, Sound}
use Rattle.figures.proofs.Sound.{sorted_at}

-- one step down: the accelerated period q / d of a task with period p
module _ (q p d : ℕ) (posq : 0 < q) (posp : 0 < p) (posd : 0 < d) where
  pub down_positive : 0 < down q p d
  unfolding down
  down_positive = mul-pos posd (ceiling_positive q (d * p) (mul-pos posd posp) posq)

  down_reaches : q ≤ p * down q p d
  unfolding down
  down_reaches = rw (← mul_assoc p d (ceiling q (d * p)), mul_comm p d) (ceiling_reaches q (d * p) (mul-pos posd posp))

  pub down_bound : d < 2 * q → down q p d < 2 * q
  unfolding down
  down_bound h = by (ceiling q (d * p)) refl
    where
      by : (c : ℕ) → ceiling q (d * p) ≡ c → d * c < 2 * q
      by zero e = omega (arith, mul-zero d)
      by (suc zero) e = omega (arith, mul-one d)
      by (suc (suc k)) e =
          let less : d * p * suc k < q = ceiling_before q (d * p) (mul-pos posd posp) (suc k) posq e in
          let more : d * suc k * 1 ≤ d * suc k * p = mul-le-mul_left (d * suc k) posp in
          omega (arith, mul_right_comm d p (suc k), mul-one (d * suc k), mul-suc d (suc k), mul-suc d k)

-- the pivot has period q and ps after it; l is before it
module _ (q : ℕ) (ps : List ℕ) where
  pivot_positive : (a : ℕ) (l : List ℕ) → 0 < a → SortedPeriods a (l ++ q ∷ ps) → 0 < q
  unfolding SortedPeriods
  pivot_positive a [] pos r = omega (arith, r.0)
  pivot_positive a (p ∷ l) pos r = pivot_positive p l (omega (arith, r.0)) r.2

  first_divisor : (a : ℕ) (l : List ℕ) → 0 < a → SortedPeriods a (l ++ q ∷ ps) → (0 < at (downs q l) 0) × (at (downs q l) 0 < 2 * q)
  unfolding SortedPeriods downs
  first_divisor a [] pos r = (omega arith, omega (arith, r.0))
  first_divisor a (p ∷ l) pos r =
      let posp : 0 < p = omega (arith, r.0) in
      let posq : 0 < q = pivot_positive p l posp r.2 in
      let next = first_divisor p l posp r.2 in
      (down_positive q p (at (downs q l) 0) posq posp next.0, down_bound q p (at (downs q l) 0) posq posp next.0 next.1)

  pub downs_length : (l : List ℕ) → length (downs q l) ≡ suc (length l)
  unfolding downs
  downs_length [] = refl
  downs_length (p ∷ l) = ap suc (downs_length l)

  pub downs_positive : (a : ℕ) (l : List ℕ) → 0 < a → SortedPeriods a (l ++ q ∷ ps) → (k : ℕ) → k ≤ length l → 0 < at (downs q l) k
  unfolding SortedPeriods downs
  downs_positive a l pos r zero h = (first_divisor a l pos r).0
  downs_positive a [] pos r (suc k) h = absurd (omega arith)
  downs_positive a (p ∷ l) pos r (suc k) h = downs_positive p l (omega (arith, r.0)) r.2 k (omega arith)

  -- the factors D / d up to the pivot's, after a factor m, with others after D
  down_factors : (D m a : ℕ) (l ms : List ℕ) → 0 < D → 0 < a → SortedPeriods a (l ++ q ∷ ps) → Multiple m (D / at (downs q l) 0) → Multiple (at (downs q l) 0) D → Factors q D D ps ms → Factors q D m (l ++ q ∷ ps) (map (λ d. D / d) (downs q l) ++ ms)
  unfolding SortedPeriods Factors downs Multiple down
  down_factors D m a [] ms pos_d pos r after whole rest =
      let same : D / 1 ≡ D = div-one D in
      (record { accelerated = rw same (le_refl (q * D)); multiple = after; positive = rw same pos_d }, rw same rest)
  down_factors D m a (p ∷ l) ms pos_d pos r after whole rest =
      let posp : 0 < p = omega (arith, r.0) in
      let posq : 0 < q = pivot_positive p l posp r.2 in
      let x : ℕ = at (downs q l) 0 in
      let posx : 0 < x = (first_divisor p l posp r.2).0 in
      let c : ℕ = ceiling q (x * p) in
      let d : ℕ = x * c in
      let k : ℕ = whole.0 in
      let D-is : D ≡ d * k = whole.1 in
      let own : D / d ≡ k = rw D-is (mul-div_right k (down_positive q p x posq posp posx)) in
      let next : D ≡ x * (c * k) = D-is ∙ mul_assoc x c k in
      let after_own : D / x ≡ c * k = rw next (mul-div_right (c * k) posx) in
      let fit : q * k ≤ p * d * k = mul-le-mul_right k (down_reaches q p x posq posp posx) in (
        record { accelerated = rw own (omega (arith, mul_assoc p d k, ap (λ (y : ℕ). p * y) D-is)); multiple = after; positive = rw own (positive d k D pos_d D-is) },
        down_factors D (D / d) p l ms pos_d posp r.2 (c, rw (own, after_own) (mul_comm c k)) (c * k, next) rest,
      )
    where
      positive : (d k D : ℕ) → 0 < D → D ≡ d * k → 0 < k
      positive d zero D h e = absurd (omega (arith, mul-zero d))
      positive d (suc k) D h e = omega arith

-- the factors D × m after the pivot
up_factors : (q D m a : ℕ) (ps : List ℕ) → 0 < q → 0 < D → 0 < m → q * m ≤ a → SortedPeriods a ps → Factors q D (D * m) ps (map (λ x. D * x) (ups q m ps))
unfolding SortedPeriods Factors ups up Multiple
up_factors q D m a [] posq pos_d posm h r = tt
up_factors q D m a (p ∷ ps) posq pos_d posm h r =
    let x : ℕ = p / (q * m) in
    let posx : 0 < x = (le-div_iff_mul-le (mul-pos posq posm)).1 (omega (arith, r.0, one-mul (q * m))) in
    let fit : q * m * x ≤ p = mul-div-le p (q * m) in
    let regroup : q * (D * (m * x)) ≡ q * m * x * D = rw (mul_comm D (m * x), ← mul_assoc q (m * x) D, ← mul_assoc q m x) in (
      record { accelerated = rw regroup (mul-le-mul_right D fit); multiple = (x, sym (mul_assoc D m x)); positive = mul-pos pos_d (mul-pos posm posx) },
      up_factors q D (m * x) p ps posq pos_d (mul-pos posm posx) (rw (← mul_assoc q m x) fit) r.2,
    )

-- the first of the factors D / d
first_factor : (q : ℕ) (f : ℕ → ℕ) (l ms : List ℕ) → at (map f (downs q l) ++ ms) 0 ≡ f (at (downs q l) 0)
unfolding downs
first_factor q f [] ms = refl
first_factor q f (p ∷ l) ms = refl

-- every number is a multiple of 1 and of itself
multiple_of_one : (x : ℕ) → Multiple 1 x
unfolding Multiple
multiple_of_one x = (x, sym (one-mul x))

multiple_of_self : (x : ℕ) → Multiple x x
unfolding Multiple
multiple_of_self x = (1, sym (mul-one x))

-- what stands after the pivot
sorted_after : (a q : ℕ) (l ps : List ℕ) → SortedPeriods a (l ++ q ∷ ps) → SortedPeriods q ps
unfolding SortedPeriods
sorted_after a q [] ps r = r.2
sorted_after a q (p ∷ l) ps r = sorted_after p q l ps r.2

pub dct_sound : (ps : List ℕ) (i : ℕ) → SortedPeriods 1 ps → i < length ps → Sound 2 ps (dct ps i)
unfolding dct
dct_sound ps i r h =
    let q : ℕ = at ps i in
    let l : List ℕ = take i ps in
    let rest : List ℕ = drop (suc i) ps in
    let split : ps ≡ l ++ q ∷ rest = split_at ps i 0 h in
    let all : SortedPeriods 1 (l ++ q ∷ rest) = subst (SortedPeriods 1) split r in
    let posq : 0 < q = (sorted_at 1 ps r i h).0 in
    let D : ℕ = at (downs q l) 0 in
    let (pos_d, bound) = first_divisor q rest 1 l (omega arith) all in
    let above : Factors q D D rest (map (λ x. D * x) (ups q 1 rest)) = rw (mul-one D) at (up_factors q D 1 q rest posq pos_d (omega arith) (rw (mul-one q) (le_refl q)) (sorted_after 1 q l rest all)) in
    record {
      pivot = (posq, (sorted_at 1 ps r i h).1);
      divisor = (pos_d, bound);
      one = first_factor q (λ d. D / d) l _ ∙ div_self pos_d;
      factors = subst (λ (t : List ℕ). Factors q D 1 t (map (λ d. D / d) (downs q l) ++ map (λ x. D * x) (ups q 1 rest))) (sym split)
          (down_factors q rest D 1 1 l _ pos_d (omega arith) all (multiple_of_one (D / D)) (multiple_of_self D) above);
    }

module _ (q D : ℕ) (pos_d : 0 < D) where
  -- a step up, of m and of the factor D × m
  up_exact : (p m : ℕ) → D * up q p m ≡ D * m * (p * D / (q * (D * m)))
  unfolding up
  up_exact p m =
      let scaled : q * (D * m) ≡ q * m * D = rw (mul_comm D m) (sym (mul_assoc q m D)) in
      rw (scaled, mul-div-mul_right p (q * m) pos_d) (sym (mul_assoc D m (p / (q * m))))

  scaled_at : (l : List ℕ) (j : ℕ) → at (map (λ x. D * x) l) j ≡ D * at l j
  scaled_at [] j = sym (mul-zero D)
  scaled_at (x ∷ l) zero = refl
  scaled_at (x ∷ l) (suc j) = scaled_at l j

  -- from the pivot on a factor is D × m
  upper_at : (l us : List ℕ) (j : ℕ) → at (map (λ d. D / d) (downs q l) ++ map (λ x. D * x) us) (length l + j) ≡ D * at (1 ∷ us) j
  unfolding downs
  upper_at [] us zero = div-one D ∙ sym (mul-one D)
  upper_at [] us (suc j) = rw (zero-add (suc j)) (scaled_at us j)
  upper_at (p ∷ l) us j = rw (suc-add (length l) j) (upper_at l us j)

  -- a step down, of d and of the factor D / d
  down_exact : (p x k : ℕ) → 0 < q → 0 < p → 0 < x → D ≡ down q p x * k → D / x ≡ D / down q p x * ceiling (q * (D / x)) (p * D)
  unfolding down
  down_exact p x k posq posp posx e =
      let c : ℕ = ceiling q (x * p) in
      let next : D ≡ x * (c * k) = e ∙ mul_assoc x c k in
      let y : ℕ = c * k in
      let posy : 0 < y = positive y next in
      let own : D / (x * c) ≡ k = div-eq_of_eq-mul_right (down_positive q p x posq posp posx) e in
      let after : D / x ≡ y = div-eq_of_eq-mul_right posx next in
      let turned : p * D ≡ x * p * y = rw next (sym (mul_assoc p x y) ∙ ap (λ t. t * y) (mul_comm p x)) in
      let quotient : ceiling (q * y) (p * D) ≡ c = ap (ceiling (q * y)) turned ∙ ceiling_scale q (x * p) y (mul-pos posx posp) posy in
      after ∙ mul_comm c k ∙ sym (ap₂ (λ s t. s * t) own (ap (λ t. ceiling (q * t) (p * D)) after ∙ quotient))
    where
      positive : (y : ℕ) → D ≡ x * y → 0 < y
      positive zero h = absurd (omega (arith, mul-zero x))
      positive (suc y) h = omega arith

  lower_at : (ps ms : List ℕ) (a : ℕ) (l : List ℕ) → 0 < a → SortedPeriods a (l ++ q ∷ ps) → Multiple (at (downs q l) 0) D → (k : ℕ) → k < length l
      → at (map (λ d. D / d) (downs q l) ++ ms) (suc k) ≡ at (map (λ d. D / d) (downs q l) ++ ms) k * ceiling (q * at (map (λ d. D / d) (downs q l) ++ ms) (suc k)) (at l k * D)
  unfolding SortedPeriods downs Multiple down
  lower_at ps ms a [] pos r whole k h = absurd (omega arith)
  lower_at ps ms a (p ∷ l) pos r whole zero h =
      let posp : 0 < p = omega (arith, r.0) in
      let posx : 0 < at (downs q l) 0 = (first_divisor q ps p l posp r.2).0 in
      rw (first_factor q (λ d. D / d) l ms) (down_exact p (at (downs q l) 0) whole.0 (pivot_positive q ps p l posp r.2) posp posx whole.1)
  lower_at ps ms a (p ∷ l) pos r whole (suc k) h =
      let x : ℕ = at (downs q l) 0 in
      let c : ℕ = ceiling q (x * p) in
      lower_at ps ms p l (omega (arith, r.0)) r.2 (c * whole.0, whole.1 ∙ mul_assoc x c whole.0) k (omega arith)

ups_at : (q m : ℕ) (l : List ℕ) (j : ℕ) → j < length l → at (ups q m l) j ≡ up q (at l j) (at (m ∷ ups q m l) j)
unfolding ups
ups_at q m [] j h = absurd (omega arith)
ups_at q m (p ∷ l) zero h = refl
ups_at q m (p ∷ l) (suc j) h = ups_at q (up q p m) l j (omega arith)

-- the periods are the stated ones
pub dct_periods : (ps : List ℕ) (i : ℕ) → SortedPeriods 1 ps → i < length ps → DctPeriods ps i (dct ps i).Q (dct ps i).D (at (dct ps i).factors)
unfolding dct
dct_periods ps i r h = record { pivot = pivot; up = λ k low high. upward (k - i) k (sym (add-sub_of_le low)) high; down = downward }
  where
    q : ℕ
    q = at ps i

    l : List ℕ
    l = take i ps

    rest : List ℕ
    rest = drop (suc i) ps

    all : SortedPeriods 1 (l ++ q ∷ rest)
    all = subst (SortedPeriods 1) (split_at ps i 0 h) r

    D : ℕ
    D = at (downs q l) 0

    pos_d : 0 < D
    pos_d = (first_divisor q rest 1 l (omega arith) all).0

    us : List ℕ
    us = ups q 1 rest

    M : ℕ → ℕ
    M = at (map (λ d. D / d) (downs q l) ++ map (λ x. D * x) us)

    before : length l ≡ i
    before = length-take-le i ps (omega arith)

    upper : (j : ℕ) → M (i + j) ≡ D * at (1 ∷ us) j
    upper j = ap (λ t. M (t + j)) (sym before) ∙ upper_at q D pos_d l us j

    pivot : M i ≡ D
    pivot = ap M (sym (add-zero i)) ∙ upper 0 ∙ mul-one D

    upward : (j k : ℕ) → k ≡ i + j → suc k < length ps → M (suc k) ≡ M k * (at ps (suc k) * D / (q * M k))
    upward j k e high =
        let inside : j < length rest = simp length-drop (omega arith) in
        let period : at rest j ≡ at ps (suc k) = get_or-drop (suc i) ps j 0 ∙ ap (at ps) (omega arith) in
        let next : M (suc k) ≡ D * at us j = ap M (omega (arith, add-suc i j)) ∙ upper (suc j) in
        let own : M k ≡ D * at (1 ∷ us) j = ap M e ∙ upper j in
        next ∙ ap (λ t. D * t) (ups_at q 1 rest j inside ∙ ap (λ t. up q t (at (1 ∷ us) j)) period) ∙ up_exact q D pos_d (at ps (suc k)) (at (1 ∷ us) j) ∙ sym (ap (λ t. t * (at ps (suc k) * D / (q * t))) own)

    downward : (k : ℕ) → k < i → M (suc k) ≡ M k * ceiling (q * M (suc k)) (at ps k * D)
    downward k low =
        lower_at q D pos_d rest _ 1 l (omega arith) all (multiple_of_self D) k (omega (arith, before))
        ∙ ap (λ t. M k * ceiling (q * M (suc k)) (t * D)) (get_or-take i ps k 0 low)
