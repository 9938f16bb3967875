-- The demand of a task in a list in priority order is that of its level; what the smallest t says of the demand, and what the sign of the
-- margin says.
-- Assumes nothing.
use Prim.Native.Nat.{ℕ, ◌+◌, ◌-◌, ◌≤◌, ◌<◌}
use mathlib.Core.Path.{◌≡◌, refl, ap, subst, ◌∙◌}
use mathlib.Core.Bool.{Bool, true, false}
use mathlib.Core.Logic.{◌⊎◌, inl, inr, ⊎_elim}
use Rattle.std.specs.Prelude.{Option, None, Some}
use mathlib.Core.List.{List, [], ◌∷◌, ◌++◌}
use native.Mathlib.Omega.{arith}
use borrow.Author.Tests.{leb-true, leb-false, le-ltb}
use lib.IntN.{pos, ◌-ℤ◌}
use lib.Signed.{◌≤ℤ◌}
use Rattle.fit.specs.Lists.{sum, select, Each, EachPair}
use Rattle.fit.specs.Priority.{above, Above}
use Rattle.fit.proofs.Lists.{each_halves}
use Rattle.fit.proofs.Finds.{find_none, find_some_lem, found_first}
use Rattle.fit.proofs.Priority.{above_true}
use Rattle.fit.proofs.Selecting.{above_test}
use Rattle.margin.specs.Margin.{tasks_above, request, demand, met, smallest, margin_from}
use Rattle.margin.proofs.Difference.{minus_cases, minus_positive, minus_negative, minus_falls}

module _ (p : ℕ → ℕ) where
  -- what is below i, or i itself, is not above i
  not_above : (i j : ℕ) → (Above p j i → ⊥) → above p j i ≡ false
  not_above i j h = by (above p j i) refl
    where
      by : (b : Bool) → above p j i ≡ b → b ≡ false
      by true e = absurd (h (above_true p j i e))
      by false e = refl

  below_other : (i j : ℕ) → Above p i j → Above p j i → ⊥
  unfolding Above
  below_other i j (inl a) (inl b) = omega arith
  below_other i j (inl a) (inr b) = omega (arith, b.0)
  below_other i j (inr a) (inl b) = omega (arith, a.0)
  below_other i j (inr a) (inr b) = omega (arith, a.1, b.1)

  below_itself : (i : ℕ) → Above p i i → ⊥
  unfolding Above
  below_itself i (inl a) = omega arith
  below_itself i (inr a) = omega (arith, a.1)

  none_above : (i : ℕ) (l : List ℕ) → Each (Above p i) l → tasks_above p l i ≡ []
  unfolding tasks_above select Each
  none_above i [] h = refl
  none_above i (j ∷ l) h = rw (not_above i j (below_other i j h.0)) (none_above i l h.1)

  -- in priority order the tasks above one are those before it
  above_part : (xs : List ℕ) (i : ℕ) (ys : List ℕ) → EachPair (Above p) (xs ++ i ∷ ys) → tasks_above p (xs ++ i ∷ ys) i ≡ xs
  unfolding tasks_above select Each EachPair
  above_part [] i ys h = rw (not_above i i (below_itself i)) (none_above i ys h.0)
  above_part (x ∷ xs) i ys h = rw (above_test p x i (each_halves (Above p x) xs (i ∷ ys) h.0).1.0) (ap (λ (t : List ℕ). x ∷ t) (above_part xs i ys h.1))

  -- so its demand is its budget and what those before it ask for
  pub demand_level : (e : ℕ → ℕ) (l xs : List ℕ) (i : ℕ) (ys : List ℕ) (t : ℕ) → EachPair (Above p) l → l ≡ xs ++ i ∷ ys → demand p e l i t ≡ e i + sum (request p e t) xs
  unfolding demand
  demand_level e l xs i ys t h s = ap (λ a. e i + sum (request p e t) a) (ap (λ x. tasks_above p x i) s ∙ above_part xs i ys (subst (EachPair (Above p)) s h))

-- t lies from 1 to p, and the demand d at t is at most t
pub record Meets (d : ℕ → ℕ) (p t : ℕ) : Type 0 where
  pub from : 1 ≤ t
  pub to : t ≤ p
  pub enough : d t ≤ t

-- at no t from 1 to p is the demand at most t
abbrev pub Short : (ℕ → ℕ) → ℕ → Type 0
Short d p = (t : ℕ) → 1 ≤ t → t ≤ p → t < d t

-- the smallest t, or p where there is none
unfoldable pub response : (ℕ → ℕ) → ℕ → ℕ
response d p = from (smallest d p)
  where
    from : Option ℕ → ℕ
    from None = p
    from (Some t) = t

module _ (d : ℕ → ℕ) (p : ℕ) where
  -- one or the other holds
  pub meets_or_short : Meets d p (response d p) ⊎ Short d p
  unfolding response smallest met
  meets_or_short = by (smallest d p) refl
    where
      by : (o : Option ℕ) → smallest d p ≡ o → Meets d p (response d p) ⊎ Short d p
      by None e = inr (λ t a b. leb-false (d t) t (find_none (met d) 1 p e t a (omega arith)))
      by (Some t) e =
          let r = find_some_lem (met d) 1 p t e in
          inl (rw e (record { from = (found_first (met d) 1 p t e).0; to = omega (arith, r.0); enough = leb-true (d t) t r.1 }))

  -- where some t meets the demand, the smallest is found, and is no larger
  found : (t : ℕ) → Meets d p t → (s : ℕ) × (smallest d p ≡ Some s) × (s ≤ t)
  unfolding smallest met
  found t f = by (smallest d p) refl
    where
      by : (o : Option ℕ) → smallest d p ≡ o → (s : ℕ) × (smallest d p ≡ Some s) × (s ≤ t)
      by None e = absurd (omega (arith, f.enough, leb-false (d t) t (find_none (met d) 1 p e t f.from (omega (arith, f.to)))))
      by (Some s) e =
          let least : t < s → ⊥ = λ lt. omega (arith, f.enough, leb-false (d t) t ((found_first (met d) 1 p s e).1 t f.from lt)) in
          (s, e, omega (arith, least))

  -- so it bounds the margin from below
  pub meets_margin : (t : ℕ) → Meets d p t → (pos p -ℤ pos t) ≤ℤ margin_from p (d p) (smallest d p)
  unfolding margin_from
  meets_margin t f = let r = found t f in rw r.1 (minus_falls p r.0 t r.2)

  -- and the margin is zero or more exactly where there is such a t
  pub meets_positive : (t : ℕ) → Meets d p t → pos 0 ≤ℤ margin_from p (d p) (smallest d p)
  unfolding margin_from
  meets_positive t f = let r = found t f in rw r.1 (minus_positive p r.0 (omega (arith, r.2, f.to)))

  pub positive_meets : 1 ≤ p → pos 0 ≤ℤ margin_from p (d p) (smallest d p) → Meets d p (response d p)
  unfolding response smallest met margin_from
  positive_meets h m = ⊎_elim (λ f. f) (λ s. absurd (by (smallest d p) refl s m)) meets_or_short
    where
      by : (o : Option ℕ) → smallest d p ≡ o → Short d p → pos 0 ≤ℤ margin_from p (d p) o → ⊥
      by None e s k = minus_negative p (d p) (s p h (omega arith)) k
      by (Some t) e s k =
          let r = find_some_lem (met d) 1 p t e in
          omega (arith, leb-true (d t) t r.1, s t (found_first (met d) 1 p t e).0 (omega (arith, r.0)))

  -- then it is what the smallest leaves of p
  pub margin_response : Meets d p (response d p) → margin_from p (d p) (smallest d p) ≡ pos (p - response d p)
  unfolding response margin_from
  margin_response f =
      let r = found (response d p) f in
      rw r.1 (minus_cases p r.0 ∙ rw (le-ltb p r.0 (omega (arith, r.2, f.to))))

  -- no t before the smallest meets the demand
  pub response_short : (n : ℕ) → n < response d p → n ≤ p → Short d n
  unfolding response smallest met
  response_short n h k t a b = by (smallest d p) refl
    where
      by : (o : Option ℕ) → smallest d p ≡ o → t < d t
      by None e = leb-false (d t) t (find_none (met d) 1 p e t a (omega arith))
      by (Some r) e =
          let q : response d p ≡ r = rw e in
          leb-false (d t) t ((found_first (met d) 1 p r e).1 t a (omega arith))
