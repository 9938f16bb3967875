-- The test of 21 Foreign says exactly that the state breaks its own form.
-- Assumes nothing.
use Prim.Native.Nat.{ℕ, zero, suc, ◌-◌, ◌≤◌, ◌<◌}
use mathlib.Core.Path.{◌≡◌, refl}
use mathlib.Core.Logic.{◌⊎◌, inl, inr, ◌↔◌}
use mathlib.Core.Bool.{Bool, true, false, cond, not, ◌&&◌, ◌||◌, true≢false, false≢true, or-true}
use mathlib.Core.List.{List, [], ◌∷◌}
use native.Mathlib.Omega.{arith}
use lib.ListN.{length, length-take}
use lib.Dec.{ltb, leb, eqb}
use borrow.Author.Tests.{ltb-true, ltb-false, lt-ltb, le-ltb, leb-true, le-leb, eqb-true, eqb-false, eq-eqb, ne_eqb, not-true, not-false}
use Rattle.fit.specs.Lists.{Each, EachPair}
use Rattle.timing.specs.declared.Task.{Task}
use Rattle.timing.specs.Calls.{Stroke}
use Rattle.timing.specs.Form.{Sound, Distinct, Above}
use Rattle.timing.specs.Serving.{nth}
use Rattle.timing.specs.Strokes.{StrokeIs}
use Rattle.state.specs.declared.Core.{Core}
use Rattle.state.specs.State.{tasks_of, stroke_in, InForm, sound, distinct, above, each, each_pair, any, stroke_is, stroke_sound, foreign}

-- a test says exactly that something holds
record Tells (b : Bool) (P : Type 0) : Type 0 where
  pub holds : b ≡ true → P
  pub passes : P → b ≡ true

both : {a b : Bool} {P Q : Type 0} → Tells a P → Tells b Q → Tells (a && b) (P × Q)
both {a} {b} x y = go a b x y
  where
    go : {P Q : Type 0} (a b : Bool) → Tells a P → Tells b Q → Tells (a && b) (P × Q)
    go true b x y = record { holds = λ e. (x.holds refl, y.holds e); passes = λ h. y.passes h.1 }
    go false b x y = record { holds = λ e. absurd (false≢true e); passes = λ h. absurd (false≢true (x.passes h.0)) }

tells_le : (m n : ℕ) → Tells (leb m n) (m ≤ n)
tells_le m n = record { holds = leb-true m n; passes = le-leb m n }

tells_sound : (t : Task) → Tells (sound t) (Sound t)
tells_sound t = record {
  holds = λ e. let h = all.holds e in record { number_max = h.0; period_min = h.1.0; period_max = h.1.1.0; budget_min = h.1.1.1.0; budget_max = h.1.1.1.1.0; age_max = h.1.1.1.1.1.0; left_max = h.1.1.1.1.1.1.0; stroke_min = h.1.1.1.1.1.1.1.0; stroke_max = h.1.1.1.1.1.1.1.1 };
  passes = λ h. all.passes (h.number_max, (h.period_min, (h.period_max, (h.budget_min, (h.budget_max, (h.age_max, (h.left_max, (h.stroke_min, h.stroke_max))))))));
}
  where
    all : Tells (sound t) ((t.number ≤ 63) × ((1 ≤ t.period) × ((t.period ≤ 60000) × ((1 ≤ t.budget) × ((t.budget ≤ t.period) × ((t.age ≤ t.period) × ((t.left ≤ t.budget) × ((1 ≤ t.stroke) × (t.stroke ≤ t.budget)))))))))
    all = both (tells_le _ _) (both (tells_le _ _) (both (tells_le _ _) (both (tells_le _ _) (both (tells_le _ _) (both (tells_le _ _) (both (tells_le _ _) (both (tells_le _ _) (tells_le _ _))))))))

tells_distinct : (t u : Task) → Tells (distinct t u) (Distinct t u)
unfolding distinct Distinct
tells_distinct t u = record {
  holds = λ e. eqb-false t.number u.number (not-true _ e);
  passes = λ h. let e : eqb t.number u.number ≡ false = ne_eqb _ _ h in rw e;
}

tells_above : (t u : Task) → Tells (above t u) (Above t u)
unfolding above Above
tells_above t u = record { holds = go (ltb t.period u.period) (eqb t.period u.period) (ltb t.number u.number) refl refl refl; passes = back }
  where
    go : (a b c : Bool) → ltb t.period u.period ≡ a → eqb t.period u.period ≡ b → ltb t.number u.number ≡ c → (a || b && c) ≡ true → (t.period < u.period) ⊎ ((t.period ≡ u.period) × (t.number < u.number))
    go true b c x y z e = inl (ltb-true _ _ x)
    go false true true x y z e = inr (eqb-true _ _ y, ltb-true _ _ z)
    go false true false x y z e = absurd (false≢true e)
    go false false c x y z e = absurd (false≢true e)

    back : (t.period < u.period) ⊎ ((t.period ≡ u.period) × (t.number < u.number)) → (ltb t.period u.period || eqb t.period u.period && ltb t.number u.number) ≡ true
    back (inl h) = rw (lt-ltb _ _ h)
    back (inr h) = rw (eq-eqb _ _ h.0, lt-ltb _ _ h.1) (or-true (ltb t.period u.period))

tells_each : {q : Task → Bool} {P : Task → Type 0} → ((t : Task) → Tells (q t) (P t)) → (s : List Task) → Tells (each q s) (Each P s)
unfolding each Each
tells_each k [] = record { holds = λ e. tt; passes = λ h. refl }
tells_each k (t ∷ s) = both (k t) (tells_each k s)

tells_pairs : {q : Task → Task → Bool} {R : Task → Task → Type 0} → ((t u : Task) → Tells (q t u) (R t u)) → (s : List Task) → Tells (each_pair q s) (EachPair R s)
unfolding each_pair EachPair
tells_pairs k [] = record { holds = λ e. tt; passes = λ h. refl }
tells_pairs k (t ∷ s) = both (tells_each (k t) s) (tells_pairs k s)

tells_any : {q : Task → Bool} {P : Task → Type 0} → ((t : Task) → Tells (q t) (P t)) → (s : List Task) → Tells (any q s) ((i : ℕ) × (i < length s) × P (nth s i))
unfolding any
tells_any k [] = record { holds = λ e. absurd (false≢true e); passes = λ h. absurd (omega (arith, h.1)) }
tells_any {q} {P} k (t ∷ s) = record { holds = to (tells_any k s) (q t) refl; passes = back (tells_any k s) }
  where
    to : Tells (any q s) ((i : ℕ) × (i < length s) × P (nth s i)) → (b : Bool) → q t ≡ b → (b || any q s) ≡ true → (i : ℕ) × (i < suc (length s)) × P (nth (t ∷ s) i)
    to r true e x = (zero, omega arith, (k t).holds e)
    to r false e x = let h = r.holds x in (suc h.0, omega (arith, h.1), h.2)

    back : Tells (any q s) ((i : ℕ) × (i < length s) × P (nth s i)) → (i : ℕ) × (i < suc (length s)) × P (nth (t ∷ s) i) → (q t || any q s) ≡ true
    back r (zero, lt, h) = rw ((k t).passes h)
    back r (suc i, lt, h) = rw (r.passes (i, omega arith, h)) (or-true (q t))

tells_stroke_is : (k : Stroke) (t : Task) → Tells (stroke_is k t) (StrokeIs k t)
unfolding stroke_is
tells_stroke_is k t = record {
  holds = λ e. let h = all.holds e in record { number = h.0; pends = h.1.0; length_max = h.1.1.0; job_max = h.1.1.1 };
  passes = λ h. all.passes (h.number, (h.pends, (h.length_max, h.job_max)));
}
  where
    all : Tells (eqb t.number k.task && (ltb 0 t.left && (leb k.left (t.stroke - 1) && leb k.left t.left))) ((t.number ≡ k.task) × ((0 < t.left) × ((k.left ≤ t.stroke - 1) × (k.left ≤ t.left))))
    all = both (record { holds = eqb-true _ _; passes = eq-eqb _ _ }) (both (record { holds = ltb-true _ _; passes = lt-ltb _ _ }) (both (tells_le _ _) (tells_le _ _)))

-- the stroke's part of a state's form
abbrev pub StrokeForm : Stroke → List Task → Type 0
StrokeForm k s = (0 < k.left → (i : ℕ) × (i < length s) × StrokeIs k (nth s i)) × (k.left ≡ 0 → k.task ≡ 0)

tells_stroke : (k : Stroke) (s : List Task) → Tells (stroke_sound k s) (StrokeForm k s)
unfolding stroke_sound
tells_stroke k s = record { holds = to (eqb k.left 0) refl; passes = back (eqb k.left 0) refl }
  where
    to : (b : Bool) → eqb k.left 0 ≡ b → cond b (eqb k.task 0) (any (stroke_is k) s) ≡ true → StrokeForm k s
    to true e x = ((λ p. absurd (omega (arith, p, eqb-true k.left 0 e))), (λ z. eqb-true _ _ x))
    to false e x = ((λ p. (tells_any (tells_stroke_is k) s).holds x), (λ z. absurd (eqb-false _ _ e z)))

    back : (b : Bool) → eqb k.left 0 ≡ b → StrokeForm k s → cond b (eqb k.task 0) (any (stroke_is k) s) ≡ true
    back true e h = eq-eqb _ _ (h.1 (eqb-true _ _ e))
    back false e h = (tells_any (tells_stroke_is k) s).passes (h.0 (let n : k.left ≡ 0 → ⊥ = eqb-false _ _ e in omega (arith, n)))

tells_form : (k : Stroke) (s : List Task) → Tells (each sound s && (each_pair distinct s && (each_pair above s && stroke_sound k s))) (Each Sound s × (EachPair Distinct s × (EachPair Above s × StrokeForm k s)))
tells_form k s = both (tells_each tells_sound s) (both (tells_pairs tells_distinct s) (both (tells_pairs tells_above s) (tells_stroke k s)))

-- the law, both ways
pub foreign_form : (s : Core) → foreign s ≡ false → InForm s
unfolding foreign
foreign_form s e = go (ltb 64 s.count) refl e
  where
    go : (b : Bool) → ltb 64 s.count ≡ b → (b || not (each sound (tasks_of s) && (each_pair distinct (tasks_of s) && (each_pair above (tasks_of s) && stroke_sound (stroke_in s) (tasks_of s))))) ≡ false → InForm s
    go true x y = absurd (true≢false y)
    go false x y =
        let h = (tells_form (stroke_in s) (tasks_of s)).holds (not-false _ y) in
        let n : s.count ≤ 64 = ltb-false _ _ x in
        record { count = n; form = record { tasks = record { count = simp length-take (omega arith); sound = h.0; distinct = h.1.0; ordered = h.1.1.0 }; lasts = h.1.1.1.0; none = h.1.1.1.1 } }

pub form_foreign : (s : Core) → InForm s → foreign s ≡ false
unfolding foreign
form_foreign s h = rw (le-ltb 64 s.count h.count, (tells_form (stroke_in s) (tasks_of s)).passes (h.form.tasks.sound, (h.form.tasks.distinct, (h.form.tasks.ordered, (h.form.lasts, h.form.none)))))

pub foreign_exactly : (s : Core) → (foreign s ≡ false) ↔ InForm s
foreign_exactly s = (foreign_form s, form_foreign s)

-- the two answers of the test
pub is_foreign : (s : Core) → (InForm s → ⊥) → true ≡ foreign s
is_foreign s k = go (foreign s) refl
  where
    go : (b : Bool) → foreign s ≡ b → true ≡ b
    go true e = refl
    go false e = absurd (k (foreign_form s e))
