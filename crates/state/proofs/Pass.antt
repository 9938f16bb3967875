-- The one pass that tests a state's own form and meets the task of its stroke: what it knows after some tasks, and what each of its answers
-- means.
-- Assumes nothing.
use Prim.Native.Nat.{ℕ, zero, suc, ◌+◌, ◌/◌, ◌%◌, ◌^◌, ◌≤◌, ◌<◌}
use mathlib.Core.Path.{◌≡◌, refl, sym, ap, subst, ◌∙◌}
use mathlib.Core.Logic.{◌⊎◌, inl, inr, ⊎_elim}
use mathlib.Core.Bool.{Bool, true, false, cond, ◌&&◌, ◌||◌, true≢false}
use mathlib.Core.List.{List, [], ◌∷◌, ◌++◌}
use native.Mathlib.Decide.{dec_lt, ℕ_discrete}
use native.Mathlib.Nat.{mod-eq_of_lt}
use native.Mathlib.Numerals.{add-one}
use native.Mathlib.Omega.{arith}
use lib.ListN.{length, take, length-append, get_or-append}
use lib.Seq.{get_or-append_seam, take_at, take-suc, take_all, length-take-le}
use lib.Dec.{ltb, leb, eqb}
use lib.Bits.{bit_or, or_lt}
use lib.Count.{ones, ones-ones}
use borrow.Author.Tests.{ltb-false, lt-ltb, le-ltb, leb-false, lt-leb, eqb-true, eqb-false, eq-eqb}
use Rattle.fit.specs.Lists.{place_of, Each, EachPair}
use Rattle.fit.proofs.Lists.{each_of, each_both, each_append, each_halves, each_at, pairs_of, pairs_take, pairs_append, pairs_before}
use Rattle.timing.specs.declared.Task.{Task}
use Rattle.timing.specs.Calls.{Stroke, turn}
use Rattle.timing.specs.Form.{Sound, Distinct, Above, Form}
use Rattle.timing.specs.Serving.{no_task, nth}
use Rattle.timing.specs.Strokes.{StrokeIs}
use Rattle.timing.proofs.Form.{form_take}
use Rattle.timing.proofs.Strokes.{own_of_place, lasting, turn_named, turn_is}
use Rattle.state.specs.declared.Core.{Core}
use Rattle.state.specs.declared.form.Pass.{Pass}
use Rattle.state.specs.Steps.{rank, most_left, breaks, begun, is_own, after, ends_foreign}
use Rattle.state.specs.State.{tasks_of, stroke_in, state_in, InForm, foreign}
use Rattle.state.proofs.Foreign.{StrokeForm, is_foreign, form_foreign, foreign_form}
use Rattle.marks.proofs.Bits.{bit, bit_most, bit_zero, bit_or_lem, bit_same, bit_other, ones_bit, or_left, or_right}

-- a test says exactly that something does not hold
record Fails (b : Bool) (P : Type 0) : Type 0 where
  pub holds : b ≡ false → P
  pub fails : P → b ≡ false

fails_both : {a b : Bool} {P Q : Type 0} → Fails a P → Fails b Q → Fails (a || b) (P × Q)
fails_both {a} {b} x y = go a b x y
  where
    go : {P Q : Type 0} (a b : Bool) → Fails a P → Fails b Q → Fails (a || b) (P × Q)
    go true b x y = record { holds = λ e. absurd (true≢false e); fails = λ h. absurd (true≢false (x.fails h.0)) }
    go false b x y = record { holds = λ e. (x.holds refl, y.holds e); fails = λ h. y.fails h.1 }

fails_lt : (m n : ℕ) → Fails (ltb m n) (n ≤ m)
fails_lt m n = record { holds = ltb-false m n; fails = le-ltb m n }

fails_le : (m n : ℕ) → Fails (leb m n) (n < m)
fails_le m n = record { holds = leb-false m n; fails = lt-leb m n }

-- a task whose own fields but for its number and the longest period are in range
pub record Bounded (t : Task) : Type 0 where
  pub stroke_min : 1 ≤ t.stroke
  pub stroke_max : t.stroke ≤ t.budget
  pub budget_max : t.budget ≤ t.period
  pub age_max : t.age ≤ t.period
  pub left_max : t.left ≤ t.budget

fails_breaks : (last : ℕ) (t : Task) → Fails (breaks last t) ((((((last < rank t) × (1 ≤ t.stroke)) × (t.stroke ≤ t.budget)) × (t.budget ≤ t.period)) × (t.age ≤ t.period)) × (t.left ≤ t.budget))
fails_breaks last t = fails_both (fails_both (fails_both (fails_both (fails_both (fails_le _ _) (fails_lt _ _)) (fails_lt _ _)) (fails_lt _ _)) (fails_lt _ _)) (fails_lt _ _)

-- a stroke without ticks left has number 0
fails_none : (j r : ℕ) → Fails (eqb r 0 && ltb 0 j) (r ≡ 0 → j ≡ 0)
fails_none j r = record { holds = λ e z. let h = ltb-false 0 j (sym (ap (λ b. b && ltb 0 j) (eq-eqb r 0 z)) ∙ e) in omega (arith, h); fails = λ h. go (eqb r 0) refl h }
  where
    go : (b : Bool) → eqb r 0 ≡ b → (r ≡ 0 → j ≡ 0) → (b && ltb 0 j) ≡ false
    go true e h = le-ltb 0 j (omega (arith, h (eqb-true r 0 e)))
    go false e h = refl

fails_ends : (p : Pass) (n : ℕ) → Fails (ends_foreign p n) (((((p.numbers ≤ 63) × (p.last / 64 ≤ 60000)) × (n ≤ ones p.seen)) × (p.left ≤ p.most)) × (p.left ≡ 0 → p.own ≡ 0))
fails_ends p n = fails_both (fails_both (fails_both (fails_both (fails_lt _ _) (fails_lt _ _)) (fails_lt _ _)) (fails_lt _ _)) (fails_none p.own p.left)

-- ranks rise with the priority order of tasks whose numbers are at most 63
rank_above : (t u : Task) → t.number ≤ 63 → u.number ≤ 63 → rank t < rank u → Above t u
unfolding Above
rank_above t u a b h = go (dec_lt t.period u.period)
  where
    go : Dec (t.period < u.period) → (t.period < u.period) ⊎ ((t.period ≡ u.period) × (t.number < u.number))
    go (yes p) = inl p
    go (no p) = inr (omega (arith, p))

above_rank : (t u : Task) → t.number ≤ 63 → Above t u → rank t < rank u
unfolding Above
above_rank t u a (inl h) = omega arith
above_rank t u a (inr h) = omega arith

-- the bit of a task's number, and two tasks with different bits
abbrev slot : Task → ℕ
slot t = t.number % 64

abbrev Apart : Task → Task → Type 0
Apart t u = slot t ≡ slot u → ⊥

-- the bits that are set are those of the tasks so far, and there are as many as tasks exactly where no two have the same
pub record Seen (old : List Task) (seen : ℕ) : Type 0 where
  pub held : (n : ℕ) → bit n seen ≡ 1 → (k : ℕ) × (k < length old) × (slot (nth old k) ≡ n)
  pub set : Each (λ t. bit (slot t) seen ≡ 1) old
  pub most : ones seen ≤ length old
  pub apart : length old ≤ ones seen → EachPair Apart old
  pub counted : EachPair Apart old → length old ≤ ones seen

-- the task of number j stands at a place, with the most ticks that its stroke may have left, or is not among the tasks, and the most are 0
abbrev Met : (j : ℕ) (old : List Task) (place most : ℕ) → Type 0
Met j old place most =
    ((place < length old) × ((nth old place).number ≡ j) × (most ≡ most_left (nth old place))) ⊎ ((most ≡ 0) × Each (λ t. t.number ≡ j → ⊥) old)

-- what is known after some tasks
pub record Passed (old : List Task) (p : Pass) : Type 0 where
  pub bounded : Each Bounded old
  pub rising : EachPair (λ t u. rank t < rank u) old
  pub ranked : Each (λ t. rank t ≤ p.last) old
  pub latest : (p.last ≡ 0) ⊎ ((k : ℕ) × (k < length old) × (rank (nth old k) ≡ p.last))
  pub above : Each (λ t. t.number ≤ p.numbers) old
  pub below : Each (λ t. t.number < 64) old → p.numbers < 64
  pub seen : Seen old p.seen
  pub own : 0 < p.left → Met p.own old p.place p.most

pub passed_start : (j r : ℕ) → Passed [] (begun j r)
unfolding Each EachPair
passed_start j r = record {
  bounded = tt;
  rising = tt;
  ranked = tt;
  latest = inl refl;
  above = tt;
  below = λ h. omega arith;
  seen = record { held = λ n e. absurd (omega (arith, e, bit_zero n)); set = tt; most = omega (arith, ones-ones 0); apart = λ h. tt; counted = λ h. omega arith };
  own = λ h. inr (refl, tt);
}

-- the pairs of the front of a list
pairs_front : (R : Task → Task → Type 0) (xs ys : List Task) → EachPair R (xs ++ ys) → EachPair R xs
pairs_front R xs ys h = subst (EachPair R) (take_at xs ys (length xs) refl) (pairs_take R (length xs) (xs ++ ys) h)

-- one task more
module _ (old : List Task) (t : Task) where
  -- it stands behind the others
  behind : nth (old ++ t ∷ []) (length old) ≡ t
  behind = get_or-append_seam old t [] no_task

  before : (k : ℕ) → k < length old → nth (old ++ t ∷ []) k ≡ nth old k
  before k h = get_or-append old (t ∷ []) no_task k h

  more : length (old ++ t ∷ []) ≡ length old + 1
  more = length-append old (t ∷ [])

  -- its bit is put in
  module _ (seen : ℕ) (s : Seen old seen) where
    kept : (n : ℕ) → bit n seen ≡ 1 → bit n (bit_or seen (2 ^ slot t)) ≡ 1
    kept n e = omega (arith, bit_or_lem n seen (2 ^ slot t), e, bit_most n (2 ^ slot t))

    own : bit (slot t) (bit_or seen (2 ^ slot t)) ≡ 1
    own = omega (arith, bit_or_lem (slot t) seen (2 ^ slot t), bit_same (slot t), bit_most (slot t) seen)

    found : (n : ℕ) → bit n (bit_or seen (2 ^ slot t)) ≡ 1 → Dec (n ≡ slot t) → (k : ℕ) × (k < length (old ++ t ∷ [])) × (slot (nth (old ++ t ∷ []) k) ≡ n)
    found n e (yes y) = (length old, omega (arith, more), ap slot behind ∙ sym y)
    found n e (no y) =
        let m = s.held n (omega (arith, e, bit_or_lem n seen (2 ^ slot t), bit_other n (slot t) y)) in
        (m.0, omega (arith, m.1, more), ap slot (before m.0 m.1) ∙ m.2)

    -- where the bit is new, the task is apart from those before, and the other way round
    new_apart : bit (slot t) seen ≡ 0 → Each (λ u. Apart u t) old
    new_apart z = each_of old (λ u h e. omega (arith, z, h, ap (λ n. bit n seen) e)) s.set

    apart_new : Each (λ u. Apart u t) old → bit (slot t) seen ≡ 1 → ⊥
    apart_new h e =
        let m = s.held (slot t) e in
        each_at (λ u. Apart u t) no_task old m.0 m.1 h m.2

    seen_turn : Seen (old ++ t ∷ []) (bit_or seen (2 ^ slot t))
    unfolding Each EachPair
    seen_turn = record {
      held = λ n e. found n e (ℕ_discrete n (slot t));
      set = each_append (λ u. bit (slot u) (bit_or seen (2 ^ slot t)) ≡ 1) old (t ∷ []) (each_of old (λ u h. kept (slot u) h) s.set) (own, tt);
      most = omega (arith, more, ones_bit (slot t) seen, s.most);
      apart = λ h.
          let z : bit (slot t) seen ≡ 0 = omega (arith, h, more, ones_bit (slot t) seen, s.most) in
          pairs_append Apart old (t ∷ []) (s.apart (omega (arith, h, more, ones_bit (slot t) seen, z))) (tt, tt) (each_of old (λ u k. (k, tt)) (new_apart z));
      counted = λ h.
          let z : bit (slot t) seen ≡ 0 = zero_or_one (bit (slot t) seen) (bit_most (slot t) seen) (apart_new (pairs_before Apart old t [] h)) in
          omega (arith, more, ones_bit (slot t) seen, z, s.counted (pairs_front Apart old (t ∷ []) h));
    }
      where
        zero_or_one : (n : ℕ) → n ≤ 1 → (n ≡ 1 → ⊥) → n ≡ 0
        zero_or_one n h k = go (ℕ_discrete n 1)
          where
            go : Dec (n ≡ 1) → n ≡ 0
            go (yes y) = absurd (k y)
            go (no y) = omega (arith, y)

  -- it is the stroke's task, or not
  met_turn : (p : Pass) → 0 < p.left → Met p.own old p.place p.most → Met p.own (old ++ t ∷ []) (cond (is_own p t) (length old) p.place) (cond (is_own p t) (most_left t) p.most)
  unfolding Each
  met_turn p h m = rw (lt-ltb 0 p.left h) (go (eqb t.number p.own) refl)
    where
      go : (b : Bool) → eqb t.number p.own ≡ b → Met p.own (old ++ t ∷ []) (cond b (length old) p.place) (cond b (most_left t) p.most)
      go true e = inl (omega (arith, more), ap (λ u. u.number) behind ∙ eqb-true t.number p.own e, sym (ap most_left behind))
      go false e = ⊎_elim (λ x. inl (omega (arith, more, x.0), ap (λ u. u.number) (before p.place x.0) ∙ x.1, x.2 ∙ sym (ap most_left (before p.place x.0)))) (λ x. inr (x.0, each_append (λ u. u.number ≡ p.own → ⊥) old (t ∷ []) x.1 (eqb-false t.number p.own e, tt))) m

  module _ (p : Pass) (s : Passed old p) where
    -- a task that does not break the form
    pub passed_turn : breaks p.last t ≡ false → Passed (old ++ t ∷ []) (after (length old) p t)
    unfolding Each EachPair
    passed_turn e =
        let h = (fails_breaks p.last t).holds e in
        record {
          bounded = each_append Bounded old (t ∷ []) s.bounded (record { stroke_min = h.0.0.0.0.1; stroke_max = h.0.0.0.1; budget_max = h.0.0.1; age_max = h.0.1; left_max = h.1 }, tt);
          rising = pairs_append (λ u v. rank u < rank v) old (t ∷ []) s.rising (tt, tt) (each_of old (λ u k. (omega (arith, h.0.0.0.0.0, k), tt)) s.ranked);
          ranked = each_append (λ u. rank u ≤ rank t) old (t ∷ []) (each_of old (λ u k. omega (arith, h.0.0.0.0.0, k)) s.ranked) (omega arith, tt);
          latest = inr (length old, omega (arith, more), ap rank behind);
          above = each_append (λ u. u.number ≤ bit_or p.numbers t.number) old (t ∷ []) (each_of old (λ u k. omega (arith, k, or_left p.numbers t.number)) s.above) (or_right p.numbers t.number, tt);
          below = λ k.
              let halves = each_halves (λ u. u.number < 64) old (t ∷ []) k in
              or_lt 6 p.numbers t.number (s.below halves.0) halves.1.0;
          seen = seen_turn p.seen s.seen;
          own = λ k. met_turn p k (s.own k);
        }

    -- a task that breaks it is in no state in form
    pub breaks_form : breaks p.last t ≡ true → Form (old ++ t ∷ []) → ⊥
    unfolding Each
    breaks_form e f =
        let sounds = each_halves Sound old (t ∷ []) f.sound in
        let own : Sound t = sounds.1.0 in
        let before : Each (λ u. Above u t) old = pairs_before Above old t [] f.ordered in
        let later : Each (λ u. rank u < rank t) old = each_both old (λ u a b. above_rank u t a.number_max b) sounds.0 before in
        let after : p.last < rank t = ⊎_elim (λ z. omega (arith, own.period_min)) (λ k. omega (arith, k.2, each_at (λ u. rank u < rank t) no_task old k.0 k.1 later)) s.latest in
        true≢false (sym e ∙ (fails_breaks p.last t).fails (((((after, own.stroke_min), own.stroke_max), own.budget_max), own.age_max), own.left_max))

-- the end of the pass: it tells whether the tasks and the stroke are in form
module _ (old : List Task) (p : Pass) (s : Passed old p) where
  abbrev k : Stroke
  k = record { task = p.own; left = p.left }

  small : (u : Task) → u.number < 64 → slot u ≡ u.number
  small u h = mod-eq_of_lt h

  pub ends_form : length old ≤ 64 → ends_foreign p (length old) ≡ false → Form old
  unfolding Distinct
  ends_form room e =
      let h = (fails_ends p (length old)).holds e in
      let low : Each (λ u. u.number ≤ 63) old = each_of old (λ u k. omega (arith, k, h.0.0.0.0)) s.above in
      let short : Each (λ u. u.period ≤ 60000) old = each_of old (λ u k. omega (arith, k, h.0.0.0.1)) s.ranked in
      let ranges : Each (λ u. (u.number ≤ 63) × (u.period ≤ 60000)) old = each_both old (λ u a b. (a, b)) low short in
      record {
        count = room;
        sound = each_both old (λ u a c. record { number_max = a.0; period_min = omega (arith, c.stroke_min, c.stroke_max, c.budget_max); period_max = a.1; budget_min = omega (arith, c.stroke_min, c.stroke_max); budget_max = c.budget_max; age_max = c.age_max; left_max = c.left_max; stroke_min = c.stroke_min; stroke_max = c.stroke_max }) ranges s.bounded;
        distinct = pairs_of old (λ u v a b d x. d (ap (λ n. n % 64) x)) low (s.seen.apart h.0.0.1);
        ordered = pairs_of old (λ u v a b r. rank_above u v a b r) low s.rising;
      }

  pub ends_stroke : ends_foreign p (length old) ≡ false → StrokeForm k old
  ends_stroke e = ((λ x. go x (s.own x)), h.1)
    where
      h : ((((p.numbers ≤ 63) × (p.last / 64 ≤ 60000)) × (length old ≤ ones p.seen)) × (p.left ≤ p.most)) × (p.left ≡ 0 → p.own ≡ 0)
      h = (fails_ends p (length old)).holds e

      go : 0 < p.left → Met p.own old p.place p.most → (i : ℕ) × (i < length old) × StrokeIs k (nth old i)
      go x (inl m) = (p.place, m.0, record { number = m.1; pends = omega (arith, x, m.2, h.0.1); length_max = omega (arith, m.2, h.0.1); job_max = omega (arith, m.2, h.0.1) })
      go x (inr m) = absurd (omega (arith, x, m.0, h.0.1))

  pub ends_broken : ends_foreign p (length old) ≡ true → Form old → StrokeForm k old → ⊥
  unfolding Distinct
  ends_broken e f g =
      let low : Each (λ u. u.number < 64) old = each_of old (λ u k. omega (arith, k.number_max)) f.sound in
      let apart : EachPair Apart old = pairs_of old (λ u v a b d x. d (sym (small u a) ∙ x ∙ small v b)) low f.distinct in
      let last : p.last / 64 ≤ 60000 = ⊎_elim (λ z. omega (arith, z)) (λ k. omega (arith, k.2, (each_at Sound no_task old k.0 k.1 f.sound).number_max, (each_at Sound no_task old k.0 k.1 f.sound).period_max)) s.latest in
      true≢false (sym e ∙ (fails_ends p (length old)).fails ((((omega (arith, s.below low), last), s.seen.counted apart), enough (dec_lt 0 p.left)), g.1))
    where
      enough : Dec (0 < p.left) → p.left ≤ p.most
      enough (no h) = omega (arith, h)
      enough (yes h) =
          let w = g.0 h in
          ⊎_elim (λ m. let is = each_at _ no_task old p.place m.0 (own_of_place (StrokeIs k) old w.0 f.distinct w.1 w.2) (m.1 ∙ sym w.2.number) in omega (arith, is.length_max, is.job_max, m.2)) (λ m. absurd (each_at (λ u. u.number ≡ p.own → ⊥) no_task old w.0 w.1 m.1 w.2.number)) (s.own h)

-- the one task of a number, where a test asks for it
only_place : (q : Task → Bool) (j : ℕ) → ((t : Task) → q t ≡ true → t.number ≡ j) → (s : List Task) → EachPair Distinct s → (i : ℕ) → i < length s → (nth s i).number ≡ j → q (nth s i) ≡ true → i ≡ place_of q s
unfolding place_of EachPair Distinct
only_place q j f [] d i lt e h = absurd (omega arith)
only_place q j f (t ∷ s) d zero lt e h = rw h
only_place q j f (t ∷ s) d (suc i) lt e h = go (q t) refl (only_place q j f s d.1 i (omega arith) e h)
  where
    go : (b : Bool) → q t ≡ b → i ≡ place_of q s → suc i ≡ cond b 0 (suc (place_of q s))
    go true x y = absurd (each_at _ no_task s i (omega arith) d.0 (f t x ∙ sym e))
    go false x y = ap suc y

-- The same of a state whose tasks are l, as the code goes from one to the next.
pub record PassedIn (s : Core) (l : List Task) (i : ℕ) (p : Pass) : Type 0 where
  pub few : s.count ≤ 64
  pub many : length l ≡ s.count
  pub tasks : l ≡ tasks_of s
  pub passed : Passed (take i l) p
  pub own : p.own ≡ s.stroke_task
  pub left : p.left ≡ s.stroke_left

pub more_than_64 : (s : Core) → 64 < s.count → true ≡ foreign s
more_than_64 s h = is_foreign s (λ f. omega (arith, f.count))

pub too_many : (s : Core) → length s.tasks ≡ 64 → length s.tasks < s.count → true ≡ foreign s
too_many s r h = more_than_64 s (omega arith)

pub passed_begun : (s : Core) (l : List Task) (p : Pass) → length s.tasks ≡ 64 → s.count ≤ length s.tasks → l ≡ tasks_of s → p ≡ begun s.stroke_task s.stroke_left → PassedIn s l 0 p
passed_begun s l p room h t e = record { few = omega arith; many = ap length t ∙ length-take-le s.count s.tasks h; tasks = t; passed = rw e (passed_start s.stroke_task s.stroke_left); own = rw e; left = rw e }

module _ (s : Core) (l : List Task) (i : ℕ) (p : Pass) (h : i < length l) (b : PassedIn s l i p) (r : Bool) (e : r ≡ breaks p.last (nth l i)) where
  next_task : take (i + 1) l ≡ take i l ++ nth l i ∷ []
  next_task = rw (add-one i) (take-suc l i no_task h)

  pub pass_turn : (q : Pass) → r ≡ false → q ≡ after i p (nth l i) → PassedIn s l (i + 1) q
  pass_turn q x y =
      let turned : Passed (take i l ++ nth l i ∷ []) (after (length (take i l)) p (nth l i)) = passed_turn (take i l) (nth l i) p b.passed (sym e ∙ x) in
      let front : length (take i l) ≡ i = length-take-le i l (omega arith) in
      record { few = b.few; many = b.many; tasks = b.tasks; passed = rw (next_task, y) (rw front at turned); own = rw y b.own; left = rw y b.left }

  pub pass_breaks : r ≡ true → true ≡ foreign s
  pass_breaks x = is_foreign s (λ f. breaks_form (take i l) (nth l i) p b.passed (sym e ∙ x) (subst Form (ap (take (i + 1)) (sym b.tasks) ∙ next_task) (form_take (i + 1) (tasks_of s) f.form.tasks)))

-- after all tasks
module _ (s : Core) (l : List Task) (i : ℕ) (p : Pass) (k : length l ≤ i) (b : PassedIn s l i p) where
  all : Passed (tasks_of s) p
  all = subst (λ m. Passed m p) (take_all i l k ∙ b.tasks) b.passed

  stroke : record { task = p.own; left = p.left } ≡ stroke_in s
  stroke = λ j. record { task = b.own j; left = b.left j }

  pub pass_told : (r : Bool) → r ≡ ends_foreign p s.count → r ≡ foreign s
  pass_told r e = go r refl
    where
      count : length (tasks_of s) ≡ s.count
      count = ap length (sym b.tasks) ∙ b.many

      told : r ≡ ends_foreign p (length (tasks_of s))
      told = e ∙ ap (ends_foreign p) (sym count)

      go : (w : Bool) → r ≡ w → r ≡ foreign s
      go true x = x ∙ is_foreign s (λ f. ends_broken (tasks_of s) p all (sym told ∙ x) f.form.tasks (subst (λ k. StrokeForm k (tasks_of s)) (sym stroke) (f.form.lasts, f.form.none)))
      go false x =
          let g : StrokeForm (stroke_in s) (tasks_of s) = subst (λ k. StrokeForm k (tasks_of s)) stroke (ends_stroke (tasks_of s) p all (sym told ∙ x)) in
          x ∙ sym (form_foreign s (record { count = b.few; form = record { tasks = ends_form (tasks_of s) p all (omega (arith, count, b.few)) (sym told ∙ x); lasts = g.0; none = g.1 } }))

  -- where a stroke lasts, its task is the one that the tick goes to
  pub pass_place : foreign s ≡ false → 0 < s.stroke_left → p.place ≡ place_of (turn (stroke_in s)) (tasks_of s)
  pass_place e l = go (rw b.own at (all.own (rw b.left l)))
    where
      f : InForm s
      f = foreign_form s e

      is : Each (λ t. t.number ≡ s.stroke_task → StrokeIs (stroke_in s) t) (tasks_of s)
      is = lasting (state_in s) f.form l

      asks : (t : Task) → turn (stroke_in s) t ≡ true → t.number ≡ s.stroke_task
      asks t x = turn_named (stroke_in s) t l x

      go : Met s.stroke_task (tasks_of s) p.place p.most → p.place ≡ place_of (turn (stroke_in s)) (tasks_of s)
      go (inl m) = only_place (turn (stroke_in s)) s.stroke_task asks (tasks_of s) f.form.tasks.distinct p.place m.0 m.1 (turn_is (stroke_in s) (nth (tasks_of s) p.place) l (each_at _ no_task (tasks_of s) p.place m.0 is m.1))
      go (inr m) =
          let w = f.form.lasts l in
          absurd (each_at _ no_task (tasks_of s) w.0 w.1 m.1 w.2.number)
