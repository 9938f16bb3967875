-- What a search finds, both ways: the first number that passes a test, the first that has an answer, and the first break of a chain.
-- Assumes nothing.
use Prim.Native.Nat.{ℕ, zero, suc, ◌+◌, ◌%◌, ◌≤◌, ◌<◌, zero-le}
use mathlib.Core.Path.{◌≡◌, refl, sym, ap, ◌∙◌}
use mathlib.Core.Logic.{◌↔◌}
use mathlib.Core.Bool.{Bool, true, false, cond}
use Rattle.std.specs.Prelude.{Option, None, Some}
use Rattle.sheet.proofs.Options.{some-ne-none, none-ne-some, some-injective}
use mathlib.Core.List.{List, [], ◌∷◌, ◌++◌}
use native.Mathlib.Nat.{zero-add}
use native.Mathlib.Decide.{ℕ_discrete}
use native.Mathlib.Omega.{arith}
use borrow.Author.Tests.{eqb-true, eqb-false, eq-eqb, ne_eqb}
use lib.Arith.{lt_of_le-ne}
use lib.Dec.{eqb}
use Rattle.sheet.specs.Table.{core}
use Rattle.sheet.proofs.Exactly.{core_exactly}
use Rattle.fit.specs.Lists.{numbers, find, find_some, or_else, Each, EachPair}
use Rattle.fit.specs.Fits.{chain_break, Multiple, Multiples, last_factor}
use Rattle.fit.specs.Firsts.{FirstAt, FirstAnswer, FirstBreak}
use Rattle.fit.proofs.Lists.{each_of}
use Rattle.fit.proofs.Finds.{find_some_none, as_answer, find_answer}
use Rattle.fit.proofs.Levels.{multiple_mod, mod_multiple}

-- the first answer among the numbers from a up
record From (g : ℕ → Option ℕ) (a n x : ℕ) : Type 0 where
  number : ℕ
  above : a ≤ number
  below : number < a + n
  answers : g number ≡ Some x
  first : (y : ℕ) → a ≤ y → y < number → g y ≡ None

from : (g : ℕ → Option ℕ) (a n x : ℕ) → find_some g (numbers a n) ≡ Some x → From g a n x
unfolding find_some numbers
from g a zero x e = absurd (none-ne-some x e)
from g a (suc n) x e = by (g a) refl (from g (suc a) n x)
  where
    by : (o : Option ℕ) → g a ≡ o → (find_some g (numbers (suc a) n) ≡ Some x → From g (suc a) n x) → From g a (suc n) x
    by (Some y) t rec =
        record { number = a; above = omega arith; below = omega arith; answers = t ∙ (rw t at e); first = λ y b c. absurd (omega arith) }
    by None t rec =
        let r = rec (rw t at e) in
        record { number = r.number; above = omega (arith, r.above); below = omega (arith, r.below); answers = r.answers; first = λ y b c. next r y b c (ℕ_discrete y a) }
      where
        next : (r : From g (suc a) n x) (y : ℕ) → a ≤ y → y < r.number → Dec (y ≡ a) → g y ≡ None
        next r y b c (yes z) = rw z t
        next r y b c (no z) = r.first y (lt_of_le-ne b (λ w. z (sym w))) c

-- What is found is what the first number that has an answer answers.
pub find_some_exactly : (g : ℕ → Option ℕ) (n x : ℕ) → (find_some g (numbers 0 n) ≡ Some x) ↔ FirstAnswer g n x
find_some_exactly g n x = (to x, back)
  where
    to : (x : ℕ) → find_some g (numbers 0 n) ≡ Some x → FirstAnswer g n x
    to x e =
        let r = from g 0 n x e in
        record { number = r.number; below = rw (zero-add n) at r.below; answers = r.answers; first = λ y h. r.first y zero-le h }

    same : (x y : ℕ) (s : FirstAnswer g n x) (t : FirstAnswer g n y) → s.number ≡ t.number
    same x y s t =
        let a : s.number < t.number → ⊥ = λ h. none-ne-some x (sym (t.first s.number h) ∙ s.answers) in
        let b : t.number < s.number → ⊥ = λ h. none-ne-some y (sym (s.first t.number h) ∙ t.answers) in
        omega (arith, a, b)

    back : FirstAnswer g n x → find_some g (numbers 0 n) ≡ Some x
    back s = by (find_some g (numbers 0 n)) refl
      where
        by : (o : Option ℕ) → find_some g (numbers 0 n) ≡ o → find_some g (numbers 0 n) ≡ Some x
        by None e = absurd (none-ne-some x (sym (find_some_none g 0 n e s.number zero-le (rw (zero-add n) s.below)) ∙ s.answers))
        by (Some y) e = let t = to y e in e ∙ (sym t.answers ∙ rw (← same x y s t) s.answers)

-- What is found is the first number that passes the test.
pub find_exactly : (q : ℕ → Bool) (n x : ℕ) → (find q (numbers 0 n) ≡ Some x) ↔ FirstAt q n x
find_exactly q n x = (to, back)
  where
    passed : (y k : ℕ) (b : Bool) → cond b (Some k) None ≡ Some y → (k ≡ y) × (b ≡ true)
    passed y k true e = (some-injective k y e, refl)
    passed y k false e = absurd (none-ne-some y e)

    failed : (k : ℕ) (b : Bool) → ◌≡◌ {A = Option ℕ} (cond b (Some k) None) None → b ≡ false
    failed k true e = absurd (some-ne-none k e)
    failed k false e = refl

    to : find q (numbers 0 n) ≡ Some x → FirstAt q n x
    to e =
        let r = (find_some_exactly (as_answer q) n x).0 (sym (find_answer q (numbers 0 n)) ∙ e) in
        let (z, t) = passed x r.number (q r.number) r.answers in
        record { below = rw (← z) r.below; passes = rw (← z) t; first = λ y h. failed y (q y) (r.first y (rw z h)) }

    back : FirstAt q n x → find q (numbers 0 n) ≡ Some x
    back s = find_answer q (numbers 0 n) ∙ (find_some_exactly (as_answer q) n x).1 (record { number = x; below = s.below; answers = rw s.passes; first = λ y h. rw (s.first y h) })

-- The place of a rule at cores is 64 + the first core at which it is broken.
pub core_find_exactly : (q : ℕ → Bool) (c x : ℕ) → (core (find q (numbers 0 c)) ≡ Some x) ↔ ((k : ℕ) × FirstAt q c k × (x ≡ 64 + k))
core_find_exactly q c x = (
  (λ e. let (k, t, z) = (core_exactly (find q (numbers 0 c)) x).0 e in (k, (find_exactly q c k).0 t, z)),
  (λ h. (core_exactly (find q (numbers 0 c)) x).1 (h.0, (find_exactly q c h.0).1 h.1, h.2)),
)

-- in any list: nothing is found exactly where nothing passes; what is found has what each of the list has, and passes; and in a rising list
-- nothing lower passes
pub none_exactly : (q : ℕ → Bool) (l : List ℕ) → (find q l ≡ None) ↔ Each (λ y. q y ≡ false) l
unfolding find Each
none_exactly q l = (to l, back l)
  where
    to : (l : List ℕ) → find q l ≡ None → Each (λ y. q y ≡ false) l
    to [] e = tt
    to (y ∷ l) e = by (q y) refl e (to l)
      where
        by : (b : Bool) → q y ≡ b → cond b (Some y) (find q l) ≡ None → (find q l ≡ None → Each (λ y. q y ≡ false) l) → (q y ≡ false) × Each (λ y. q y ≡ false) l
        by true t e rec = absurd (some-ne-none y e)
        by false t e rec = (t, rec e)

    back : (l : List ℕ) → Each (λ y. q y ≡ false) l → find q l ≡ None
    back [] h = refl
    back (y ∷ l) h = rw h.0 (back l h.1)

module _ (q : ℕ → Bool) (x : ℕ) where
  pub found_each : (P : ℕ → Type 0) (l : List ℕ) → find q l ≡ Some x → Each P l → P x × (q x ≡ true)
  unfolding find Each
  found_each P [] e h = absurd (none-ne-some x e)
  found_each P (y ∷ l) e h = by (q y) refl e (λ r. found_each P l r h.1)
    where
      by : (b : Bool) → q y ≡ b → cond b (Some y) (find q l) ≡ Some x → (find q l ≡ Some x → P x × (q x ≡ true)) → P x × (q x ≡ true)
      by true t e rec = let z = some-injective y x e in rw (← z) (h.0, t)
      by false t e rec = rec e

  pub found_lowest : (l : List ℕ) → EachPair ◌<◌ l → find q l ≡ Some x → Each (λ y. y < x → q y ≡ false) l
  unfolding find Each EachPair
  found_lowest [] r e = tt
  found_lowest (y ∷ l) r e = by (q y) refl e (found_lowest l r.1)
    where
      by : (b : Bool) → q y ≡ b → cond b (Some y) (find q l) ≡ Some x → (find q l ≡ Some x → Each (λ y. y < x → q y ≡ false) l) → (y < x → q y ≡ false) × Each (λ y. y < x → q y ≡ false) l
      by true t e rec =
          let z : y ≡ x = some-injective y x e in
          ((λ h. absurd (omega arith)), each_of l (λ u a h. absurd (omega arith)) r.0)
      by false t e rec = ((λ h. t), rec e)

pub find_append : (q : ℕ → Bool) (l m : List ℕ) → find q (l ++ m) ≡ or_else (find q l) (find q m)
unfolding find
find_append q [] m = refl
find_append q (y ∷ l) m = by (q y) (find_append q l m)
  where
    by : (b : Bool) → find q (l ++ m) ≡ or_else (find q l) (find q m) → cond b (Some y) (find q (l ++ m)) ≡ or_else (cond b (Some y) (find q l)) (find q m)
    by true h = refl
    by false h = h

-- A chain is broken at the first task whose factor is no multiple of the one before it.
pub break_exactly : (M : ℕ → ℕ) (d : ℕ) (l : List ℕ) (i : ℕ) → (chain_break M d l ≡ Some i) ↔ FirstBreak M d l i
unfolding chain_break Multiples last_factor
break_exactly M d l i = (to d l, λ b. ap (chain_break M d) b.split ∙ back d b.before b.after b.chain b.breaks)
  where
    to : (d : ℕ) (l : List ℕ) → chain_break M d l ≡ Some i → FirstBreak M d l i
    to d [] e = absurd (none-ne-some i e)
    to d (j ∷ l) e = by (eqb (M j % d) 0) refl e (to (M j) l)
      where
        by : (b : Bool) → eqb (M j % d) 0 ≡ b → cond b (chain_break M (M j) l) (Some j) ≡ Some i → (chain_break M (M j) l ≡ Some i → FirstBreak M (M j) l i) → FirstBreak M d (j ∷ l) i
        by true t e rec =
            let r = rec e in
            record { before = j ∷ r.before; after = r.after; split = ap (λ (t : List ℕ). j ∷ t) r.split; chain = (multiple_mod d (M j) (eqb-true _ _ t), r.chain); breaks = r.breaks }
        by false t e rec =
            let z = some-injective j i e in
            record { before = []; after = l; split = rw z; chain = tt; breaks = λ m. eqb-false (M j % d) 0 t (mod_multiple d (M j) (rw z m)) }

    back : (d : ℕ) (before after : List ℕ) → Multiples M d before → (Multiple (last_factor M d before) (M i) → ⊥) → chain_break M d (before ++ i ∷ after) ≡ Some i
    back d [] after c b = rw (ne_eqb (M i % d) 0 (λ z. b (multiple_mod d (M i) z)))
    back d (j ∷ before) after c b = rw (eq-eqb (M j % d) 0 (mod_multiple d (M j) c.0)) (back (M j) before after c.1 b)
