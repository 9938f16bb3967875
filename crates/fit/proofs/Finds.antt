-- Searches from the front, step by step as the code goes.
-- Assumes nothing.
use Prim.Native.Nat.{ℕ, zero, suc, ◌+◌, ◌-◌, ◌≤◌, ◌<◌, zero-le, suc-le-suc}
use mathlib.Core.Path.{◌≡◌, refl, sym, ap, ◌∙◌}
use mathlib.Core.Bool.{Bool, true, false, cond}
use Rattle.std.specs.Prelude.{Option, None, Some}
use Rattle.sheet.proofs.Options.{some-ne-none, none-ne-some, some-injective}
use mathlib.Core.List.{List, [], ◌∷◌, ◌++◌, map}
use native.Mathlib.Nat.{sub-zero, zero-add, suc-add, add_assoc}
use native.Mathlib.Decide.{ℕ_discrete}
use native.Mathlib.Numerals.{add-one}
use native.Mathlib.Omega.{arith}
use lib.ListN.{length, take, drop, get_or, length-take, drop_of_length-le, take-append-drop}
use lib.Seq.{drop-cons, drop-drop, get_or-take}
use lib.Arith.{lt_of_le-ne}
use Rattle.fit.specs.Lists.{numbers, find, place_of, or_else, find_some}

-- nothing is found below i
pub record Left (q : ℕ → Bool) (n i : ℕ) : Type 0 where
  pub rest : find q (numbers 0 n) ≡ find q (numbers i (n - i))

-- what is left of the numbers below n, from i on
pub front : (n i : ℕ) → i < n → numbers i (n - i) ≡ i ∷ numbers (i + 1) (n - (i + 1))
unfolding numbers
front n i h =
    let e : n - i ≡ suc (n - (i + 1)) = omega arith in
    rw (e, add-one i)

pub find_start : (q : ℕ → Bool) (n : ℕ) → Left q n 0
find_start q n = record { rest = rw (sub-zero n) }

module _ (q : ℕ → Bool) (n i : ℕ) (r : Bool) (h : i < n) (l : Left q n i) (t : r ≡ q i) where
  pub find_hit : r ≡ true → Some i ≡ find q (numbers 0 n)
  unfolding find
  find_hit e = sym (l.rest ∙ rw (front n i h, ← t, e))

  pub find_turn : r ≡ false → Left q n (i + 1)
  unfolding find
  find_turn e = record { rest = l.rest ∙ rw (front n i h, ← t, e) }

pub find_end : (q : ℕ → Bool) (n i : ℕ) → n ≤ i → Left q n i → None ≡ find q (numbers 0 n)
unfolding find numbers
find_end q n i h l =
    let e : n - i ≡ 0 = omega arith in
    sym (l.rest ∙ rw e)

-- no answer is found exactly where there is none
pub find_some_none : (g : ℕ → Option ℕ) (a n : ℕ) → find_some g (numbers a n) ≡ None → (i : ℕ) → a ≤ i → i < a + n → g i ≡ None
unfolding find_some numbers
find_some_none g a zero e i h h' = absurd (omega arith)
find_some_none g a (suc n) e i h h' = by (g a) refl (ℕ_discrete i a) (find_some_none g (suc a) n)
  where
    by : (o : Option ℕ) → g a ≡ o → Dec (i ≡ a) → (find_some g (numbers (suc a) n) ≡ None → (j : ℕ) → suc a ≤ j → j < suc a + n → g j ≡ None) → g i ≡ None
    by (Some x) t d rec = absurd (some-ne-none x (rw t at e))
    by None t (yes z) rec = rw z t
    by None t (no z) rec = rec (rw t at e) i (lt_of_le-ne h (λ x. z (sym x))) (omega arith)

pub none_find_some : (g : ℕ → Option ℕ) (a n : ℕ) → ((i : ℕ) → a ≤ i → i < a + n → g i ≡ None) → find_some g (numbers a n) ≡ None
unfolding find_some numbers
none_find_some g a zero h = refl
none_find_some g a (suc n) h = rw (h a (omega arith) (omega arith)) (none_find_some g (suc a) n (λ i b c. h i (omega arith) (omega arith)))

-- so nothing is found exactly where nothing passes the test
abbrev pub as_answer : (q : ℕ → Bool) → ℕ → Option ℕ
as_answer q i = cond (q i) (Some i) None

pub find_answer : (q : ℕ → Bool) (l : List ℕ) → find q l ≡ find_some (as_answer q) l
unfolding find find_some
find_answer q [] = refl
find_answer q (i ∷ l) = by (q i) (find_answer q l)
  where
    by : (b : Bool) → find q l ≡ find_some (as_answer q) l → cond b (Some i) (find q l) ≡ or_else (cond b (Some i) None) (find_some (as_answer q) l)
    by true e = refl
    by false e = e

pub find_none : (q : ℕ → Bool) (a n : ℕ) → find q (numbers a n) ≡ None → (i : ℕ) → a ≤ i → i < a + n → q i ≡ false
find_none q a n e i h h' = by (q i) (find_some_none (as_answer q) a n (sym (find_answer q (numbers a n)) ∙ e) i h h')
  where
    by : (b : Bool) → ◌≡◌ {A = Option ℕ} (cond b (Some i) None) None → b ≡ false
    by true r = absurd (some-ne-none i r)
    by false r = refl

pub none_find : (q : ℕ → Bool) (a n : ℕ) → ((i : ℕ) → a ≤ i → i < a + n → q i ≡ false) → find q (numbers a n) ≡ None
none_find q a n h = find_answer q (numbers a n) ∙ none_find_some (as_answer q) a n (λ i b c. rw (h i b c))

-- what is found passes the test
pub find_some_lem : (q : ℕ → Bool) (a n i : ℕ) → find q (numbers a n) ≡ Some i → (i < a + n) × (q i ≡ true)
unfolding find numbers
find_some_lem q a zero i e = absurd (none-ne-some i e)
find_some_lem q a (suc n) i e = by (q a) refl (find_some_lem q (suc a) n i)
  where
    by : (b : Bool) → q a ≡ b → (find q (numbers (suc a) n) ≡ Some i → (i < suc a + n) × (q i ≡ true)) → (i < a + suc n) × (q i ≡ true)
    by true t rec =
        let z : a ≡ i = some-injective a i (rw t at e) in
        (omega arith, rw (← z) t)
    by false t rec =
        let w = rec (rw t at e) in
        (omega (arith, w.0), w.1)

-- what is found from a up is not below a, and nothing before it passes
pub found_first : (q : ℕ → Bool) (a n i : ℕ) → find q (numbers a n) ≡ Some i → (a ≤ i) × ((y : ℕ) → a ≤ y → y < i → q y ≡ false)
unfolding find numbers
found_first q a zero i e = absurd (none-ne-some i e)
found_first q a (suc n) i e = by (q a) refl e (found_first q (suc a) n i)
  where
    by : (b : Bool) → q a ≡ b → cond b (Some a) (find q (numbers (suc a) n)) ≡ Some i → (find q (numbers (suc a) n) ≡ Some i → (suc a ≤ i) × ((y : ℕ) → suc a ≤ y → y < i → q y ≡ false)) → (a ≤ i) × ((y : ℕ) → a ≤ y → y < i → q y ≡ false)
    by true t f rec =
        let z : a ≡ i = some-injective a i f in
        (omega arith, λ y b c. absurd (omega arith))
    by false t f rec =
        let r = rec f in
        (omega (arith, r.0), λ y b c. at y (ℕ_discrete y a) b c r.1)
      where
        at : (y : ℕ) → Dec (y ≡ a) → a ≤ y → y < i → ((y : ℕ) → suc a ≤ y → y < i → q y ≡ false) → q y ≡ false
        at y (yes z) b c r = rw z t
        at y (no z) b c r = r y (lt_of_le-ne b (λ w. z (sym w))) c

-- the first number that passes is found
pub find_first : (q : ℕ → Bool) (a n i : ℕ) → a ≤ i → i < a + n → q i ≡ true → ((s : ℕ) → a ≤ s → s < i → q s ≡ false) → find q (numbers a n) ≡ Some i
unfolding find numbers
find_first q a zero i h k e f = absurd (omega arith)
find_first q a (suc n) i h k e f = by (ℕ_discrete a i) (find_first q (suc a) n i)
  where
    by : Dec (a ≡ i) → (suc a ≤ i → i < suc a + n → q i ≡ true → ((s : ℕ) → suc a ≤ s → s < i → q s ≡ false) → find q (numbers (suc a) n) ≡ Some i) → find q (numbers a (suc n)) ≡ Some i
    by (yes z) rec = rw (z, e)
    by (no z) rec =
        let less : a < i = lt_of_le-ne h z in
        rw (f a (omega arith) less) (rec (omega arith) (omega arith) e (λ s b c. f s (omega arith) c))

-- the search for the place of the first that passes: the first i do not
pub record Searched {A : Type 0} (q : A → Bool) (i : ℕ) (l : List A) : Type 0 where
  pub place : place_of q l ≡ i + place_of q (drop i l)

pub place_start : {A : Type 0} (q : A → Bool) (l : List A) → Searched q 0 l
place_start q l = record { place = sym (zero-add _) }

module _ {A : Type 0} (d : A) (q : A → Bool) (i count : ℕ) (l : List A) (room : count ≤ length l) (h : i < count) (b : Searched q i (take count l)) where
  -- what is left of the first `count` of the list from i on
  rest : drop i (take count l) ≡ get_or l i d ∷ drop (suc i) (take count l)
  rest = drop-cons (take count l) i d (simp length-take (omega arith)) ∙ rw (get_or-take count l i d h)

  pub place_hit : q (get_or l i d) ≡ true → i ≡ place_of q (take count l)
  unfolding place_of
  place_hit e =
      let z : place_of q (drop i (take count l)) ≡ 0 = rw (rest, e) in
      omega (arith, b.place)

  pub place_turn : q (get_or l i d) ≡ false → Searched q (i + 1) (take count l)
  unfolding place_of
  place_turn e =
      let z : place_of q (drop i (take count l)) ≡ suc (place_of q (drop (suc i) (take count l))) = rw (rest, e) in
      record { place = rw (add-one i) (omega (arith, b.place, z)) }

pub place_end : {A : Type 0} (q : A → Bool) (i count : ℕ) (l : List A) → count ≤ i → Searched q i (take count l) → i ≡ place_of q (take count l)
unfolding place_of
place_end q i count l h b =
    let e : drop i (take count l) ≡ [] = drop_of_length-le (take count l) {i = i} (simp length-take (omega arith)) in
    let z : place_of q (drop i (take count l)) ≡ 0 = rw e in
    omega (arith, b.place)

pub place_within : {A : Type 0} (q : A → Bool) (l : List A) → place_of q l ≤ length l
unfolding place_of
place_within q [] = zero-le
place_within q (x ∷ l) = by (q x) (place_within q l)
  where
    by : (b : Bool) → place_of q l ≤ length l → cond b 0 (suc (place_of q l)) ≤ suc (length l)
    by true h = zero-le
    by false h = suc-le-suc h

-- what is found passes, and nothing before it does
pub place_passes : {A : Type 0} (d : A) (q : A → Bool) (l : List A) → place_of q l < length l → q (get_or l (place_of q l) d) ≡ true
unfolding place_of
place_passes d q [] h = absurd (omega arith)
place_passes d q (x ∷ l) h = by (q x) refl h (place_passes d q l)
  where
    by : (b : Bool) → q x ≡ b → cond b 0 (suc (place_of q l)) < suc (length l) → (place_of q l < length l → q (get_or l (place_of q l) d) ≡ true) → q (get_or (x ∷ l) (cond b 0 (suc (place_of q l))) d) ≡ true
    by true e k f = e
    by false e k f = f (omega arith)

pub place_before : {A : Type 0} (d : A) (q : A → Bool) (l : List A) (i : ℕ) → i < place_of q l → q (get_or l i d) ≡ false
unfolding place_of
place_before d q [] i h = absurd (omega arith)
place_before d q (x ∷ l) i h = by (q x) refl i h (place_before d q l)
  where
    by : (b : Bool) → q x ≡ b → (i : ℕ) → i < cond b 0 (suc (place_of q l)) → ((i : ℕ) → i < place_of q l → q (get_or l i d) ≡ false) → q (get_or (x ∷ l) i d) ≡ false
    by true e i k f = absurd (omega arith)
    by false e zero k f = e
    by false e (suc i) k f = f i (omega arith)

-- a list and another behind it: what is found in the first, and else in the second
module _ {A : Type 0} (q : A → Bool) where
  pub place_front : (l r : List A) → place_of q l < length l → place_of q (l ++ r) ≡ place_of q l
  unfolding place_of
  place_front [] r h = absurd (omega arith)
  place_front (x ∷ l) r h = by (q x) h (place_front l r)
    where
      by : (b : Bool) → cond b 0 (suc (place_of q l)) < suc (length l) → (place_of q l < length l → place_of q (l ++ r) ≡ place_of q l) → cond b 0 (suc (place_of q (l ++ r))) ≡ cond b 0 (suc (place_of q l))
      by true k f = refl
      by false k f = ap suc (f (omega arith))

  pub place_behind : (l r : List A) → place_of q l ≡ length l → place_of q (l ++ r) ≡ length l + place_of q r
  unfolding place_of
  place_behind [] r h = sym (zero-add _)
  place_behind (x ∷ l) r h = by (q x) h (place_behind l r)
    where
      by : (b : Bool) → cond b 0 (suc (place_of q l)) ≡ suc (length l) → (place_of q l ≡ length l → place_of q (l ++ r) ≡ length l + place_of q r) → cond b 0 (suc (place_of q (l ++ r))) ≡ suc (length l) + place_of q r
      by true k f = absurd (omega arith)
      by false k f = ap suc (f (omega arith)) ∙ sym (suc-add (length l) (place_of q r))

  -- the search goes on by groups of n: one that has none is passed over, else the first of it is found
  module _ (n i : ℕ) (l : List A) (b : Searched q i l) where
    pub group_hit : place_of q (take n (drop i l)) < length (take n (drop i l)) → i + place_of q (take n (drop i l)) ≡ place_of q l
    group_hit h = sym (b.place ∙ ap (λ x. i + place_of q x) (sym (take-append-drop n (drop i l))) ∙ ap (λ x. i + x) (place_front (take n (drop i l)) (drop n (drop i l)) h))

    pub group_turn : length (take n (drop i l)) ≡ n → place_of q (take n (drop i l)) ≡ n → Searched q (i + n) l
    group_turn e h = record {
      place =
          b.place ∙ ap (λ x. i + place_of q x) (sym (take-append-drop n (drop i l)))
          ∙ ap (λ x. i + x) (place_behind (take n (drop i l)) (drop n (drop i l)) (h ∙ sym e))
          ∙ rw (e, drop-drop) (sym (add_assoc i n _));
    }

-- the place of the first whose image passes
pub place_map : {A B : Type 0} (f : A → B) (q : B → Bool) (p : A → Bool) → ((x : A) → q (f x) ≡ p x) → (l : List A) → place_of q (map f l) ≡ place_of p l
unfolding place_of
place_map f q p h [] = refl
place_map f q p h (x ∷ l) = rw (h x, place_map f q p h l)
