-- Laws of lists: a property of each of a list and of each pair, sums, and how often a number stands in a list.
-- Assumes nothing.
use Prim.Native.Nat.{ℕ, zero, suc, ◌+◌, ◌-◌, ◌≤◌, ◌<◌, zero-le, suc-le-suc}
use mathlib.Core.Path.{◌≡◌, refl, sym, ap, subst, ◌∙◌}
use mathlib.Core.Bool.{Bool, true, false, cond}
use mathlib.Core.List.{List, [], ◌∷◌, ◌++◌, append_assoc, append-nil}
use native.Mathlib.Nat.{zero-add, add-zero, add-sub_of_le}
use native.Mathlib.Numerals.{add-one}
use native.Mathlib.Omega.{arith}
use borrow.Author.Tests.{eqb-true}
use lib.ListN.{length, take, drop, get_or, replicate, length-append, length-take, length-drop, length-replicate}
use lib.Seq.{take_all}
use lib.Dec.{eqb}
use Rattle.fit.specs.Lists.{at, padded, numbers, joined, sum, select, occurs, Each, EachPair}

-- a part from a place on is what is left from there, and the first a of a list are a
pub part : (s : List ℕ) (a : ℕ) → take (length s - a) (drop a s) ≡ drop a s
part s a = take_all (length s - a) (drop a s) (simp length-drop (omega arith))

pub front_count : (l : List ℕ) (a : ℕ) → a ≤ length l → a ≡ length (take a l)
front_count l a h = simp length-take (omega arith)

-- an array of zeros has 0 everywhere
pub zeros : (n i : ℕ) → ◌≡◌ {A = ℕ} (get_or (replicate n 0) i 0) 0
zeros zero i = refl
zeros (suc n) zero = refl
zeros (suc n) (suc i) = zeros n i

-- zeros past a list change nothing that is read from it by place, and make it 64 long
pub at_padded : (l : List ℕ) (i : ℕ) → at (padded l) i ≡ at l i
unfolding padded
at_padded l i = past l (64 - length l) i
  where
    past : (l : List ℕ) (n i : ℕ) → at (l ++ replicate n 0) i ≡ at l i
    past [] n i = zeros n i
    past (x ∷ l) n zero = refl
    past (x ∷ l) n (suc i) = past l n i

pub padded_length : (l : List ℕ) → length l ≤ 64 → length (padded l) ≡ 64
unfolding padded
padded_length l h = simp (length-append, length-replicate) (add-sub_of_le h)

-- what follows for one from one property, or from two, follows for each of a list
pub each_of : {A : Type 0} {P Q : A → Type 0} (l : List A) → ((x : A) → P x → Q x) → Each P l → Each Q l
unfolding Each
each_of [] f h = tt
each_of (x ∷ l) f h = (f x h.0, each_of l f h.1)

pub each_both : {A : Type 0} {P Q R : A → Type 0} (l : List A) → ((x : A) → P x → Q x → R x) → Each P l → Each Q l → Each R l
unfolding Each
each_both [] f h k = tt
each_both (x ∷ l) f h k = (f x h.0 k.0, each_both l f h.1 k.1)

module _ {A : Type 0} (P : A → Type 0) where
  -- what holds for all
  pub each_all : (l : List A) → ((x : A) → P x) → Each P l
  unfolding Each
  each_all [] f = tt
  each_all (x ∷ l) f = (f x, each_all l f)

  -- both halves of a list, and back
  pub each_append : (xs ys : List A) → Each P xs → Each P ys → Each P (xs ++ ys)
  unfolding Each
  each_append [] ys h k = k
  each_append (x ∷ xs) ys h k = (h.0, each_append xs ys h.1 k)

  pub each_halves : (xs ys : List A) → Each P (xs ++ ys) → Each P xs × Each P ys
  unfolding Each
  each_halves [] ys h = (tt, h)
  each_halves (x ∷ xs) ys h = let r = each_halves xs ys h.1 in ((h.0, r.0), r.1)

  -- the first k of a list
  pub each_take : (k : ℕ) (l : List A) → Each P l → Each P (take k l)
  unfolding Each
  each_take zero l h = tt
  each_take (suc k) [] h = tt
  each_take (suc k) (x ∷ l) h = (h.0, each_take k l h.1)

  -- those of a list that pass a test
  pub each_select : (q : A → Bool) (l : List A) → Each P l → Each P (select q l)
  unfolding Each select
  each_select q [] h = tt
  each_select q (x ∷ l) h = by (q x) (each_select q l h.1)
    where
      by : (b : Bool) → Each P (select q l) → Each P (cond b (x ∷ select q l) (select q l))
      by true r = (h.0, r)
      by false r = r

  -- the one at a place
  pub each_at : (d : A) (l : List A) (i : ℕ) → i < length l → Each P l → P (get_or l i d)
  unfolding Each
  each_at d [] i q h = absurd (omega arith)
  each_at d (x ∷ l) zero q h = h.0
  each_at d (x ∷ l) (suc i) q h = each_at d l i (omega arith) h.1

  -- each is whatever stands between a front and a rest
  pub each_split : (l : List A) → ((xs : List A) (x : A) (ys : List A) → l ≡ xs ++ x ∷ ys → P x) → Each P l
  unfolding Each
  each_split [] f = tt
  each_split (x ∷ l) f = (f [] x l refl, each_split l (λ xs y ys e. f (x ∷ xs) y ys (ap (λ (t : List A). x ∷ t) e)))

  pub each_between : {l : List A} (xs : List A) (x : A) (ys : List A) → l ≡ xs ++ x ∷ ys → Each P l → P x
  unfolding Each
  each_between xs x ys e h = (each_halves xs (x ∷ ys) (subst (Each P) e h)).1.0

-- each that is selected passes, and where each passes all are selected
module _ {A : Type 0} (q : A → Bool) where
  pub selected_pass : (l : List A) → Each (λ x. q x ≡ true) (select q l)
  unfolding Each select
  selected_pass [] = tt
  selected_pass (x ∷ l) = by (q x) refl (selected_pass l)
    where
      by : (b : Bool) → q x ≡ b → Each (λ x. q x ≡ true) (select q l) → Each (λ x. q x ≡ true) (cond b (x ∷ select q l) (select q l))
      by true e r = (e, r)
      by false e r = r

  pub select_all : (l : List A) → Each (λ x. q x ≡ true) l → select q l ≡ l
  unfolding Each select
  select_all [] h = refl
  select_all (x ∷ l) h = rw h.0 (ap (λ (t : List A). x ∷ t) (select_all l h.1))

-- those of two lists that pass a test
pub select_append : (q : ℕ → Bool) (l m : List ℕ) → select q (l ++ m) ≡ select q l ++ select q m
unfolding select
select_append q [] m = refl
select_append q (x ∷ l) m = by (q x) (select_append q l m)
  where
    by : (b : Bool) → select q (l ++ m) ≡ select q l ++ select q m → cond b (x ∷ select q (l ++ m)) (select q (l ++ m)) ≡ cond b (x ∷ select q l) (select q l) ++ select q m
    by true e = ap (λ (t : List ℕ). x ∷ t) e
    by false e = e

-- what follows for two from their own properties and from a relation, or from two relations, follows for each pair
pub pairs_of : {A : Type 0} {P : A → Type 0} {R S : A → A → Type 0} (l : List A) → ((x y : A) → P x → P y → R x y → S x y) → Each P l → EachPair R l → EachPair S l
unfolding Each EachPair
pairs_of [] f p h = tt
pairs_of (x ∷ l) f p h = (each_both l (λ y a b. f x y p.0 a b) p.1 h.0, pairs_of l f p.1 h.1)

pub pairs_both : {A : Type 0} {R S U : A → A → Type 0} (l : List A) → ((x y : A) → R x y → S x y → U x y) → EachPair R l → EachPair S l → EachPair U l
unfolding EachPair
pairs_both [] f h k = tt
pairs_both (x ∷ l) f h k = (each_both l (f x) h.0 k.0, pairs_both l f h.1 k.1)

module _ {A : Type 0} (R : A → A → Type 0) where
  -- the first k of a list
  pub pairs_take : (k : ℕ) (l : List A) → EachPair R l → EachPair R (take k l)
  unfolding EachPair
  pairs_take zero l h = tt
  pairs_take (suc k) [] h = tt
  pairs_take (suc k) (x ∷ l) h = (each_take (R x) k l h.0, pairs_take k l h.1)

  -- two lists of which everything in the first stands in relation to everything in the second
  pub pairs_append : (xs ys : List A) → EachPair R xs → EachPair R ys → Each (λ x. Each (R x) ys) xs → EachPair R (xs ++ ys)
  unfolding Each EachPair
  pairs_append [] ys h k r = k
  pairs_append (x ∷ xs) ys h k r = (each_append (R x) xs ys h.0 r.0, pairs_append xs ys h.1 k r.1)

  -- whatever stands before an element is in relation to it
  pub pairs_before : (xs : List A) (y : A) (ys : List A) → EachPair R (xs ++ y ∷ ys) → Each (λ x. R x y) xs
  unfolding Each EachPair
  pairs_before [] y ys h = tt
  pairs_before (x ∷ xs) y ys h = ((each_halves (R x) xs (y ∷ ys) h.0).1.0, pairs_before xs y ys h.1)

-- the sum over two lists, and over those that pass a test
pub sum_append : (f : ℕ → ℕ) (xs ys : List ℕ) → sum f (xs ++ ys) ≡ sum f xs + sum f ys
unfolding sum
sum_append f [] ys = sym (zero-add _)
sum_append f (x ∷ xs) ys = omega (arith, sum_append f xs ys)

pub sum_select : (f : ℕ → ℕ) (q : ℕ → Bool) (l : List ℕ) → sum f (select q l) ≡ sum (λ i. cond (q i) (f i) 0) l
unfolding sum select
sum_select f q [] = refl
sum_select f q (i ∷ l) = by (q i) (sum_select f q l)
  where
    by : (b : Bool) → sum f (select q l) ≡ sum (λ i. cond (q i) (f i) 0) l → sum f (cond b (i ∷ select q l) (select q l)) ≡ cond b (f i) 0 + sum (λ i. cond (q i) (f i) 0) l
    by true h = ap (λ (s : ℕ). f i + s) h
    by false h = omega arith

-- lengths and occurrences are sums
pub length_sum : (l : List ℕ) → length l ≡ sum (λ i. 1) l
unfolding sum
length_sum [] = refl
length_sum (i ∷ l) = omega (arith, length_sum l)

pub occurs_sum : (x : ℕ) (l : List ℕ) → occurs x l ≡ sum (λ i. cond (eqb i x) 1 0) l
unfolding sum occurs
occurs_sum x [] = refl
occurs_sum x (i ∷ l) = by (eqb i x) (occurs_sum x l)
  where
    by : (b : Bool) → occurs x l ≡ sum (λ i. cond (eqb i x) 1 0) l → cond b (occurs x l + 1) (occurs x l) ≡ cond b 1 0 + sum (λ i. cond (eqb i x) 1 0) l
    by true h = omega arith
    by false h = omega arith

-- what holds for each holds for a number that stands in the list
pub each_occurs : (P : ℕ → Type 0) (x : ℕ) (l : List ℕ) → 1 ≤ occurs x l → Each P l → P x
unfolding Each occurs
each_occurs P x [] o h = absurd (omega arith)
each_occurs P x (i ∷ l) o h = by (eqb i x) refl o (λ q. each_occurs P x l q h.1)
  where
    by : (b : Bool) → eqb i x ≡ b → 1 ≤ cond b (occurs x l + 1) (occurs x l) → (1 ≤ occurs x l → P x) → P x
    by true e q r = rw (← eqb-true i x e) h.0
    by false e q r = r q

-- the numbers from a up, with the last apart
pub numbers_last : (a n : ℕ) → numbers a (suc n) ≡ numbers a n ++ (a + n) ∷ []
unfolding numbers
numbers_last a zero = rw (add-zero a)
numbers_last a (suc n) =
    let e : suc a + n ≡ a + suc n = omega arith in
    ap (λ (t : List ℕ). a ∷ t) (rw (← e) (numbers_last (suc a) n))

-- what holds of each of the n numbers from a up
pub each_number : (P : ℕ → Type 0) (a n : ℕ) → ((i : ℕ) → a ≤ i → i < a + n → P i) → Each P (numbers a n)
unfolding numbers Each
each_number P a zero h = tt
each_number P a (suc n) h = (h a (omega arith) (omega arith), each_number P (suc a) n (λ i b c. h i (omega arith) (omega arith)))

pub sum_numbers : (f : ℕ → ℕ) (a n : ℕ) → sum f (numbers a (suc n)) ≡ sum f (numbers a n) + f (a + n)
unfolding sum
sum_numbers f a n = rw (numbers_last a n) (omega (arith, sum_append f (numbers a n) ((a + n) ∷ [])))

-- how many numbers there are, and how many pass a test at most
pub numbers_length : (a n : ℕ) → length (numbers a n) ≡ n
unfolding numbers
numbers_length a zero = refl
numbers_length a (suc n) = ap suc (numbers_length (suc a) n)

pub select_length : (q : ℕ → Bool) (l : List ℕ) → length (select q l) ≤ length l
unfolding select
select_length q [] = zero-le
select_length q (i ∷ l) = by (q i) (select_length q l)
  where
    by : (b : Bool) → length (select q l) ≤ length l → length (cond b (i ∷ select q l) (select q l)) ≤ suc (length l)
    by true h = suc-le-suc h
    by false h = omega arith

-- lists one after the other: those of two lists, and of one number more
joined_append : (f : ℕ → List ℕ) (l m : List ℕ) → joined f (l ++ m) ≡ joined f l ++ joined f m
unfolding joined
joined_append f [] m = refl
joined_append f (i ∷ l) m = ap (λ (t : List ℕ). f i ++ t) (joined_append f l m) ∙ sym (append_assoc (f i) (joined f l) (joined f m))

pub joined_next : (f : ℕ → List ℕ) (i : ℕ) → joined f (numbers 0 (i + 1)) ≡ joined f (numbers 0 i) ++ f i
unfolding joined
joined_next f i = rw (add-one i, numbers_last 0 i, zero-add i) (joined_append f (numbers 0 i) (i ∷ []) ∙ rw (append-nil (f i)))
