-- Words of eight marks, and the search from word to word as the code goes.
-- Assumes nothing.
use Prim.Native.Nat.{ℕ, zero, suc, ◌+◌, ◌-◌, ◌*◌, ◌/◌, ◌%◌, ◌^◌, ◌≤◌, ◌<◌, min}
use mathlib.Core.Path.{◌≡◌, refl, sym, ap, ◌∙◌}
use mathlib.Core.Bool.{Bool, true, false, cond}
use mathlib.Core.List.{List, [], ◌∷◌, map}
use native.Mathlib.Nat.{suc-add, zero-add, mul-one, pow-suc, div-add-mod'}
use native.Mathlib.Decide.{ℕ_discrete}
use native.Mathlib.Omega.{arith}
use lib.ListN.{length, get_or, take, drop, replicate, length-drop, length-map, take-append-drop}
use lib.Seq.{length-take-le, take_at, take-take, drop-drop}
use lib.Dec.{ltb}
use lib.Arith.{lt_of_le-ne}
use lib.Bits.{shifted_half, shifted_even, block_half, block_odd}
use lib.Count.{count_trailing_zeros, under}
use mir.Syntax.{w64}
use borrow.Author.Tests.{ltb-true, ltb-false, le-ltb}
use Rattle.std.specs.Int.{div_ceil, from_le_bytes}
use Rattle.std.specs.Simd.{first_chunks}
use Rattle.fit.specs.Lists.{at, padded, place_of, Each}
use Rattle.fit.proofs.Finds.{Searched, place_within, group_hit, group_turn, place_map}
use Rattle.fit.proofs.Lists.{each_append, each_take, each_halves, padded_length}
use Rattle.timing.specs.declared.Task.{Task}
use Rattle.timing.specs.Tasks.{pending}
use Rattle.marks.specs.Words.{mark, marked, marks_of, word_of, word_at, lowest_mark}

-- zeros below the lowest set bit: j of them and those of r where r is shifted by j, and fewer where a number below 2 ^ j is added
zeros_high : (j d r : ℕ) → count_trailing_zeros (j + d) (r * 2 ^ j) ≡ j + count_trailing_zeros d r
unfolding count_trailing_zeros
zeros_high zero d r = rw (zero-add d, mul-one r) (sym (zero-add _))
zeros_high (suc j) d r = rw (suc-add j d, shifted_even r j, shifted_half r j) (ap suc (zeros_high j d r) ∙ sym (suc-add j _))

zeros_low : (j d b r : ℕ) → 0 < b → b < 2 ^ j → count_trailing_zeros (j + d) (r * 2 ^ j + b) < j
unfolding count_trailing_zeros
zeros_low zero d b r p h = absurd (omega arith)
zeros_low (suc j) d b r p h = rw (suc-add j d, block_odd r j b, block_half r j b) (go (b % 2) refl (zeros_low j d (b / 2) r))
  where
    go : (x : ℕ) → b % 2 ≡ x → (0 < b / 2 → b / 2 < 2 ^ j → count_trailing_zeros (j + d) (r * 2 ^ j + b / 2) < j) → under x (count_trailing_zeros (j + d) (r * 2 ^ j + b / 2)) < suc j
    go zero e rec =
        let small : b < 2 ^ j * 2 = rw pow-suc at h in
        omega (arith, rec (omega (arith, div-add-mod' b 2)) (omega (arith, div-add-mod' b 2, small)))
    go (suc x) e rec = omega arith

-- a byte below the rest of a word
pub shifted : (m w : ℕ) → m + 256 * w ≡ w * 256 + m
shifted m w = omega arith

-- the lowest byte that is not 0
pub lowest : (l : List ℕ) → Each (λ b. b < 256) l → count_trailing_zeros (8 * length l) (word_of l) / 8 ≡ place_of marked l
unfolding Each word_of place_of marked count_trailing_zeros
lowest [] h = refl
lowest (m ∷ l) h = rw (wide, shifted m (word_of l)) (go (ltb 0 m) refl (lowest l h.1))
  where
    wide : 8 * suc (length l) ≡ 8 + 8 * length l
    wide = omega arith

    go : (b : Bool) → ltb 0 m ≡ b → count_trailing_zeros (8 * length l) (word_of l) / 8 ≡ place_of marked l → count_trailing_zeros (8 + 8 * length l) (word_of l * 2 ^ 8 + m) / 8 ≡ cond b 0 (suc (place_of marked l))
    go true e r = omega (arith, zeros_low 8 (8 * length l) m (word_of l) (ltb-true 0 m e) h.0)
    go false e r =
        let z : word_of l * 2 ^ 8 + m ≡ word_of l * 2 ^ 8 = omega (arith, ltb-false 0 m e) in
        omega (arith, ap (count_trailing_zeros (8 + 8 * length l)) z, zeros_high 8 (8 * length l) (word_of l), r)

-- a word is zero exactly where no byte is set
word_none : (l : List ℕ) → word_of l ≡ 0 → place_of marked l ≡ length l
unfolding word_of place_of marked
word_none [] e = refl
word_none (m ∷ l) e = rw (le-ltb 0 m (omega (arith, e))) (ap suc (word_none l (omega (arith, e))))

pub none_word : (l : List ℕ) → place_of marked l ≡ length l → word_of l ≡ 0
unfolding word_of place_of marked
none_word [] e = refl
none_word (m ∷ l) e = go (ltb 0 m) refl e (none_word l)
  where
    go : (b : Bool) → ltb 0 m ≡ b → cond b 0 (suc (place_of marked l)) ≡ suc (length l) → (place_of marked l ≡ length l → word_of l ≡ 0) → m + 256 * word_of l ≡ 0
    go true x y r = absurd (omega (arith, y))
    go false x y r = omega (arith, ltb-false 0 m x, r (omega (arith, y)))

pub word_some : (l : List ℕ) → (word_of l ≡ 0 → ⊥) → place_of marked l < length l
word_some l h = go (ℕ_discrete (place_of marked l) (length l))
  where
    go : Dec (place_of marked l ≡ length l) → place_of marked l < length l
    go (yes y) = absurd (h (none_word l y))
    go (no y) = lt_of_le-ne (place_within marked l) y

no_bytes : (n : ℕ) → word_of (take n []) ≡ 0
unfolding word_of
no_bytes zero = refl
no_bytes (suc n) = refl

-- the word of eight places as the code reads it
low_byte : (m : List ℕ) (n a : ℕ) → word_of (take (suc n) (drop a m)) ≡ at m a + 256 * word_of (take n (drop (suc a) m))
unfolding word_of
low_byte [] n zero = rw (no_bytes n)
low_byte [] n (suc a) = rw (no_bytes n)
low_byte (x ∷ m) n zero = refl
low_byte (x ∷ m) n (suc a) = low_byte m n a

read_word : (l : List ℕ) → from_le_bytes w64 l ≡ word_of (take 8 l)
unfolding word_of
read_word l = omega (arith, low_byte l 7 0, low_byte l 6 1, low_byte l 5 2, low_byte l 4 3, low_byte l 3 4, low_byte l 2 5, low_byte l 1 6, low_byte l 0 7)

group_at : (n g : ℕ) (m : List ℕ) → g < n → get_or (first_chunks 8 n m) g [] ≡ take 8 (drop (8 * g) m)
group_at zero g m h = absurd (omega arith)
group_at (suc n) zero m h = refl
group_at (suc n) (suc g) m h =
    let next : 8 * suc g ≡ 8 + 8 * g = omega arith in
    rw (next, ← drop-drop (8 * g) 8 m) (group_at n g (drop 8 m) (omega arith))

pub gathered_is : (m : List ℕ) (g : ℕ) (gs : List (List ℕ)) (r : ℕ) → length m ≡ 64 → g < 8 → gs ≡ first_chunks 8 (length m / 8) m → r ≡ from_le_bytes w64 (get_or gs g []) → r ≡ word_at m g
unfolding word_at
gathered_is m g gs r k h e f =
    let group : get_or gs g [] ≡ take 8 (drop (8 * g) m) = ap (λ l. get_or l g []) e ∙ group_at (length m / 8) g m (omega (arith, k)) in
    f ∙ read_word (get_or gs g []) ∙ ap (λ l. word_of (take 8 l)) group ∙ ap word_of (take-take 8 8 (drop (8 * g) m) (omega arith))

-- a search in the front of a list
place_take : (q : ℕ → Bool) (n : ℕ) (l : List ℕ) → place_of q (take n l) ≡ min (place_of q l) n
unfolding place_of
place_take q zero l = omega arith
place_take q (suc n) [] = omega arith
place_take q (suc n) (x ∷ l) = go (q x) (place_take q n l)
  where
    go : (b : Bool) → place_of q (take n l) ≡ min (place_of q l) n → cond b 0 (suc (place_of q (take n l))) ≡ min (cond b 0 (suc (place_of q l))) (suc n)
    go true e = omega arith
    go false e = omega (arith, e)

-- words of 64 bytes
pub record Bytes (m : List ℕ) : Type 0 where
  pub places : length m ≡ 64
  pub small : Each (λ x. x < 256) m

module _ (m : List ℕ) (k : Bytes m) where
  pub eight : (g : ℕ) → g < 8 → length (take 8 (drop (8 * g) m)) ≡ 8
  eight g h = length-take-le 8 (drop (8 * g) m) (simp length-drop (omega (arith, k.places)))

  pub bytes : (g : ℕ) → Each (λ x. x < 256) (take 8 (drop (8 * g) m))
  bytes g = each_take (λ x. x < 256) 8 (drop (8 * g) m) (each_halves (λ x. x < 256) (take (8 * g) m) (drop (8 * g) m) (rw take-append-drop k.small)).1

each_byte : (l : List ℕ) → ((i : ℕ) → at l i < 256) → Each (λ x. x < 256) l
unfolding Each
each_byte [] h = tt
each_byte (x ∷ l) h = (h 0, each_byte l (λ i. h (suc i)))

-- the search among the first of 64 bytes, word by word
module _ (m : List ℕ) (count most : ℕ) (places : length m ≡ 64) (cut : most ≡ min count 64) where
  pub sought_end : (g : ℕ) → div_ceil most 8 ≤ g → Searched marked (8 * g) m → most ≡ place_of marked (take count m)
  sought_end g h b = omega (arith, cut, b.place, places, place_take marked count m, place_within marked m)

  module _ (g w : ℕ) (h : g < div_ceil most 8) (b : Searched marked (8 * g) m) (small : (i : ℕ) → at m i < 256) (e : w ≡ word_at m g) where
    k : Bytes m
    k = record { places = places; small = each_byte m small }

    -- a word that is zero is passed over
    pub sought_turn : w ≡ 0 → Searched marked (8 * (g + 1)) m
    unfolding word_at
    sought_turn z =
        let eighth : length (take 8 (drop (8 * g) m)) ≡ 8 = eight m k g (omega (arith, cut)) in
        let next : 8 * (g + 1) ≡ 8 * g + 8 = omega arith in
        rw next (group_turn marked 8 (8 * g) m b eighth (word_none _ (sym e ∙ z) ∙ eighth))

    -- else its lowest mark is the first
    pub sought_hit : (r : ℕ) → (w ≡ 0 → ⊥) → r ≡ min (8 * g + lowest_mark w) most → r ≡ place_of marked (take count m)
    unfolding word_at
    sought_hit r z y =
        let part : List ℕ = take 8 (drop (8 * g) m) in
        let eighth : length part ≡ 8 = eight m k g (omega (arith, cut)) in
        let some : place_of marked part < length part = word_some part (λ y. z (e ∙ y)) in
        let low : lowest_mark w ≡ place_of marked part = rw e (rw eighth at (lowest part (bytes m k g))) in
        let hit : 8 * g + place_of marked part ≡ place_of marked m = group_hit marked 8 (8 * g) m b some in
        omega (arith, cut, y, low, hit, some, eighth, place_take marked count m)

-- the marks of a core's tasks are 64 bytes, and the first that is set is that of the first pending task
mark_small : (t : Task) → mark t < 256
unfolding mark
mark_small t = go (pending t)
  where
    go : (b : Bool) → cond b 1 0 < 256
    go true = omega arith
    go false = omega arith

pub mark_marked : (t : Task) → marked (mark t) ≡ pending t
unfolding mark marked
mark_marked t = go (pending t)
  where
    go : (b : Bool) → ltb 0 (cond b 1 0) ≡ b
    go true = refl
    go false = refl

module _ (s : List Task) where
  pub marks_bytes : length s ≤ 64 → Bytes (marks_of s)
  unfolding marks_of padded Each
  marks_bytes few = record { places = padded_length (map mark s) (simp length-map few); small = each_append (λ x. x < 256) (map mark s) _ (each_mark s) (each_zero (64 - length (map mark s))) }
    where
      each_mark : (l : List Task) → Each (λ x. x < 256) (map mark l)
      each_mark [] = tt
      each_mark (t ∷ l) = (mark_small t, each_mark l)

      each_zero : (n : ℕ) → Each (λ x. x < 256) (replicate n 0)
      each_zero zero = tt
      each_zero (suc n) = (omega arith, each_zero n)

  pub marks_place : (count : ℕ) → length s ≡ count → place_of marked (take count (marks_of s)) ≡ place_of pending s
  unfolding marks_of padded
  marks_place count many = ap (place_of marked) (take_at (map mark s) _ count (length-map s mark ∙ many)) ∙ place_map mark marked pending mark_marked s
