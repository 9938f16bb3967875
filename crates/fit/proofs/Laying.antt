-- Bytes laid over the front of a buffer, one record after the other, and records of one size read back.
-- Assumes nothing.
use Prim.Native.Nat.{ℕ, zero, suc, ◌+◌, ◌-◌, ◌*◌, ◌≤◌, ◌<◌}
use mathlib.Core.Path.{◌≡◌, refl, sym, ap, ap₂, ◌∙◌}
use mathlib.Core.List.{List, [], ◌++◌, append_assoc, append-nil}
use native.Mathlib.Nat.{zero-add, mul-suc, mul-le-mul_left}
use native.Mathlib.Numerals.{add-one}
use native.Mathlib.Omega.{arith}
use lib.ListN.{length, take, drop, get_or, length-append, length-drop, drop_of_length-le, get_or-append}
use lib.Seq.{sets, sets-eq, drop-drop, take_at, drop_at, get_or-append-add}
use borrow.Rule.Slice.PartMut.{put_mid}
use Rattle.sheet.specs.Numbers.{word, long}
use Rattle.fit.specs.Lists.{numbers, joined, over}
use Rattle.fit.proofs.Lists.{part, joined_next}

-- stores from the front on
pub stores : (s l : List ℕ) → length s ≤ length l → sets l 0 s ≡ over s l
unfolding over
stores s l h = sets-eq s l 0 (rw (zero-add (length s)) h) ∙ rw (zero-add (length s))

pub length_over : (s l : List ℕ) → length s ≤ length l → length (over s l) ≡ length l
unfolding over
length_over s l h = simp (length-append, length-drop) (omega arith)

-- a part of a buffer, from the end of what is laid over it, comes back with more laid over it
pub over_next : (s t l xs ys : List ℕ) (a : ℕ) → length s ≡ a → a ≤ length l → xs ≡ over s l → ys ≡ over t (take (length xs - a) (drop a xs)) → put_mid a (length xs - a) xs ys ≡ over (s ++ t) l
unfolding over
over_next s t l xs ys a e room h q =
    rw (q, part xs a, past, append-nil, h, take_at s (drop (length s) l) a e, drop_at s (drop (length s) l) a e, drop-drop, length-append)
    (sym (append_assoc s t (drop (length s + length t) l)))
  where
    past : drop (length xs - a) (drop a xs) ≡ []
    past =
        let short : length (drop a xs) ≤ length xs - a = simp length-drop (omega arith) in
        drop_of_length-le (drop a xs) short

-- a header of 8 bytes, a part of a bytes and a last part, laid over a buffer one after the other
pub parts_written : (h t c out head ys zs : List ℕ) (a : ℕ) → length h ≡ 8 → length t ≡ a → 8 + a ≤ length out → head ≡ over h out → ys ≡ over t (take (length head - 8) (drop 8 head)) → zs ≡ over c (take (length (put_mid 8 (length head - 8) head ys) - (8 + a)) (drop (8 + a) (put_mid 8 (length head - 8) head ys))) → put_mid (8 + a) (length (put_mid 8 (length head - 8) head ys) - (8 + a)) (put_mid 8 (length head - 8) head ys) zs ≡ over (h ++ (t ++ c)) out
parts_written h t c out head ys zs a eh et room b d e =
    over_next (h ++ t) c out (put_mid 8 (length head - 8) head ys) zs (8 + a) (simp length-append (omega (arith, eh, et))) room
    (over_next h t out head ys 8 eh (omega arith) b d) e
    ∙ ap (λ (x : List ℕ). over x out) (append_assoc h t c)

-- records of one size w
module _ (f : ℕ → List ℕ) (w : ℕ) (same : (i : ℕ) → length (f i) ≡ w) where
  pub records_length : (a n : ℕ) → length (joined f (numbers a n)) ≡ w * n
  unfolding joined numbers
  records_length a zero = omega arith
  records_length a (suc n) = simp length-append (omega (arith, same a, records_length (suc a) n, mul-suc w n))

-- the first i records are laid over a part
pub record Laid (f : ℕ → List ℕ) (w : ℕ) (before : List ℕ) (i at : ℕ) (now : List ℕ) : Type 0 where
  pub place : at ≡ w * i
  pub size : length now ≡ length before
  pub bytes : now ≡ over (joined f (numbers 0 i)) before

pub lay_start : (f : ℕ → List ℕ) (w : ℕ) (l : List ℕ) → Laid f w l 0 0 l
unfolding over joined numbers
lay_start f w l = record { place = omega arith; size = refl; bytes = refl }

module _ (f : ℕ → List ℕ) (w : ℕ) (same : (i : ℕ) → length (f i) ≡ w) (n i at : ℕ) (l xs ys : List ℕ) (h : i < n) (room : w * n ≤ length l) (d : Laid f w l i at xs) where
  fits : w * i + w ≤ length xs
  fits = omega (arith, d.size, mul-le-mul_left w h, mul-suc w i)

  pub lay_turn : ys ≡ over (f i) (take (length xs - at) (drop at xs)) → Laid f w l (i + 1) (at + w) (put_mid at (length xs - at) xs ys)
  lay_turn q =
      let bytes : put_mid at (length xs - at) xs ys ≡ over (joined f (numbers 0 (i + 1))) l = over_next (joined f (numbers 0 i)) (f i) l xs ys at (records_length f w same 0 i ∙ sym d.place) (omega (arith, fits, d.place, d.size)) d.bytes q ∙ ap (λ (s : List ℕ). over s l) (sym (joined_next f i)) in
      record { place = omega (arith, d.place, mul-suc w i, add-one i); size = rw bytes (length_over (joined f (numbers 0 (i + 1))) l (omega (arith, fits, d.size, records_length f w same 0 (i + 1), mul-suc w i))); bytes = bytes }

pub lay_end : (f : ℕ → List ℕ) (w n i at : ℕ) (l xs : List ℕ) → i ≤ n → n ≤ i → Laid f w l i at xs → xs ≡ over (joined f (numbers 0 n)) l
lay_end f w n i at l xs a b d =
    let same : i ≡ n = omega arith in
    rw (← same) d.bytes

-- records that agree
pub records_ext : (f g : ℕ → List ℕ) (a n : ℕ) → ((i : ℕ) → a ≤ i → i < a + n → f i ≡ g i) → joined f (numbers a n) ≡ joined g (numbers a n)
unfolding joined numbers
records_ext f g a zero h = refl
records_ext f g a (suc n) h = rw (h a (omega arith) (omega arith), records_ext f g (suc a) n (λ i x y. h i (omega arith) (omega arith)))

-- record i of records of one size
module _ (f : ℕ → List ℕ) (w : ℕ) (same : (i : ℕ) → length (f i) ≡ w) (rest : List ℕ) where
  record_from : (a n i j : ℕ) → i < n → j < w → get_or (joined f (numbers a n) ++ rest) (w * i + j) 0 ≡ get_or (f (a + i)) j 0
  unfolding joined numbers
  record_from a zero i j h q = absurd (omega arith)
  record_from a (suc n) zero j h q =
      let z : w * 0 + j ≡ j = omega arith in
      let first : a + 0 ≡ a = omega arith in
      rw (append_assoc, z, first) (get_or-append (f a) (joined f (numbers (suc a) n) ++ rest) 0 j (omega (arith, same a)))
  record_from a (suc n) (suc i) j h q =
      let z : w * suc i + j ≡ length (f a) + (w * i + j) = omega (arith, mul-suc w i, same a) in
      let next : a + suc i ≡ suc a + i = omega arith in
      rw (append_assoc, z, next) (get_or-append-add (f a) (joined f (numbers (suc a) n) ++ rest) (w * i + j) 0 ∙ record_from (suc a) n i j (omega arith) q)

  module _ (n i : ℕ) (h : i < n) where
    pub record_at : (x j : ℕ) → x ≡ w * i + j → j < w → get_or (joined f (numbers 0 n) ++ rest) x 0 ≡ get_or (f i) j 0
    record_at x j e q =
        let z : 0 + i ≡ i = omega arith in
        rw e (rw z at (record_from 0 n i j h q))

    pub record_word : (x j : ℕ) → x ≡ w * i + j → j + 1 < w → word (joined f (numbers 0 n) ++ rest) x ≡ word (f i) j
    unfolding word
    record_word x j e q = ap₂ (λ s t. s + 256 * t) (record_at x j e (omega arith)) (record_at (x + 1) (j + 1) (omega arith) (omega arith))

    pub record_long : (x j : ℕ) → x ≡ w * i + j → j + 3 < w → long (joined f (numbers 0 n) ++ rest) x ≡ long (f i) j
    unfolding long
    record_long x j e q = ap₂ (λ s t. s + 65536 * t) (record_word x j e (omega arith)) (record_word (x + 2) (j + 2) (omega arith) (omega arith))
