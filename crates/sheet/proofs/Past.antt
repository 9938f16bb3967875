-- What a reader finds in the bytes from a place on. Past their end it reads 0.
-- Assumes nothing.
use Prim.Native.Nat.{ℕ, ◌+◌, ◌-◌, ◌*◌, ◌<◌, ◌≤◌}
use mathlib.Core.Path.{◌≡◌, sym, ap, ◌∙◌}
use mathlib.Core.List.{List}
use native.Mathlib.Nat.{add-zero}
use native.Mathlib.Omega.{arith}
use lib.ListN.{length, take, drop, get_or, get_or-eq_default, length-drop}
use lib.Seq.{get_or-drop, take_all}
use Rattle.sheet.specs.Numbers.{word, long}

pub past : (s : List ℕ) (i : ℕ) → length s ≤ i → 0 ≡ get_or s i 0
past s i h = sym (get_or-eq_default s 0 h)

pub past_word : (s : List ℕ) (i : ℕ) → length s ≤ i → 0 ≡ word s i
unfolding word
past_word s i h = omega (arith, past s i h, past s (i + 1) (omega arith))

pub past_long : (s : List ℕ) (i : ℕ) → length s ≤ i → 0 ≡ long s i
unfolding long
past_long s i h = omega (arith, past_word s i h, past_word s (i + 2) (omega arith))

-- the bytes from a place on
module _ (s : List ℕ) (i r : ℕ) where
  abbrev rest : List ℕ
  rest = take (length s - i) (drop i s)

  word_rest : (o : ℕ) → word rest o ≡ word s (i + o)
  unfolding word
  word_rest o =
      let next : i + (o + 1) ≡ i + o + 1 = omega arith in
      rw (take_all (length s - i) (drop i s) (simp length-drop (omega arith)), get_or-drop i s o 0, get_or-drop i s (o + 1) 0, next)

  -- two bytes and four, low byte first
  pub word_after : r ≡ get_or rest 0 0 + get_or rest 1 0 * 256 → r ≡ word s i
  unfolding word
  word_after e = let h = word_rest 0 ∙ ap (word s) (add-zero i) in e ∙ omega (arith, h)

  pub word_last : length rest < 2 → r ≡ get_or rest 0 0 → r ≡ word s i
  word_last h e = word_after (omega (arith, past rest 1 (omega arith)))

  pub long_words : r ≡ word rest 0 + 65536 * word rest 2 → r ≡ long s i
  unfolding long
  long_words e = e ∙ rw (word_rest 0, word_rest 2) (ap (λ x. word s x + 65536 * word s (i + 2)) (add-zero i))

  pub long_after : r ≡ get_or rest 0 0 + get_or rest 1 0 * 256 + get_or rest 2 0 * 65536 + get_or rest 3 0 * 16777216 → r ≡ long s i
  unfolding word
  long_after e = long_words (omega arith)
