-- What a word of eight marks says of a core's tasks, at most 64. Past the last of them `nth` has no task, which is not pending.
-- Assumes nothing.
use Prim.Native.Nat.{ℕ, zero, suc, ◌+◌, ◌*◌, ◌≤◌, ◌<◌}
use mathlib.Core.Path.{◌≡◌, refl, sym, ap, subst, ◌∙◌}
use mathlib.Core.Logic.{◌↔◌}
use mathlib.Core.Bool.{true, false}
use mathlib.Core.List.{List, [], ◌∷◌, map}
use native.Mathlib.Decide.{dec_lt, ℕ_discrete}
use native.Mathlib.Omega.{arith}
use lib.ListN.{length, take, drop, get_or-map, get_or-eq_default}
use lib.Seq.{get_or-take, get_or-drop}
use lib.Arith.{lt_of_le-ne, digits_div, digits_mod}
use borrow.Author.Tests.{ltb-true, ltb-false, lt-ltb}
use Rattle.fit.specs.Lists.{at, place_of, Each}
use Rattle.fit.proofs.Finds.{place_within, place_passes, place_before}
use Rattle.fit.proofs.Lists.{at_padded}
use Rattle.timing.specs.declared.Task.{Task}
use Rattle.timing.specs.Tasks.{pending}
use Rattle.timing.specs.Serving.{no_task, nth}
use Rattle.marks.specs.Words.{mark, marked, marks_of, word_of, word_at, byte_of, lowest_mark, LowestFirst}
use Rattle.marks.proofs.Gathering.{mark_marked, shifted, lowest, none_word, word_some, eight, bytes, marks_bytes}

-- bytes of a word
byte_of_zero : (k : ℕ) → byte_of k 0 ≡ 0
unfolding byte_of
byte_of_zero zero = refl
byte_of_zero (suc k) = byte_of_zero k

byte_at : (l : List ℕ) → Each (λ b. b < 256) l → (k : ℕ) → byte_of k (word_of l) ≡ at l k
unfolding Each word_of byte_of
byte_at [] h k = byte_of_zero k
byte_at (m ∷ l) h zero = rw (shifted m (word_of l)) (digits_mod (word_of l) h.0)
byte_at (m ∷ l) h (suc k) = rw (shifted m (word_of l), digits_div (word_of l) h.0) (byte_at l h.1 k)

-- a mark by its task
set_pends : (t : Task) → marked (mark t) ≡ true → 0 < t.left
unfolding pending
set_pends t e = ltb-true 0 t.left (sym (mark_marked t) ∙ e)

pends_set : (t : Task) → 0 < t.left → mark t ≡ 1
unfolding mark pending
pends_set t h = rw (lt-ltb 0 t.left h)

clear_idles : (t : Task) → marked (mark t) ≡ false → t.left ≡ 0
unfolding pending
clear_idles t e = omega (arith, ltb-false 0 t.left (sym (mark_marked t) ∙ e))

module _ (s : List Task) (few : length s ≤ 64) (g : ℕ) (h : g < 8) where
  -- the marks of the word
  abbrev part : List ℕ
  part = take 8 (drop (8 * g) (marks_of s))

  eighth : length part ≡ 8
  eighth = eight (marks_of s) (marks_bytes s few) g h

  small : Each (λ x. x < 256) part
  small = bytes (marks_of s) (marks_bytes s few) g

  mark_at : (k : ℕ) → k < 8 → at part k ≡ mark (nth s (8 * g + k))
  unfolding marks_of mark pending
  mark_at k l = get_or-take 8 (drop (8 * g) (marks_of s)) k 0 l ∙ get_or-drop (8 * g) (marks_of s) k 0 ∙ at_padded (map mark s) (8 * g + k) ∙ get_or-map mark s (8 * g + k) no_task

  -- byte k of word g is the mark of the task at place 8g + k
  pub byte_is : (k : ℕ) → k < 8 → byte_of k (word_at (marks_of s) g) ≡ mark (nth s (8 * g + k))
  unfolding word_at
  byte_is k l = byte_at part small k ∙ mark_at k l

  -- so it is set exactly where the task there is one of the core's and pending
  pub byte_exactly : (k : ℕ) → k < 8 → (byte_of k (word_at (marks_of s) g) ≡ 1) ↔ ((8 * g + k < length s) × (0 < (nth s (8 * g + k)).left))
  unfolding marked
  byte_exactly k l = (λ e. (inside (dec_lt (8 * g + k) (length s)) (pends e), pends e), λ p. byte_is k l ∙ pends_set _ p.1)
    where
      pends : byte_of k (word_at (marks_of s) g) ≡ 1 → 0 < (nth s (8 * g + k)).left
      pends e = set_pends _ (ap marked (sym (byte_is k l) ∙ e))

      inside : Dec (8 * g + k < length s) → 0 < (nth s (8 * g + k)).left → 8 * g + k < length s
      inside (yes y) p = y
      inside (no y) p = absurd (omega (arith, p, ap (λ t. t.left) (get_or-eq_default s no_task {n = 8 * g + k} (omega (arith, y)))))

  -- the first mark of the word that is set
  first : place_of marked part < length part → LowestFirst s g (place_of marked part)
  first l = record {
    inside = omega (arith, eighth);
    pends = set_pends _ (ap marked (sym (mark_at (place_of marked part) (omega (arith, eighth)))) ∙ place_passes 0 marked part l);
    others = λ j k. clear_idles _ (ap marked (sym (mark_at j (omega (arith, eighth)))) ∙ place_before 0 marked part j k);
  }

  -- a word is zero exactly where none of its eight is pending
  pub zero_exactly : (word_at (marks_of s) g ≡ 0) ↔ ((k : ℕ) → k < 8 → (nth s (8 * g + k)).left ≡ 0)
  unfolding word_at marked
  zero_exactly = (λ e k l. clear_idles _ (ap marked (sym (byte_is k l) ∙ ap (byte_of k) e ∙ byte_of_zero k)), λ f. none_word part (go f (ℕ_discrete (place_of marked part) (length part))))
    where
      go : ((k : ℕ) → k < 8 → (nth s (8 * g + k)).left ≡ 0) → Dec (place_of marked part ≡ length part) → place_of marked part ≡ length part
      go f (yes y) = y
      go f (no y) =
          let l = first (lt_of_le-ne (place_within marked part) y) in
          absurd (omega (arith, l.pends, f (place_of marked part) l.inside))

  -- else its lowest mark is the first that is
  pub lowest_first : (word_at (marks_of s) g ≡ 0 → ⊥) → LowestFirst s g (lowest_mark (word_at (marks_of s) g))
  unfolding word_at
  lowest_first e =
      let low : lowest_mark (word_of part) ≡ place_of marked part = rw eighth at (lowest part small) in
      subst (LowestFirst s g) (sym low) (first (word_some part e))
