-- The text byte by byte, as the code reads it.
-- Assumes nothing.
use Rattle.std.proofs.Common.{◌≡◌, refl, sym, ◌∙◌, ℕ, ◌+◌, ◌≤◌, ◌<◌, List, length, drop, get_or, arith, add-one, drop-cons}
use Rattle.std.specs.Prelude.{Result, Ok, Err}
use borrow.Author.Tests.{lt-ltb, le-ltb}
use lib.ListN.{drop_of_length-le}
use Rattle.jobtext.specs.declared.State.{State}
use Rattle.jobtext.specs.declared.WrongLine.{WrongLine}
use Rattle.jobtext.specs.Text.{count, start_state, line_end, step, run, finish, line_from, line_of}

-- the whole text: what is left from place i on
pub record Reading (room : ℕ) (text : List ℕ) (s : State) (i : ℕ) : Type 0 where
  pub rest : run room start_state text ≡ run room s (drop i text)
  pub number : s.number ≤ i + 1
  pub counted : count s ≤ room

module _ (room : ℕ) (text : List ℕ) (s : State) (i : ℕ) (g : Reading room text s i) where
  pub read_turn : (t : State) → i < length text → step room s (get_or text i 0) ≡ Ok t → t.number ≤ s.number + 1 → (count s ≤ room → count t ≤ room) → Reading room text t (i + 1)
  unfolding run
  read_turn t h e n c = record { rest = g.rest ∙ rw (drop-cons text i 0 h, e, add-one i); number = omega (arith, g.number); counted = c g.counted }

  pub read_wrong : (w : WrongLine) → i < length text → step room s (get_or text i 0) ≡ Err w → Err w ≡ finish room text
  unfolding run finish
  read_wrong w h e = rw (g.rest, drop-cons text i 0 h, e)

  pub read_end : (r : Result State WrongLine) → length text ≤ i → line_end room s ≡ r → r ≡ finish room text
  unfolding finish run
  read_end r h e = rw (g.rest, drop_of_length-le text {i = i} h) (sym e)

-- the line of job k: what is left from place i on
pub record Seeking (k : ℕ) (text : List ℕ) (s : State) (i : ℕ) : Type 0 where
  pub rest : line_of k text ≡ line_from 64 k s (drop i text)
  pub number : s.number ≤ i + 1
  pub counted : count s ≤ 64

pub seek_start : (k : ℕ) (text : List ℕ) (s : State) → s ≡ start_state → Seeking k text s 0
unfolding line_of
seek_start k text s e = rw e (record { rest = refl; number = omega arith; counted = omega arith })

module _ (k : ℕ) (text : List ℕ) (s : State) (i : ℕ) (g : Seeking k text s i) where
  pub seek_end : length text ≤ i → s.number ≡ line_of k text
  unfolding line_from
  seek_end h = sym (g.rest ∙ rw (drop_of_length-le text {i = i} h))

  pub seek_wrong : (w : WrongLine) → i < length text → step 64 s (get_or text i 0) ≡ Err w → w.line ≡ line_of k text
  unfolding line_from
  seek_wrong w h e = rw (g.rest, drop-cons text i 0 h, e)

  module _ (t : State) (h : i < length text) (e : step 64 s (get_or text i 0) ≡ Ok t) where
    pub seek_found : k < count t → s.number ≡ line_of k text
    unfolding line_from
    seek_found q = rw (g.rest, drop-cons text i 0 h, e, lt-ltb k (count t) q)

    pub seek_turn : count t ≤ k → t.number ≤ s.number + 1 → (count s ≤ 64 → count t ≤ 64) → Seeking k text t (i + 1)
    unfolding line_from
    seek_turn q n c = record { rest = g.rest ∙ rw (drop-cons text i 0 h, e, le-ltb k (count t) q, add-one i); number = omega (arith, g.number); counted = c g.counted }
