-- What the code's own steps write; no public contract speaks of it.
use Rattle.std.specs.Prelude.{ℕ, ◌+◌, ◌≤◌, ◌≡◌, List, ◌++◌, length, take, drop}

-- `out` becomes `new`: the text is written from place `at` on and nothing else, `after` is the place behind it, and there was room
pub record Put (out : List ℕ) (at : ℕ) (text new : List ℕ) (after : ℕ) : Type 0 where
  pub bytes : new ≡ take at out ++ (text ++ drop after out)
  pub next : after ≡ at + length text
  pub room : after ≤ length out

-- the same of a text of at most `most` bytes
pub record Capped (most : ℕ) (out : List ℕ) (at : ℕ) (text new : List ℕ) (after : ℕ) : Type 0 where
  pub put : Put out at text new after
  pub cap : after ≤ at + most

-- strokes of one tick for every task, in place of a sheet's own: no line reads them
abbrev pub one_tick : ℕ → ℕ
one_tick i = 1
