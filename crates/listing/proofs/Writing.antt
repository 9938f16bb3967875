-- Texts written one after another into a buffer.
-- Assumes nothing.
use Prim.Native.Nat.{ℕ, ◌+◌, ◌-◌, ◌≤◌, ◌<◌}
use mathlib.Core.Path.{◌≡◌, refl, sym, ap, ◌∙◌}
use mathlib.Core.List.{List, [], ◌∷◌, ◌++◌, append_assoc}
use native.Mathlib.Nat.{add-zero}
use native.Mathlib.Numerals.{add-one}
use native.Mathlib.Omega.{arith}
use lib.ListN.{length, take, drop, set, length-append, length-take, length-drop, take-append-drop}
use lib.Seq.{drop-drop, take_at, drop_at, set_split}
use Rattle.listing.specs.Steps.{Put, Capped}

-- nothing, and one byte
pub put_none : (out : List ℕ) (at : ℕ) → at ≤ length out → Put out at [] out at
put_none out at h = record { bytes = sym (take-append-drop at out); next = sym (add-zero at); room = h }

pub put_here : (out : List ℕ) (at b : ℕ) → at < length out → Put out at (b ∷ []) (set out at b) (at + 1)
put_here out at b h = record { bytes = rw (add-one at) (set_split out at b h); next = refl; room = omega arith }

-- two texts, the second behind the first
module _ {out mid new t u : List ℕ} {at next after : ℕ} (q : Put mid next u new after) (p : Put out at t mid next) where
  pub put_join : Put out at (t ++ u) new after
  put_join =
      record {
        bytes = q.bytes ∙ rw (front, rest) (append_assoc (take at out) t (u ++ drop after out) ∙ ap (λ (l : List ℕ). take at out ++ l) (sym (append_assoc t u (drop after out))));
        next = simp length-append (omega (arith, p.next, q.next));
        room = room;
      }
    where
      size : length (take at out ++ t) ≡ next
      size = simp (length-append, length-take) (omega (arith, p.next, p.room))

      whole : mid ≡ (take at out ++ t) ++ drop next out
      whole = p.bytes ∙ sym (append_assoc (take at out) t (drop next out))

      front : take next mid ≡ take at out ++ t
      front = rw whole (take_at (take at out ++ t) (drop next out) next size)

      behind : drop next mid ≡ drop next out
      behind = rw whole (drop_at (take at out ++ t) (drop next out) next size)

      rest : drop after mid ≡ drop after out
      rest =
          let e : next + (after - next) ≡ after = omega (arith, q.next) in
          let a = drop-drop (after - next) next mid in
          let b = drop-drop (after - next) next out in
          rw e at (sym a ∙ ap (drop (after - next)) behind ∙ b)

      room : after ≤ length out
      room =
          let l : length mid ≡ length out = ap length whole ∙ simp (length-append, length-take, length-drop) (omega (arith, p.next, p.room)) in
          omega (arith, q.room)

pub capped_none : (out : List ℕ) (at : ℕ) → at ≤ length out → Capped 0 out at [] out at
capped_none out at h = record { put = put_none out at h; cap = omega arith }

pub capped_join : {out mid new t u : List ℕ} {at next after a b : ℕ} → Capped b mid next u new after → Capped a out at t mid next → Capped (a + b) out at (t ++ u) new after
capped_join q p = record { put = put_join q.put p.put; cap = omega (arith, q.cap, p.cap) }
