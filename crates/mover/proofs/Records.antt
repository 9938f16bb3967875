-- Bytes that are copied over the front of a part, and records with a byte of their own.
-- Assumes nothing.
use Prim.Native.Nat.{ℕ, zero, suc, ◌+◌, ◌-◌, ◌*◌, ◌≤◌, ◌<◌}
use mathlib.Core.Path.{◌≡◌, refl, ap, ◌∙◌}
use mathlib.Core.List.{List, [], ◌∷◌, ◌++◌}
use native.Mathlib.Nat.{add-zero}
use native.Mathlib.Numerals.{add-one}
use native.Mathlib.Omega.{arith}
use lib.ListN.{length, take, drop, get_or, set, length-set}
use borrow.Rule.Slice.PartMut.{put_mid}
use Rattle.fit.specs.Lists.{over}
use Rattle.fit.proofs.Laying.{Laid, lay_turn}
use Rattle.mover.specs.Moved.{bytes, header_with, task_with, core_with}
use Rattle.mover.specs.Steps.{task_bytes, core_bytes}
use Rattle.mover.proofs.Fields.{bytes_take, bytes_length}

-- the first i bytes are copied
pub record Copied (from : List ℕ) (a : ℕ) (before : List ℕ) (i : ℕ) (now : List ℕ) : Type 0 where
  pub size : length now ≡ length before
  pub bytes : now ≡ over (bytes from a i) before

pub copy_start : (from : List ℕ) (a : ℕ) (l : List ℕ) → Copied from a l 0 l
unfolding over bytes
copy_start from a l = record { size = refl; bytes = refl }

copied : (from : List ℕ) (a : ℕ) (l : List ℕ) (i : ℕ) → i < length l → set (over (bytes from a i) l) i (get_or from (a + i) 0) ≡ over (bytes from a (suc i)) l
unfolding over bytes
copied from a [] i h = absurd (omega arith)
copied from a (x ∷ l) zero h = rw (add-zero a)
copied from a (x ∷ l) (suc i) h =
    let e : suc a + i ≡ a + suc i = omega arith in
    ap (λ (t : List ℕ). get_or from a 0 ∷ t) (rw (← e) (copied from (suc a) l i (omega arith)))

pub copy_turn : (from : List ℕ) (a : ℕ) (l : List ℕ) (n i x : ℕ) (now : List ℕ) → i < n → n ≤ length l → x ≡ get_or from (a + i) 0 → Copied from a l i now → Copied from a l (i + 1) (set now i x)
copy_turn from a l n i x now h room e d =
    record {
      size = length-set now i x ∙ d.size;
      bytes = rw (d.bytes, e, add-one i) (copied from a l i (omega arith));
    }

pub copy_end : (from : List ℕ) (a : ℕ) (l : List ℕ) (n i : ℕ) (now : List ℕ) → i ≤ n → n ≤ i → Copied from a l i now → now ≡ over (bytes from a n) l
copy_end from a l n i now p q d =
    let same : i ≡ n = omega arith in
    rw (← same) d.bytes

-- bytes that are copied at once
pub copied_part : (from l new : List ℕ) (a n : ℕ) → a + n ≤ length from → new ≡ take (a + n - a) (drop a from) → new ++ drop n l ≡ over (bytes from a n) l
unfolding over
copied_part from l new a n h e =
    let z : a + n - a ≡ n = omega arith in
    rw (bytes_length from a n, bytes_take from a n h, e, z)

-- the records
pub header_bytes : (s l : List ℕ) (v : ℕ) (now : List ℕ) → now ≡ over (bytes s 0 8) l → set (set now 3 v) 4 0 ≡ over (header_with s v) l
unfolding over bytes header_with
header_bytes s l v now e = rw e

pub task_bytes_lem : (s l : List ℕ) (a j x : ℕ) (now : List ℕ) → a ≡ 10 * j → now ≡ over (bytes s a 10) l → set now 4 x ≡ over (task_with s j x) l
unfolding over bytes task_with
task_bytes_lem s l a j x now p e =
    let past : 10 * j + 5 ≡ suc (suc (suc (suc (suc (10 * j))))) = omega arith in
    rw (e, p, past)

pub core_bytes_lem : (s l : List ℕ) (a k x : ℕ) (now : List ℕ) → a ≡ 8 * k → now ≡ over (bytes s a 8) l → set now 2 x ≡ over (core_with s k x) l
unfolding over bytes core_with
core_bytes_lem s l a k x now p e =
    let past : 8 * k + 3 ≡ suc (suc (suc (8 * k))) = omega arith in
    rw (e, p, past)

pub header_size : (s : List ℕ) (v : ℕ) → length (header_with s v) ≡ 8
unfolding bytes header_with
header_size s v = refl

pub task_size : (s from byte4 : List ℕ) (i : ℕ) → length (task_bytes s from byte4 i) ≡ 10
unfolding bytes task_with task_bytes
task_size s from byte4 i = refl

pub core_size : (s counts : List ℕ) (k : ℕ) → length (core_bytes s counts k) ≡ 8
unfolding bytes core_with core_bytes
core_size s counts k = refl

-- one more task record, and one more core record
module _ (s from byte4 : List ℕ) (n i : ℕ) (before xs : List ℕ) (h : i < n) (room : 10 * n ≤ length before) (d : Laid (task_bytes s from byte4) 10 before i (10 * i) xs) where
  pub task_turn : (ys : List ℕ) → ys ≡ over (task_with s (get_or from i 0) (get_or byte4 i 0)) (take (length xs - 10 * i) (drop (10 * i) xs)) → Laid (task_bytes s from byte4) 10 before (i + 1) (10 * (i + 1)) (put_mid (10 * i) (length xs - 10 * i) xs ys)
  unfolding task_bytes
  task_turn ys q =
      let z : 10 * (i + 1) ≡ 10 * i + 10 = omega arith in
      rw z (lay_turn (task_bytes s from byte4) 10 (task_size s from byte4) n i (10 * i) before xs ys h room d q)

module _ (s counts : List ℕ) (c k a : ℕ) (before xs : List ℕ) (h : k < c) (room : 8 * c ≤ length before) (e : a ≡ 8 * k) (d : Laid (core_bytes s counts) 8 before k (8 * k) xs) where
  pub core_turn : (ys : List ℕ) → ys ≡ over (core_with s k (get_or counts k 0)) (take (length xs - a) (drop a xs)) → Laid (core_bytes s counts) 8 before (k + 1) (8 * (k + 1)) (put_mid a (length xs - a) xs ys)
  unfolding core_bytes
  core_turn ys q =
      let z : 8 * (k + 1) ≡ a + 8 = omega arith in
      rw z (lay_turn (core_bytes s counts) 8 (core_size s counts) c k a before xs ys h room (rw (← e) at d) q)
