-- A sheet that is laid out twice, and one that is laid out as it is.
-- Assumes nothing.
use Prim.Native.Nat.{ℕ, zero, suc, ◌+◌, ◌*◌, ◌≤◌, ◌<◌}
use mathlib.Core.Path.{◌≡◌, refl, sym, ap, ap₂, ◌∙◌}
use mathlib.Core.Logic.{◌⊎◌, inl, inr}
use mathlib.Core.List.{List, ◌∷◌, ◌++◌}
use native.Mathlib.Nat.{mul-suc}
use native.Mathlib.Numerals.{add-one}
use native.Mathlib.Omega.{arith}
use lib.ListN.{length, get_or, take, drop, length-drop, take-append-drop}
use lib.Seq.{take_all, take-add}
use Rattle.sheet.specs.Numbers.{word}
use Rattle.sheet.specs.Records.{number_at, count_at, task_count, core_count}
use Rattle.sheet.specs.Views.{version}
use Rattle.fit.specs.Lists.{numbers, joined}
use Rattle.fit.proofs.Lists.{joined_next}
use Rattle.fit.proofs.Laying.{records_ext}
use Rattle.checker.specs.Accepted.{Framed}
use Rattle.mover.specs.Moved.{bytes, header_with, task_with, core_with, Layout, laid_out}
use Rattle.mover.proofs.Fields.{bytes_take, laid_tasks, laid_cores, laid_task, laid_core}

-- layouts that agree on all tasks and cores
pub laid_ext : (y z : Layout) (s : List ℕ) → y.version ≡ z.version → ((i : ℕ) → i < task_count s → y.from i ≡ z.from i) → ((i : ℕ) → i < task_count s → y.byte4 i ≡ z.byte4 i) → ((k : ℕ) → k < core_count s → y.count k ≡ z.count k) → laid_out y s ≡ laid_out z s
unfolding laid_out
laid_ext y z s ev ef ex ec =
    ap₂ ◌++◌ (ap (header_with s) ev)
    (ap₂ ◌++◌
    (records_ext _ _ 0 (task_count s) (λ i a h. ap₂ (task_with (drop 8 s)) (ef i (omega arith)) (ex i (omega arith))))
    (records_ext _ _ 0 (core_count s) (λ k a h. ap (core_with (drop (10 * task_count s) (drop 8 s)) k) (ec k (omega arith)))))

-- one layout after another
abbrev parts_of : Layout → List ℕ → ℕ → ℕ → List ℕ
parts_of z m n c = joined (λ i. task_with (drop 8 m) (z.from i) (z.byte4 i)) (numbers 0 n) ++ joined (λ k. core_with (drop (10 * n) (drop 8 m)) k (z.count k)) (numbers 0 c)

laid_parts : (z : Layout) (m : List ℕ) → laid_out z m ≡ header_with m z.version ++ parts_of z m (task_count m) (core_count m)
unfolding laid_out
laid_parts z m = refl

laid_header : (y : Layout) (s : List ℕ) (v : ℕ) → header_with (laid_out y s) v ≡ header_with s v
unfolding laid_out header_with bytes
laid_header y s v = refl

abbrev after : Layout → Layout → Layout
after y z = record { version = z.version; from = λ i. y.from (z.from i); byte4 = z.byte4; count = z.count }

pub laid_twice : (y z : Layout) (s : List ℕ) → ((i : ℕ) → i < task_count s → z.from i < task_count s) → laid_out z (laid_out y s) ≡ laid_out (after y z) s
laid_twice y z s inside =
    laid_parts z (laid_out y s)
    ∙ ap₂ ◌++◌ (laid_header y s z.version)
    (ap₂ (parts_of z (laid_out y s)) (laid_tasks y s) (laid_cores y s)
    ∙ ap₂ ◌++◌
    (records_ext _ _ 0 (task_count s) (λ i a h. laid_task y s (z.from i) (inside i (omega arith)) (z.byte4 i)))
    (records_ext _ _ 0 (core_count s) (λ k a h. laid_core y s k (omega arith) (z.count k))))
    ∙ sym (laid_parts (after y z) s)

-- bytes with one of them apart
bytes_split : (s : List ℕ) (a p q c d : ℕ) → c ≡ a + p → d ≡ c + 1 → bytes s a (p + suc q) ≡ bytes s a p ++ (get_or s c 0 ∷ bytes s d q)
unfolding bytes
bytes_split s a zero q c d e f =
    let x : 0 + suc q ≡ suc q = omega arith in
    let y : c ≡ a = omega arith in
    let z : d ≡ suc a = omega arith in
    rw (x, y, z)
bytes_split s a (suc p) q c d e f =
    let x : suc p + suc q ≡ suc (p + suc q) = omega arith in
    rw x (ap (λ (l : List ℕ). get_or s a 0 ∷ l) (bytes_split s (suc a) p q c d (omega arith) f))

-- n records of w bytes are the front of a part
all_records : (l : List ℕ) (w n : ℕ) → w * n ≤ length l → joined (λ i. bytes l (w * i) w) (numbers 0 n) ≡ take (w * n) l
unfolding joined numbers
all_records l w zero h =
    let z : w * 0 ≡ 0 = omega arith in
    rw z
all_records l w (suc n) h =
    let next : joined (λ i. bytes l (w * i) w) (numbers 0 (suc n)) ≡ joined (λ i. bytes l (w * i) w) (numbers 0 n) ++ bytes l (w * n) w = rw (add-one n) at (joined_next (λ i. bytes l (w * i) w) n) in
    let size : w * suc n ≡ w * n + w = omega (arith, mul-suc w n) in
    next ∙ ap₂ ◌++◌ (all_records l w n (omega arith)) (bytes_take l (w * n) w (omega arith)) ∙ sym (take-add (w * n) w l) ∙ ap (λ x. take x l) (sym size)

-- A sheet that is laid out with its own version, order and bytes is the same.
module _ (s : List ℕ) (h : Framed s) where
  abbrev own : Layout
  own = record { version = version s; from = λ i. i; byte4 = number_at (drop 8 s); count = count_at (drop (10 * task_count s) (drop 8 s)) }

  own_version : (version s ≡ 1) ⊎ ((version s ≡ 2) ⊎ (version s ≡ 3)) → (version s ≡ get_or s 3 0) × (◌≡◌ {A = ℕ} 0 (get_or s 4 0))
  unfolding word
  own_version (inl e) = (omega arith, omega arith)
  own_version (inr (inl e)) = (omega arith, omega arith)
  own_version (inr (inr e)) = (omega arith, omega arith)

  own_header : header_with s (version s) ≡ take 8 s
  unfolding header_with bytes
  own_header =
      let v = own_version h.version in
      ap₂ (λ x y. bytes s 0 3 ++ (x ∷ y ∷ bytes s 5 3)) v.0 v.1
      ∙ bytes_take s 0 8 (omega (arith, h.size))

  own_task : (i : ℕ) → task_with (drop 8 s) i (number_at (drop 8 s) i) ≡ bytes (drop 8 s) (10 * i) 10
  unfolding task_with
  own_task i = sym (bytes_split (drop 8 s) (10 * i) 4 5 (10 * i + 4) (10 * i + 5) refl (omega arith))

  own_core : (k : ℕ) → core_with (drop (10 * task_count s) (drop 8 s)) k (count_at (drop (10 * task_count s) (drop 8 s)) k) ≡ bytes (drop (10 * task_count s) (drop 8 s)) (8 * k) 8
  unfolding core_with
  own_core k = sym (bytes_split (drop (10 * task_count s) (drop 8 s)) (8 * k) 2 5 (8 * k + 2) (8 * k + 3) refl (omega arith))

  pub laid_own : laid_out own s ≡ s
  laid_own =
      let records : length (drop 8 s) ≡ 10 * task_count s + 8 * core_count s = length-drop 8 s ∙ omega (arith, h.size) in
      let cores : length (drop (10 * task_count s) (drop 8 s)) ≡ 8 * core_count s = length-drop (10 * task_count s) (drop 8 s) ∙ omega (arith, records) in
      laid_parts own s
      ∙ ap₂ ◌++◌ own_header
      (ap₂ ◌++◌
      (records_ext _ _ 0 (task_count s) (λ i a b. own_task i) ∙ all_records (drop 8 s) 10 (task_count s) (omega (arith, records)))
      (records_ext _ _ 0 (core_count s) (λ k a b. own_core k) ∙ all_records _ 8 (core_count s) (omega (arith, cores)) ∙ take_all (8 * core_count s) _ (omega (arith, cores)))
      ∙ take-append-drop (10 * task_count s) (drop 8 s))
      ∙ take-append-drop 8 s
