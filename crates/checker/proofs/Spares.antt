-- Rule 6, step by step as the code goes over the spare bytes.
-- Assumes nothing.
use Prim.Native.Nat.{ℕ, suc, ◌+◌, ◌-◌, ◌*◌, ◌≤◌, ◌<◌}
use mathlib.Core.Path.{◌≡◌, refl, sym, ◌∙◌}
use mathlib.Core.Bool.{Bool, true, false, cond, true≢false, false≢true}
use Rattle.std.specs.Prelude.{None, Some, Result, Ok, Err}
use Rattle.std.specs.Result.{IsErrAnd}
use Rattle.sheet.proofs.Options.{some-ne-none, none-ne-some}
use mathlib.Core.List.{List, [], ◌∷◌}
use native.Mathlib.Omega.{arith}
use native.Mathlib.Nat.{sub-zero, add-zero}
use borrow.Author.Tests.{eq-eqb, ne_eqb}
use lib.ListN.{get_or}
use Rattle.sheet.specs.declared.Rejection.{Rejection}
use Rattle.sheet.specs.Table.{◌at◌, scan, refusal_of}
use Rattle.fit.specs.Lists.{find}
use Rattle.checker.specs.Tests.{task_spares, core_spares, is_set}
use Rattle.checker.specs.Rules.{offset}
use Rattle.checker.proofs.Tables.{handed}

-- a spare byte that is set, and one that is not
pub set_byte : (s : List ℕ) (a r : ℕ) → r ≡ get_or s a 0 → (r ≡ 0 → ⊥) → is_set s a ≡ true
unfolding is_set
set_byte s a r e h = rw (ne_eqb (get_or s a 0) 0 (λ q. h (e ∙ q)))

pub clear_byte : (s : List ℕ) (a r : ℕ) → r ≡ get_or s a 0 → r ≡ 0 → is_set s a ≡ false
unfolding is_set
clear_byte s a r e h = rw (eq-eqb (get_or s a 0) 0 (sym e ∙ h))

-- the search among the spare bytes l has come to the rest of them
pub record To (s l rest : List ℕ) : Type 0 where
  pub same : find (is_set s) l ≡ find (is_set s) rest

-- one spare byte, looked at by itself
module _ (s l : List ℕ) (x : ℕ) (rest : List ℕ) (k : To s l (x ∷ rest)) {B : Type 0} (f : Result B (Rejection ℕ)) (e : refusal_of f ≡ scan (6 at offset (find (is_set s) (x ∷ [])) ∷ [])) where
  pub spare_err : {A : Type 0} (g : Result A (Rejection ℕ)) (r : Rejection ℕ) → f ≡ Err r → IsErrAnd g (λ e. e ≡ r) → refusal_of g ≡ scan (6 at offset (find (is_set s) l) ∷ [])
  unfolding scan offset find
  spare_err g r was is = handed g r _ is (by (is_set s x) refl (rw was at e))
    where
      by : (b : Bool) → is_set s x ≡ b → refusal_of {A = B} (Err r) ≡ scan (6 at offset (cond b (Some x) None) ∷ []) → refusal_of {A = B} (Err r) ≡ scan (6 at offset (find (is_set s) l) ∷ [])
      by true q t = rw (k.same, q) t
      by false q t = absurd (some-ne-none _ t)

  pub spare_ok : (v : B) → f ≡ Ok v → To s l rest
  unfolding scan offset find
  spare_ok v was = by (is_set s x) refl (rw was at e)
    where
      by : (b : Bool) → is_set s x ≡ b → refusal_of {A = B} (Ok v) ≡ scan (6 at offset (cond b (Some x) None) ∷ []) → To s l rest
      by true q t = absurd (none-ne-some _ t)
      by false q t = record { same = k.same ∙ rw q }

done : (s l : List ℕ) → To s l [] → None ≡ scan (6 at offset (find (is_set s) l) ∷ [])
unfolding scan offset find
done s l k = rw k.same

-- in the task records, where byte 5 is spare
pub task_none : (s : List ℕ) (n : ℕ) (stroked : Bool) → stroked ≡ true → None ≡ scan (6 at offset (find (is_set s) (task_spares stroked 0 n)) ∷ [])
unfolding task_spares
task_none s n stroked h = rw h (done s [] (record { same = refl }))

pub task_start : (s : List ℕ) (n : ℕ) (stroked : Bool) → stroked ≡ false → To s (task_spares stroked 0 n) (task_spares false (10 * 0) (n - 0))
task_start s n stroked h = record { same = rw (sub-zero n, h) }

pub tasks_left : (s l : List ℕ) (n i a : ℕ) → i < n → a ≡ i → To s l (task_spares false (10 * i) (n - i)) → To s l ((10 * a + 5) ∷ task_spares false (10 * (i + 1)) (n - (i + 1)))
unfolding task_spares
tasks_left s l n i a h e k =
    let q : n - i ≡ suc (n - (i + 1)) = omega arith in
    let t : 10 * (i + 1) ≡ 10 * i + 10 = omega arith in
    rw (e, t) (rw q at k)

pub task_end : (s l : List ℕ) (n i : ℕ) → n ≤ i → To s l (task_spares false (10 * i) (n - i)) → None ≡ scan (6 at offset (find (is_set s) l) ∷ [])
unfolding task_spares
task_end s l n i h k =
    let q : n - i ≡ 0 = omega arith in
    done s l (rw q at k)

-- in the core records: byte 2 of each where they are not grouped, and byte 3
pub core_start : (s : List ℕ) (grouped : Bool) (a c : ℕ) → To s (core_spares grouped a c) (core_spares grouped (a + 8 * 0) (c - 0))
core_start s grouped a c = record { same = rw (sub-zero c, add-zero a) }

module _ (s l : List ℕ) (grouped : Bool) (n c k a : ℕ) (h : k < c) (e : a ≡ 10 * n + 8 * k) (t : To s l (core_spares grouped (10 * n + 8 * k) (c - k))) where
  left : To s l (core_spares grouped a (suc (c - (k + 1))))
  left =
      let q : c - k ≡ suc (c - (k + 1)) = omega arith in
      rw e (rw q at t)

  next : a + 8 ≡ 10 * n + 8 * (k + 1)
  next = omega arith

  pub low_left : grouped ≡ false → To s l ((a + 2) ∷ (a + 3) ∷ core_spares grouped (10 * n + 8 * (k + 1)) (c - (k + 1)))
  unfolding core_spares
  low_left g = rw (← next) (by grouped g left)
    where
      by : (b : Bool) → b ≡ false → To s l (core_spares b a (suc (c - (k + 1)))) → To s l ((a + 2) ∷ (a + 3) ∷ core_spares b (a + 8) (c - (k + 1)))
      by true g w = absurd (true≢false g)
      by false g w = w

  pub high_left : grouped ≡ true → To s l ((a + 3) ∷ core_spares grouped (10 * n + 8 * (k + 1)) (c - (k + 1)))
  unfolding core_spares
  high_left g = rw (← next) (by grouped g left)
    where
      by : (b : Bool) → b ≡ true → To s l (core_spares b a (suc (c - (k + 1)))) → To s l ((a + 3) ∷ core_spares b (a + 8) (c - (k + 1)))
      by true g w = w
      by false g w = absurd (false≢true g)

pub core_end : (s l : List ℕ) (grouped : Bool) (a c k : ℕ) → c ≤ k → To s l (core_spares grouped (a + 8 * k) (c - k)) → None ≡ scan (6 at offset (find (is_set s) l) ∷ [])
unfolding core_spares
core_end s l grouped a c k h t =
    let q : c - k ≡ 0 = omega arith in
    done s l (rw q at t)

-- byte 7 of the header
pub header_hit : (s : List ℕ) (r : ℕ) → r ≡ get_or s 7 0 → (r ≡ 0 → ⊥) → Some 7 ≡ find (is_set s) (7 ∷ [])
unfolding find
header_hit s r e h = rw (set_byte s 7 r e h)

pub header_clear : (s : List ℕ) (r : ℕ) → r ≡ get_or s 7 0 → r ≡ 0 → None ≡ find (is_set s) (7 ∷ [])
unfolding find
header_clear s r e h = rw (clear_byte s 7 r e h)
