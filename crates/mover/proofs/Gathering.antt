-- The tasks of the first cores at the front of the list of all cores, and how many each core has.
-- Assumes nothing.
use Prim.Native.Nat.{ℕ, zero, suc, ◌+◌, ◌-◌, ◌≤◌, ◌<◌, min}
use mathlib.Core.Path.{◌≡◌, refl, sym, ap, ◌∙◌}
use mathlib.Core.List.{List, [], ◌∷◌, ◌++◌}
use lib.Arith.{lt_of_le-ne}
use native.Mathlib.Decide.{ℕ_discrete}
use native.Mathlib.Omega.{arith}
use lib.ListN.{length, take, drop, get_or, set, replicate, length-append, length-set}
use lib.Seq.{length-take-le, take-add, get_or-set_same, get_or-set_other, get_or-drop}
use mir.Syntax.{w8}
use mir.Val.{Fits}
use Rattle.fit.specs.Lists.{at, over}
use Rattle.fit.specs.Priority.{order}
use Rattle.fit.proofs.Lists.{zeros, padded_length}
use Rattle.order.specs.Cores.{on_cores, ByCore, end_on}
use Rattle.order.proofs.Cutting.{no_cores, cores_next, cut_end, cut_part, cut_rises, cut_inside}
use Rattle.mover.specs.Steps.{grouped_by, Arranged}

-- zeros past what is laid over them change nothing that is read by place
over_zeros : (l : List ℕ) (i : ℕ) → at (over l (replicate 64 0)) i ≡ at l i
unfolding over
over_zeros l i = past l (length l) i
  where
    past : (l : List ℕ) (m i : ℕ) → at (l ++ drop m (replicate 64 0)) i ≡ at l i
    past [] m i = get_or-drop m (replicate 64 0) i 0 ∙ zeros 64 (m + i)
    past (x ∷ l) m zero = refl
    past (x ∷ l) m (suc i) = past l m i

-- the tasks of the first k cores end before place a of a list of all cores, and the first k counts are theirs
pub record Gathered (p core : ℕ → ℕ) (n : ℕ) (list : List ℕ) (k a : ℕ) (counts : List ℕ) : Type 0 where
  pub few : n ≤ 64
  pub all : ByCore p core n list
  pub size : length list ≡ 64
  pub room : a ≤ n
  pub tasks : take a list ≡ on_cores p core k n
  pub cores : length counts ≡ 8
  pub count : (j : ℕ) → j < k → get_or counts j 0 ≡ length (order p core j n)

pub gather_start : (p core : ℕ → ℕ) (n : ℕ) (list : List ℕ) → ByCore p core (min n 64) list → Gathered p core (min n 64) list 0 0 (replicate 8 0)
gather_start p core n list b =
    record {
      few = omega arith;
      all = b;
      size = rw b.same (padded_length _ (omega (arith, b.whole)));
      room = omega arith;
      tasks = sym (no_cores p core (min n 64));
      cores = refl;
      count = λ j h. absurd (omega arith);
    }

module _ (p core : ℕ → ℕ) (n : ℕ) (list : List ℕ) (k a : ℕ) (counts : List ℕ) (c end : ℕ) (q : k < c) (m : c ≤ 8) (d : Gathered p core n list k a counts) (e : end ≡ end_on core k list a n) where
  starts : a ≡ length (on_cores p core k n)
  starts = sym (length-take-le a list (omega (arith, d.size, d.room, d.few))) ∙ ap length d.tasks

  pub gather_rises : a ≤ end
  gather_rises = rw e (cut_rises p core n k a list d.few (omega arith) d.all starts)

  room : end ≤ n
  room = rw e (cut_inside p core n k a list d.few (omega arith) d.all starts)

  pub gather_fits : Fits w8 (end - a)
  gather_fits = record { fits = omega (arith, room, d.few) }

  own : end - a ≡ length (order p core k n)
  own =
      let z : end ≡ length (on_cores p core (k + 1) n) = e ∙ cut_end p core n k a list d.few (omega arith) d.all starts in
      omega (arith, z, starts, ap length (cores_next p core k n), length-append (on_cores p core k n) (order p core k n))

  pub gather_turn : Gathered p core n list (k + 1) end (set counts k (end - a))
  gather_turn =
      record {
        few = d.few;
        all = d.all;
        size = d.size;
        room = room;
        tasks = more;
        cores = length-set counts k (end - a) ∙ d.cores;
        count = λ j b. by j b (ℕ_discrete j k);
      }
    where
      more : take end list ≡ on_cores p core (k + 1) n
      more =
          let z : end ≡ a + (end - a) = omega (arith, gather_rises) in
          let t : take (end - a) (drop a list) ≡ order p core k n = ap (λ x. take (x - a) (drop a list)) e ∙ cut_part p core n k a list d.few (omega arith) d.all starts in
          ap (λ x. take x list) z ∙ take-add a (end - a) list ∙ rw (d.tasks, t) (sym (cores_next p core k n))

      by : (j : ℕ) → j < k + 1 → Dec (j ≡ k) → get_or (set counts k (end - a)) j 0 ≡ length (order p core j n)
      by j b (yes z) = rw z (get_or-set_same counts k (end - a) 0 (omega (arith, d.cores)) ∙ own)
      by j b (no z) = get_or-set_other counts k j (end - a) 0 z ∙ d.count j (lt_of_le-ne (omega arith) z)

pub gather_end : (p core : ℕ → ℕ) (n m c k a : ℕ) (list taken counts : List ℕ) → k ≤ c → c ≤ k → Gathered p core n list k a counts → taken ≡ take a list → Arranged (grouped_by p core n c) m c (record { version = 2; from = taken ++ drop a (replicate 64 0); byte4 = taken ++ drop a (replicate 64 0); counts = counts })
unfolding on_cores over
gather_end p core n m c k a list taken counts x y d e = record { version = refl; from = λ i h. looked i; byte4 = λ i h. looked i; count = λ j h. d.count j (omega arith) }
  where
    looked : (i : ℕ) → get_or (taken ++ drop a (replicate 64 0)) i 0 ≡ at (on_cores p core c n) i
    looked i =
        let same : k ≡ c = omega arith in
        let size : length (take a list) ≡ a = length-take-le a list (omega (arith, d.size, d.room, d.few)) in
        rw (e, ← same, ← d.tasks) (rw size at (over_zeros (take a list) i))
