-- The order in which the planner walks the ring.
-- Assumes nothing.
use Prim.Native.Nat.{ℕ, ◌+◌, ◌-◌, ◌%◌, ◌≤◌, ◌<◌}
use mathlib.Core.Path.{◌≡◌, sym, ap, ◌∙◌}
use mathlib.Core.List.{List, ◌++◌}
use native.Mathlib.Nat.{mod-eq_of_lt, mod-eq-sub-mod}
use native.Mathlib.Decide.{dec_lt}
use native.Mathlib.Omega.{arith}
use lib.ListN.{length, take, drop, length-drop, get_or-append}
use lib.Seq.{get_or-take, get_or-drop, get_or-append-add}
use Rattle.fit.specs.declared.By.TheVariants.{Ring}
use Rattle.fit.specs.Lists.{at}
use Rattle.fit.specs.Ring.{order_by}
use Rattle.jobs.specs.Jobs.{job_count, job_period}
use Rattle.planner.specs.FirstFit.{rotate}
use Rattle.planner.proofs.Planning.{all_sorted}

-- The i-th task of a walk from a start is the one at place start + i, counted round.
pub walk_order : (start : ℕ) (l : List ℕ) (i : ℕ) → start < length l → i < length l → at (rotate start l) i ≡ at l ((start + i) % length l)
unfolding rotate
walk_order start l i h b = by (dec_lt (start + i) (length l))
  where
    by : Dec (start + i < length l) → at (drop start l ++ take start l) i ≡ at l ((start + i) % length l)
    by (yes q) =
        get_or-append (drop start l) (take start l) 0 i (simp length-drop (omega arith)) ∙ get_or-drop start l i 0
        ∙ ap (at l) (sym (mod-eq_of_lt q))
    by (no q) =
        let past : length l ≤ start + i = omega arith in
        let round : (start + i) % length l ≡ start + i - length l = mod-eq-sub-mod past ∙ mod-eq_of_lt (omega arith) in
        let place : i ≡ length (drop start l) + (start + i - length l) = simp length-drop (omega arith) in
        ap (at (drop start l ++ take start l)) place ∙ get_or-append-add (drop start l) (take start l) (start + i - length l) 0
        ∙ get_or-take start l (start + i - length l) 0 (omega arith) ∙ ap (at l) (sym round)

-- so of the ring of a job list
pub ring_walk : (l : List ℕ) (start i : ℕ) → start < job_count l → i < job_count l → at (rotate start (order_by Ring (job_period l) (job_count l))) i ≡ at (order_by Ring (job_period l) (job_count l)) ((start + i) % job_count l)
ring_walk l start i h b =
    let n : length (order_by Ring (job_period l) (job_count l)) ≡ job_count l = all_sorted Ring (job_period l) (job_count l) in
    walk_order start (order_by Ring (job_period l) (job_count l)) i (omega arith) (omega arith) ∙ rw n
