-- The columns of a sheet are the plan of its other version.
-- Assumes nothing.
use Prim.Native.Nat.{ℕ, zero, suc, ◌-◌, ◌*◌, ◌≤◌, ◌<◌, min}
use mathlib.Core.Path.{◌≡◌, refl, sym, ap, ap₂, subst, fun_ext, ◌∙◌}
use mathlib.Core.Bool.{Bool, true, false, cond}
use mathlib.Core.List.{List}
use native.Mathlib.Omega.{arith}
use lib.ListN.{length, take, drop, get_or, replicate}
use lib.Dec.{eqb}
use Rattle.sheet.specs.Numbers.{word}
use Rattle.sheet.specs.Records.{period_at, core_at, number_at}
use Rattle.sheet.specs.Views.{is_grouped, position_of, position_of_number, core_of_position, figures}
use Rattle.fit.specs.Lists.{numbers, at, joined, over}
use Rattle.fit.specs.Priority.{order}
use Rattle.fit.specs.Cores.{order_on}
use Rattle.fit.specs.Answers.{Column}
use Rattle.fit.proofs.Lists.{part, zeros}
use Rattle.fit.proofs.Priority.{order_ext}
use Rattle.fit.proofs.Selecting.{order_core_ext}
use Rattle.mover.specs.declared.Arrangement.{Arrangement}
use Rattle.mover.specs.Moved.{Layout, laid_out, grouping, layout1, layout2, version1, version2, moved}
use Rattle.mover.specs.Steps.{found, grouped_by, Sized, Arranged}

pub found_at : (list places : List ℕ) (i place r : ℕ) → place ≡ get_or places i 0 → r ≡ get_or list place 0 → r ≡ found list places i
unfolding found
found_at list places i place r p e = e ∙ ap (λ (j : ℕ). get_or list j 0) p

-- a position that is found is one of the first n
position_most : (number : ℕ → ℕ) (n i : ℕ) → position_of number n i ≤ n - 1
unfolding position_of
position_most number zero i = omega arith
position_most number (suc n) i = by (eqb (number n) i) (position_most number n i)
  where
    by : (b : Bool) → position_of number n i ≤ n - 1 → cond b n (position_of number n i) ≤ suc n - 1
    by true q = omega arith
    by false q = omega arith

module _ (s : List ℕ) (n c : ℕ) (sized : Sized s n c) where
  all : min n 64 ≡ n
  all = omega (arith, sized.few_tasks)

  -- version 1
  pub number_arranged : (from on byte4 : List ℕ) → is_grouped s ≡ true → Column (position_of_number true (min n 64) (take (length s - 8) (drop 8 s))) (min n 64) from → Column (core_of_position true c (take (length s - 8) (drop 8 s)) (take (length (take (length s - 8) (drop 8 s)) - 10 * n) (drop (10 * n) (take (length s - 8) (drop 8 s))))) (min n 64) on → Column (found on from) n byte4 → Arranged (layout1 s) n c (record { version = 1; from = from; byte4 = byte4; counts = replicate 8 0 })
  unfolding found
  number_arranged from on byte4 g a b f =
      record {
        version = refl;
        from = λ i h. rw (g, ← sized.tasks) (place i h);
        byte4 = λ i h. rw (g, ← sized.tasks, ← sized.cores) (f.below i h ∙ rw (place i h) (core i h));
        count = λ k h. zeros 8 k;
      }
    where
      place : (i : ℕ) → i < n → get_or from i 0 ≡ position_of (number_at (drop 8 s)) n i
      place i h = rw (all, part s 8) at (a.below i (rw all h))

      core : (i : ℕ) → i < n → get_or on (position_of (number_at (drop 8 s)) n i) 0 ≡ core_of_position true c (drop 8 s) (drop (10 * n) (drop 8 s)) (position_of (number_at (drop 8 s)) n i)
      core i h = rw (part s 8, part (drop 8 s) (10 * n)) at (b.below (position_of (number_at (drop 8 s)) n i) (omega (arith, all, position_most (number_at (drop 8 s)) n i)))

  -- version 2
  pub core_arranged : (on periods : List ℕ) (r : Arrangement) → is_grouped s ≡ false → Column (core_of_position false c (take (length s - 8) (drop 8 s)) (take (length (take (length s - 8) (drop 8 s)) - 10 * n) (drop (10 * n) (take (length s - 8) (drop 8 s))))) (min n 64) on → Column (λ i. word (take (length s - 8) (drop 8 s)) (10 * i)) (min n 64) periods → Arranged (grouped_by (at periods) (at on) (min n 64) c) n c r → Arranged (layout2 s) n c r
  unfolding grouping order_on
  core_arranged on periods r g a b h = subst (λ y. Arranged y n c r) (ap₂ shape (fun_ext same) sized.cores) h
    where
      shape : (ℕ → List ℕ) → ℕ → Layout
      shape f c = record { version = 2; from = at (joined f (numbers 0 c)); byte4 = at (joined f (numbers 0 c)); count = λ k. length (f k) }

      same : (k : ℕ) → order (at periods) (at on) k (min n 64) ≡ order_on (figures s) k
      same k =
          order_ext (at periods) (figures s).period (at on) k (min n 64) (λ i q. rw g (b.below i q ∙ ap (λ t. period_at t i) (part s 8)))
          ∙ order_core_ext (figures s).period (at on) (figures s).core k k (min n 64) (λ i q. ap (λ (x : ℕ). eqb x k) (rw g (a.below i q ∙ ap (λ t. core_at t i) (part s 8))))
          ∙ ap (order (figures s).period (figures s).core k) (all ∙ sized.tasks)

-- what a test found
pub told : (b x y : Bool) → b ≡ x → b ≡ y → x ≡ y
told b x y e h = sym e ∙ h

-- the sheet of the other version, as it is arranged and written
module _ (s out after : List ℕ) (n c r : ℕ) (a : Arrangement) (written : (y : Layout) → Arranged y n c a → (r ≡ length (laid_out y s)) × (after ≡ over (laid_out y s) out)) where
  pub number_moved : is_grouped s ≡ true → Arranged (layout1 s) n c a → (r ≡ length (moved s)) × (after ≡ over (moved s) out)
  unfolding moved version1
  number_moved g p = subst (λ l. (r ≡ length l) × (after ≡ over l out)) (sym (ap (λ b. cond b (laid_out (layout1 s) s) (version2 s)) g)) (written (layout1 s) p)

  pub core_moved : is_grouped s ≡ false → Arranged (layout2 s) n c a → (r ≡ length (moved s)) × (after ≡ over (moved s) out)
  unfolding moved version2
  core_moved g p = subst (λ l. (r ≡ length l) × (after ≡ over l out)) (sym (ap (λ b. cond b (version1 s) (laid_out (layout2 s) s)) g)) (written (layout2 s) p)
