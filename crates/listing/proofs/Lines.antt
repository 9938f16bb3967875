-- The lines, as the code writes them: the numbers of the fields are the sheet's figures, and one line follows another.
-- Assumes nothing.
use Prim.Native.Nat.{ℕ, ◌+◌, ◌*◌, ◌≤◌}
use mathlib.Core.Path.{◌≡◌, refl}
use mathlib.Core.List.{List, ◌++◌}
use native.Mathlib.Omega.{arith}
use native.Mathlib.Nat.{mul-add, mul-one, mul-zero}
use lib.ListN.{length}
use Rattle.sheet.specs.Records.{Figures}
use Rattle.sheet.specs.Views.{renumbered}
use Rattle.fit.specs.Lists.{numbers, joined}
use Rattle.fit.specs.Fits.{within}
use Rattle.fit.proofs.Lists.{joined_next}
use Rattle.fit.specs.Cores.{within_on}
use Rattle.listing.specs.Words.{space, line_feed}
use Rattle.listing.specs.Words as the
use Rattle.listing.specs.Listing.{field, task_line, load_of, core_line}
use Rattle.listing.specs.Steps.{Capped}
use Rattle.listing.proofs.Writing.{capped_none, capped_join}

module _ (f : Figures) (out new : List ℕ) (at after most : ℕ) where
  pub task_line_lem : (i k p e m w q d : ℕ) → Capped most out at (field the.task i space ++ field the.core k space ++ field the.period p space ++ field the.budget e space ++ field the.factor m space ++ field the.within w line_feed) new after
      → k ≡ f.core i → p ≡ f.period i → e ≡ f.budget i → m ≡ f.factor i → q ≡ f.pivot k → d ≡ f.divisor k → w ≡ within q d m → Capped most out at (task_line f i) new after
  unfolding task_line within_on
  task_line_lem i k p e m w q d t ek ep ee em eq ed ew =
      let x : w ≡ within_on f (f.core i) i = rw (ew, em, eq, ed, ek) refl in
      rw (ek, ep, ee, em, x) at t

  pub core_line_lem : (k q d x : ℕ) → Capped most out at (field the.core k space ++ field the.pivot q space ++ field the.divisor d space ++ field the.load x line_feed) new after
      → q ≡ f.pivot k → d ≡ f.divisor k → x ≡ load_of f k → Capped most out at (core_line f k) new after
  unfolding core_line
  core_line_lem k q d x t eq ed ex = rw (eq, ed, ex) at t

-- one more line
module _ (line : ℕ → List ℕ) (most : ℕ) (out : List ℕ) (at : ℕ) where
  pub lines_start : (n : ℕ) → at + most * n ≤ length out → Capped (most * 0) out at (joined line (numbers 0 0)) out at
  unfolding joined numbers
  lines_start n h = rw (mul-zero most) (capped_none out at (omega arith))

  pub lines_turn : (mid new : List ℕ) (next after i : ℕ) → Capped most mid next (line i) new after → Capped (most * i) out at (joined line (numbers 0 i)) mid next → Capped (most * (i + 1)) out at (joined line (numbers 0 (i + 1))) new after
  lines_turn mid new next after i q p =
      let e : most * (i + 1) ≡ most * i + most = omega (arith, mul-add most i 1, mul-one most) in
      rw (joined_next line i, e) (capped_join q p)

-- one more task, whose record stands at position j
pub tasks_turn : (f : Figures) (position : ℕ → ℕ) (most : ℕ) (out mid new : List ℕ) (at next after i j : ℕ) → j ≡ position i → Capped most mid next (task_line (renumbered (λ x. j) f) i) new after → Capped (most * i) out at (joined (task_line (renumbered position f)) (numbers 0 i)) mid next → Capped (most * (i + 1)) out at (joined (task_line (renumbered position f)) (numbers 0 (i + 1))) new after
unfolding task_line within_on
tasks_turn f position most out mid new at next after i j e q p =
    let t : Capped most mid next (task_line (renumbered position f) i) new after = rw e at q in
    lines_turn (task_line (renumbered position f)) most out at mid new next after i t p
