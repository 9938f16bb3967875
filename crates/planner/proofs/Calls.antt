-- The planner's refusals before any core is looked for, as the code tells them.
-- Assumes nothing.
use Prim.Native.Nat.{ℕ, ◌/◌, ◌≤◌, ◌<◌}
use mathlib.Core.Path.{◌≡◌, refl}
use mathlib.Core.Bool.{Bool, true, false}
use Rattle.std.specs.Prelude.{None, Some}
use mathlib.Core.List.{List}
use native.Mathlib.Omega.{arith}
use borrow.Author.Tests.{lt-ltb, le-ltb}
use lib.ListN.{length}
use lib.Dec.{ltb}
use Rattle.sheet.specs.Table.{scan}
use Rattle.sheet.proofs.Scans.{scan_second, scan_hit, scan_skip, scan_none, whole_true, whole_false}
use Rattle.jobs.specs.Jobs.{job_count, list_rows}
use Rattle.jobs.proofs.Laws.{listed}
use Rattle.planner.specs.Plan.{bad_start, call_rows}

-- a list without faults
module _ (l : List ℕ) (limit : ℕ) (e : None ≡ scan (list_rows limit l)) where
  pub list_fits : length l / 4 < 256
  unfolding job_count
  list_fits = omega (arith, (listed limit l e).count)

  module _ (start room : ℕ) (r : Bool) (h : r ≡ bad_start (length l / 4) start) where
    pub call_start : r ≡ true → Some (record { number = 22; place = 0 }) ≡ scan (call_rows l limit start room)
    unfolding call_rows job_count
    call_start t = scan_second (list_rows limit l) _ _ e (scan_hit 22 0 _ _ (whole_true _ r h t))

    pub call_tight : r ≡ false → room < 712 → Some (record { number = 16; place = 0 }) ≡ scan (call_rows l limit start room)
    unfolding call_rows job_count
    call_tight t q = scan_second (list_rows limit l) _ _ e (scan_skip 22 _ _ _ (whole_false _ r h t) (scan_hit 16 0 _ _ (whole_true _ (ltb room 712) refl (lt-ltb room 712 q))))

    pub call_clear : r ≡ false → 712 ≤ room → None ≡ scan (call_rows l limit start room)
    unfolding call_rows job_count
    call_clear t q = scan_second (list_rows limit l) _ _ e (scan_skip 22 _ _ _ (whole_false _ r h t) (scan_skip 16 _ _ _ (whole_false _ (ltb room 712) refl (le-ltb room 712 q)) scan_none))
