-- An input that is longer than any sheet is refused for its first seven bytes or its length, so the bytes past 713 do not matter.
-- Assumes nothing.
use Prim.Native.Nat.{ℕ, ◌+◌, ◌*◌, ◌≤◌, ◌<◌}
use mathlib.Core.Path.{◌≡◌, refl}
use mathlib.Core.Bool.{Bool, true, false, cond, not, ◌||◌}
use mathlib.Core.List.{List, [], ◌∷◌, ◌++◌}
use native.Mathlib.Omega.{arith}
use borrow.Author.Tests.{le-ltb, ltb-false, ne_eqb}
use lib.ListN.{length, take, drop, get_or, length-take}
use lib.Seq.{get_or-take}
use lib.Dec.{ltb, eqb}
use Rattle.sheet.specs.Table.{Row, ◌at◌, scan, whole}
use Rattle.sheet.specs.Numbers.{word}
use Rattle.sheet.specs.Records.{task_count, core_count}
use Rattle.sheet.specs.Views.{is_grouped, is_stroked}
use Rattle.sheet.proofs.Ranges.{neither}
use Rattle.checker.specs.Tests.{is_marked, bad_version}
use Rattle.checker.specs.Rules.{frame_rows, spare_rows, part_rows, rules}
use Rattle.checker.specs.Verdict.{refused, outcome, verdict}

-- the number of the refusal, by the tests of rules 2 to 4
long_number : Bool → Bool → Bool → ℕ
long_number mark version count = cond mark 2 (cond version 3 (cond count 4 5))

over_count : List ℕ → Bool
over_count s = ltb 64 (task_count s) || ltb 8 (core_count s)

long_verdict : (s : List ℕ) → 713 ≤ length s → verdict s ≡ refused (long_number (not (is_marked s)) (bad_version s) (over_count s)) 0
unfolding verdict outcome rules frame_rows scan whole long_number over_count
long_verdict s h = rw (le-ltb (length s) 8 (omega arith)) (by (not (is_marked s)) (bad_version s) (over_count s) refl (spare_rows (is_grouped s) (is_stroked s) (task_count s) (core_count s) s (drop 8 s) ++ part_rows (is_grouped s) (is_stroked s) (task_count s) (core_count s) (drop 8 s)))
  where
    by : (m v c : Bool) → over_count s ≡ c → (rest : List Row) → outcome (scan ((2 at whole m ∷ 3 at whole v ∷ 4 at whole c ∷ 5 at whole (not (eqb (length s) (8 + 10 * task_count s + 8 * core_count s))) ∷ []) ++ rest)) (task_count s) (core_count s) ≡ refused (long_number m v c) 0
    by true v c e rest = refl
    by false true c e rest = refl
    by false false true e rest = refl
    by false false false e rest =
        let n = neither (ltb 64 (task_count s)) (ltb 8 (core_count s)) e in
        rw (ne_eqb (length s) (8 + 10 * task_count s + 8 * core_count s) (λ q. omega (arith, q, ltb-false 64 (task_count s) n.0, ltb-false 8 (core_count s) n.1)))

-- long inputs with the same first seven bytes are refused alike
long_same : (s t : List ℕ) → ((i : ℕ) → i < 7 → get_or s i 0 ≡ get_or t i 0) → long_number (not (is_marked s)) (bad_version s) (over_count s) ≡ long_number (not (is_marked t)) (bad_version t) (over_count t)
unfolding is_marked bad_version word over_count
long_same s t e = rw (e 0 (omega arith), e 1 (omega arith), e 2 (omega arith), e 3 (omega arith), e 4 (omega arith), e 5 (omega arith), e 6 (omega arith))

-- A longer input is refused as its first 713 bytes are.
pub verdict_cut : (s : List ℕ) → 713 ≤ length s → (k : ℕ) × (verdict (take 713 s) ≡ refused k 0) × (verdict s ≡ refused k 0)
verdict_cut s h = (
  long_number (not (is_marked s)) (bad_version s) (over_count s),
  rw (← long_same (take 713 s) s (λ i q. get_or-take 713 s i 0 (omega arith))) (long_verdict (take 713 s) (simp length-take (omega arith))),
  long_verdict s h,
)
