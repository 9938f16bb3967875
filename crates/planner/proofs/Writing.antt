-- The records of the sheet that is written, laid over the output.
-- Assumes nothing.
use Prim.Native.Nat.{ℕ, ◌+◌, ◌-◌, ◌*◌, ◌/◌, ◌≤◌, ◌<◌}
use mathlib.Core.Path.{◌≡◌, refl, ap, ap₂, ◌∙◌}
use mathlib.Core.List.{List, ◌++◌}
use native.Mathlib.Nat.{zero-add}
use native.Mathlib.Omega.{arith}
use lib.ListN.{length, take, drop, get_or, length-append}
use lib.Seq.{length-take-le, get_or-take}
use borrow.Rule.Slice.PartMut.{put_mid}
use Rattle.fit.specs.Lists.{numbers, joined, over}
use Rattle.fit.proofs.Laying.{parts_written, records_length, records_ext, Laid, lay_turn}
use Rattle.jobs.specs.Jobs.{job_count, job_period, job_budget}
use Rattle.planner.specs.declared.Assignment.{Assignment}
use Rattle.planner.specs.declared.sets.CoreRate.{CoreRate}
use Rattle.planner.specs.declared.sets.Rates.{Rates}
use Rattle.planner.specs.Sheet.{two, four, header, task_record, core_record, figures_for, factor_for, sheet_of}
use Rattle.planner.specs.Steps.{Assigned, rate_at, Rated, task_bytes, core_bytes}

-- the highest of four bytes
pub high_byte : (x : ℕ) → x / 16777216 ≡ x / 65536 / 256
high_byte x = omega arith

-- task records and core records, one more
pub task_size : (l core factors : List ℕ) (i : ℕ) → length (task_bytes l core factors i) ≡ 10
unfolding task_bytes task_record two four
task_size l core factors i = refl

pub core_size : (cores : List CoreRate) (k : ℕ) → length (core_bytes cores k) ≡ 8
unfolding core_bytes core_record two four
core_size cores k = refl

module _ (l core factors : List ℕ) (n i at : ℕ) (before xs : List ℕ) (h : i < n) (room : 10 * n ≤ length before) (d : Laid (task_bytes l core factors) 10 before i (10 * i) xs) where
  pub task_turn : (p e : ℕ) (ys : List ℕ) → at ≡ i → p ≡ job_period l i → e ≡ job_budget l i → ys ≡ over (task_record p e (get_or core at 0) (get_or factors at 0)) (take (length xs - 10 * at) (drop (10 * at) xs)) → Laid (task_bytes l core factors) 10 before (i + 1) (10 * (i + 1)) (put_mid (10 * at) (length xs - 10 * at) xs ys)
  unfolding task_bytes
  task_turn p e ys z a b q =
      let next : 10 * i + 10 ≡ 10 * (i + 1) = omega arith in
      rw z (rw next at (lay_turn (task_bytes l core factors) 10 (task_size l core factors) n i (10 * i) before xs ys h room d (rw (z, a, b) at q)))

module _ (cores : List CoreRate) (c k : ℕ) (before xs : List ℕ) (h : k < c) (room : 8 * c ≤ length before) (d : Laid (core_bytes cores) 8 before k (8 * k) xs) where
  pub core_turn : (ys : List ℕ) → ys ≡ over (core_record (rate_at cores k).pivot (rate_at cores k).divisor) (take (length xs - 8 * k) (drop (8 * k) xs)) → Laid (core_bytes cores) 8 before (k + 1) (8 * (k + 1)) (put_mid (8 * k) (length xs - 8 * k) xs ys)
  unfolding core_bytes
  core_turn ys q =
      let next : 8 * k + 8 ≡ 8 * (k + 1) = omega arith in
      rw next at (lay_turn (core_bytes cores) 8 (core_size cores) c k (8 * k) before xs ys h room d q)

-- the sheet, part by part; `cores` is the rates of the open cores
module _ (l : List ℕ) (a : Assignment) (r : Rates) (cores : List CoreRate) (few : job_count l ≤ 64) (all : Assigned l a) (rated : Rated l a r) (size : length r.cores ≡ 8) (e : cores ≡ take a.cores r.cores) where
  open_size : length cores ≡ a.cores
  open_size = ap length e ∙ length-take-le a.cores r.cores (omega (arith, all.few))

  tasks : List ℕ
  tasks = joined (task_bytes l a.core r.factors) (numbers 0 (job_count l))

  records : List ℕ
  records = joined (core_bytes cores) (numbers 0 (length cores))

  tasks_size : length tasks ≡ 10 * job_count l
  unfolding tasks
  tasks_size = records_length _ 10 (task_size l a.core r.factors) 0 (job_count l)

  records_size : length records ≡ 8 * a.cores
  unfolding records
  records_size = records_length _ 8 (core_size cores) 0 (length cores) ∙ ap (λ n. 8 * n) open_size

  sheet_parts : header (job_count l) a.cores ++ (tasks ++ records) ≡ sheet_of (job_period l) (job_budget l) (job_count l) a
  unfolding sheet_of tasks records task_bytes core_bytes
  sheet_parts =
      rw (
        open_size,
        records_ext _ (λ i. task_record (job_period l i) (job_budget l i) (get_or a.core i 0) (factor_for (job_period l) (job_budget l) (job_count l) a i)) 0 (job_count l) (λ i x y. ap (task_record (job_period l i) (job_budget l i) (get_or a.core i 0)) (rated.factor i (rw zero-add at y))),
        records_ext _ (λ k. core_record (figures_for (job_period l) (job_budget l) (job_count l) a k).Q (figures_for (job_period l) (job_budget l) (job_count l) a k).D) 0 a.cores (λ k x y. ap₂ core_record (rate_is k (rw zero-add at y) (λ r. r.pivot) ∙ rated.pivot k (rw zero-add at y)) (rate_is k (rw zero-add at y) (λ r. r.divisor) ∙ rated.divisor k (rw zero-add at y))),
      )
    where
      rate_is : (k : ℕ) → k < a.cores → (g : CoreRate → ℕ) → g (rate_at cores k) ≡ g (rate_at r.cores k)
      rate_is k h g = ap g (ap (λ t. rate_at t k) e ∙ get_or-take a.cores r.cores k _ h)

  pub sheet_length : 8 + 10 * job_count l + 8 * a.cores ≡ length (sheet_of (job_period l) (job_budget l) (job_count l) a)
  unfolding header
  sheet_length = rw (← sheet_parts) (simp length-append (omega (arith, tasks_size, records_size)))

  pub sheet_written : (out head ys zs : List ℕ) → 712 ≤ length out → head ≡ over (header (job_count l) a.cores) out → ys ≡ over (joined (task_bytes l a.core r.factors) (numbers 0 (job_count l))) (take (length head - 8) (drop 8 head)) → zs ≡ over (joined (core_bytes cores) (numbers 0 (length cores))) (take (length (put_mid 8 (length head - 8) head ys) - (8 + 10 * job_count l)) (drop (8 + 10 * job_count l) (put_mid 8 (length head - 8) head ys))) → put_mid (8 + 10 * job_count l) (length (put_mid 8 (length head - 8) head ys) - (8 + 10 * job_count l)) (put_mid 8 (length head - 8) head ys) zs ≡ over (sheet_of (job_period l) (job_budget l) (job_count l) a) out
  unfolding tasks records header
  sheet_written out head ys zs room h t c =
      parts_written (header (job_count l) a.cores) tasks records out head ys zs (10 * job_count l) refl tasks_size (omega arith) h t c
      ∙ ap (λ (s : List ℕ). over s out) sheet_parts
