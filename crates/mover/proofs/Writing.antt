-- The sheet that is written, part by part.
-- Assumes nothing.
use Prim.Native.Nat.{ℕ, ◌+◌, ◌-◌, ◌*◌, ◌≤◌}
use mathlib.Core.Path.{◌≡◌, ap, ap₂, ◌∙◌}
use mathlib.Core.List.{List, ◌++◌}
use native.Mathlib.Nat.{zero-add}
use native.Mathlib.Omega.{arith}
use lib.ListN.{length, take, drop, length-append}
use lib.Seq.{drop-drop}
use borrow.Rule.Slice.PartMut.{put_mid}
use Rattle.fit.specs.Lists.{numbers, joined, over}
use Rattle.fit.proofs.Lists.{part}
use Rattle.fit.proofs.Laying.{parts_written, records_length, records_ext}
use Rattle.mover.specs.declared.Arrangement.{Arrangement}
use Rattle.mover.specs.Moved.{header_with, task_with, core_with, Layout, laid_out}
use Rattle.mover.specs.Steps.{task_bytes, core_bytes, Sized, Arranged}
use Rattle.mover.proofs.Records.{header_size, task_size, core_size}

module _ (s : List ℕ) (n c : ℕ) (a : Arrangement) (y : Layout) (sized : Sized s n c) (arranged : Arranged y n c a) where
  tasks : List ℕ
  tasks = joined (task_bytes (drop 8 s) a.from a.byte4) (numbers 0 n)

  cores : List ℕ
  cores = joined (core_bytes (drop (10 * n) (drop 8 s)) a.counts) (numbers 0 c)

  tasks_size : length tasks ≡ 10 * n
  unfolding tasks
  tasks_size = records_length _ 10 (task_size (drop 8 s) a.from a.byte4) 0 n

  cores_size : length cores ≡ 8 * c
  unfolding cores
  cores_size = records_length _ 8 (core_size (drop (10 * n) (drop 8 s)) a.counts) 0 c

  sheet_parts : header_with s a.version ++ (tasks ++ cores) ≡ laid_out y s
  unfolding laid_out tasks cores task_bytes core_bytes
  sheet_parts =
      rw (
        arranged.version,
        records_ext _ (λ i. task_with (drop 8 s) (y.from i) (y.byte4 i)) 0 n (λ i x h. ap₂ (task_with (drop 8 s)) (arranged.from i (rw zero-add at h)) (arranged.byte4 i (rw zero-add at h))),
        records_ext _ (λ k. core_with (drop (10 * n) (drop 8 s)) k (y.count k)) 0 c (λ k x h. ap (core_with (drop (10 * n) (drop 8 s)) k) (arranged.count k (rw zero-add at h))),
        ← sized.tasks,
        ← sized.cores,
      )

  pub sheet_length : 8 + 10 * n + 8 * c ≡ length (laid_out y s)
  sheet_length = rw (← sheet_parts) (simp length-append (omega (arith, header_size s a.version, tasks_size, cores_size)))

  pub sheet_written : (out head ys zs : List ℕ) → 712 ≤ length out → head ≡ over (header_with s a.version) out → ys ≡ over (joined (task_bytes (take (length s - 8) (drop 8 s)) a.from a.byte4) (numbers 0 n)) (take (length head - 8) (drop 8 head)) → zs ≡ over (joined (core_bytes (take (length s - (8 + 10 * n)) (drop (8 + 10 * n) s)) a.counts) (numbers 0 c)) (take (length (put_mid 8 (length head - 8) head ys) - (8 + 10 * n)) (drop (8 + 10 * n) (put_mid 8 (length head - 8) head ys))) → put_mid (8 + 10 * n) (length (put_mid 8 (length head - 8) head ys) - (8 + 10 * n)) (put_mid 8 (length head - 8) head ys) zs ≡ over (laid_out y s) out
  unfolding tasks cores
  sheet_written out head ys zs room h t k =
      parts_written (header_with s a.version) tasks cores out head ys zs (10 * n) (header_size s a.version) tasks_size (omega (arith, sized.few_tasks)) h (rw (part s 8) at t) (rw (part s (8 + 10 * n), ← drop-drop (10 * n) 8 s) at k)
      ∙ ap (λ (x : List ℕ). over x out) sheet_parts
