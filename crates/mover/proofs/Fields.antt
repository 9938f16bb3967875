-- The fields of a sheet that is laid out anew are those of the positions that its records come from.
-- Assumes nothing.
use Prim.Native.Nat.{ℕ, zero, suc, ◌+◌, ◌-◌, ◌*◌, ◌≤◌, ◌<◌}
use mathlib.Core.Path.{◌≡◌, refl, sym, ap, ap₂, ◌∙◌}
use mathlib.Core.List.{List, [], ◌∷◌, ◌++◌, append-nil}
use mathlib.Core.Bool.{Bool, true, false}
use native.Mathlib.Omega.{arith}
use borrow.Author.Tests.{ltb-true, ltb-false}
use lib.ListN.{length, get_or, take, drop, length-append, get_or-append}
use lib.Seq.{drop_at, get_or-append-add}
use lib.Dec.{ltb}
use Rattle.sheet.specs.Numbers.{word, long}
use Rattle.sheet.specs.Records.{period_at, budget_at, factor_at, pivot_at, divisor_at, number_at, count_at, task_count, core_count}
use Rattle.sheet.specs.Views.{version}
use Rattle.fit.specs.Lists.{numbers, joined}
use Rattle.fit.proofs.Laying.{records_length, record_at}
use Rattle.mover.specs.Moved.{bytes, header_with, task_with, core_with, Layout, laid_out}

-- bytes of a list, one by one
bytes_at : (s : List ℕ) (a n b : ℕ) → b < n → get_or (bytes s a n) b 0 ≡ get_or s (a + b) 0
unfolding bytes
bytes_at s a zero b h = absurd (omega arith)
bytes_at s a (suc n) zero h =
    let z : a + 0 ≡ a = omega arith in
    rw z
bytes_at s a (suc n) (suc b) h =
    let z : a + suc b ≡ suc a + b = omega arith in
    rw z (bytes_at s (suc a) n b (omega arith))

pub bytes_take : (s : List ℕ) (a n : ℕ) → a + n ≤ length s → bytes s a n ≡ take n (drop a s)
unfolding bytes
bytes_take s a zero h = refl
bytes_take s a (suc n) h =
    let first : drop a s ≡ get_or s a 0 ∷ drop (suc a) s = drop-cons a s (omega arith) in
    rw first (ap (λ (l : List ℕ). get_or s a 0 ∷ l) (bytes_take s (suc a) n (omega arith)))
  where
    drop-cons : (a : ℕ) (s : List ℕ) → a < length s → drop a s ≡ get_or s a 0 ∷ drop (suc a) s
    drop-cons a [] h = absurd (omega arith)
    drop-cons zero (x ∷ s) h = refl
    drop-cons (suc a) (x ∷ s) h = drop-cons a s (omega arith)

pub bytes_length : (s : List ℕ) (a n : ℕ) → length (bytes s a n) ≡ n
unfolding bytes
bytes_length s a zero = refl
bytes_length s a (suc n) = rw (bytes_length s (suc a) n)

bytes_ext : (s t : List ℕ) (a b n : ℕ) → ((x : ℕ) → x < n → get_or s (a + x) 0 ≡ get_or t (b + x) 0) → bytes s a n ≡ bytes t b n
unfolding bytes
bytes_ext s t a b zero h = refl
bytes_ext s t a b (suc n) h =
    let z : a + 0 ≡ a = omega arith in
    let w : b + 0 ≡ b = omega arith in
    let first : get_or s a 0 ≡ get_or t b 0 = rw (z, w) at (h 0 (omega arith)) in
    rw (first, bytes_ext s t (suc a) (suc b) n (next h))
  where
    next : ((x : ℕ) → x < suc n → get_or s (a + x) 0 ≡ get_or t (b + x) 0) → (x : ℕ) → x < n → get_or s (suc a + x) 0 ≡ get_or t (suc b + x) 0
    next h x l =
        let z : a + suc x ≡ suc a + x = omega arith in
        let w : b + suc x ≡ suc b + x = omega arith in
        rw (z, w) at (h (suc x) (omega arith))

-- bytes a on with one byte x in their midst, at place p
module _ (s : List ℕ) (a p c q x : ℕ) (e : c ≡ a + p + 1) where
  abbrev with : List ℕ
  with = bytes s a p ++ (x ∷ bytes s c q)

  with_byte : get_or with p 0 ≡ x
  with_byte =
      let z : p ≡ length (bytes s a p) + 0 = omega (arith, bytes_length s a p) in
      ap (λ i. get_or with i 0) z ∙ get_or-append-add (bytes s a p) (x ∷ bytes s c q) 0 0

  with_other : (b : ℕ) → b < p + 1 + q → (b ≡ p → ⊥) → get_or with b 0 ≡ get_or s (a + b) 0
  with_other b h n = by (ltb b p) refl
    where
      by : (t : Bool) → ltb b p ≡ t → get_or with b 0 ≡ get_or s (a + b) 0
      by true t = get_or-append (bytes s a p) _ 0 b (omega (arith, bytes_length s a p, ltb-true b p t)) ∙ bytes_at s a p b (ltb-true b p t)
      by false t =
          let low : p ≤ b = ltb-false b p t in
          let w : b ≡ length (bytes s a p) + suc (b - p - 1) = omega (arith, bytes_length s a p, n) in
          let z : c + (b - p - 1) ≡ a + b = omega (arith, n, e) in
          ap (λ i. get_or with i 0) w ∙ get_or-append-add (bytes s a p) (x ∷ bytes s c q) (suc (b - p - 1)) 0 ∙ bytes_at s c q (b - p - 1) (omega (arith, n)) ∙ ap (λ i. get_or s i 0) z

module _ (y : Layout) (s : List ℕ) where
  abbrev records : List ℕ
  records = drop 8 s

  abbrev core_records : List ℕ
  core_records = drop (10 * task_count s) (drop 8 s)

  unfoldable task : ℕ → List ℕ
  task i = task_with records (y.from i) (y.byte4 i)

  unfoldable core : ℕ → List ℕ
  core k = core_with core_records k (y.count k)

  task_size : (i : ℕ) → length (task i) ≡ 10
  unfolding task task_with bytes
  task_size i = refl

  core_size : (k : ℕ) → length (core k) ≡ 8
  unfolding core core_with bytes
  core_size k = refl

  unfoldable tasks : List ℕ
  tasks = joined task (numbers 0 (task_count s))

  unfoldable cores : List ℕ
  cores = joined core (numbers 0 (core_count s))

  tasks_size : length tasks ≡ 10 * task_count s
  unfolding tasks
  tasks_size = records_length task 10 task_size 0 (task_count s)

  cores_size : length cores ≡ 8 * core_count s
  unfolding cores
  cores_size = records_length core 8 core_size 0 (core_count s)

  laid : laid_out y s ≡ header_with s y.version ++ (tasks ++ cores)
  unfolding laid_out tasks cores task core
  laid = refl

  -- the header
  pub laid_mark : (get_or (laid_out y s) 0 0 ≡ get_or s 0 0) × (get_or (laid_out y s) 1 0 ≡ get_or s 1 0) × (get_or (laid_out y s) 2 0 ≡ get_or s 2 0)
  unfolding laid_out header_with bytes
  laid_mark = (refl, refl, refl)

  pub laid_version : version (laid_out y s) ≡ y.version
  unfolding laid_out header_with bytes word
  laid_version = omega arith

  pub laid_tasks : task_count (laid_out y s) ≡ task_count s
  unfolding laid_out header_with bytes
  laid_tasks = refl

  pub laid_cores : core_count (laid_out y s) ≡ core_count s
  unfolding laid_out header_with bytes
  laid_cores = refl

  pub laid_spare : get_or (laid_out y s) 7 0 ≡ get_or s 7 0
  unfolding laid_out header_with bytes
  laid_spare = refl

  pub laid_length : length (laid_out y s) ≡ 8 + 10 * task_count s + 8 * core_count s
  unfolding header_with bytes
  laid_length = ap length laid ∙ simp length-append (omega (arith, tasks_size, cores_size))

  -- the records
  after_header : drop 8 (laid_out y s) ≡ tasks ++ cores
  unfolding header_with bytes
  after_header = ap (drop 8) laid

  after_tasks : drop (10 * task_count s) (drop 8 (laid_out y s)) ≡ cores ++ []
  after_tasks = rw after_header (drop_at tasks cores (10 * task_count s) tasks_size ∙ sym (append-nil cores))

  module _ (i : ℕ) (h : i < task_count s) where
    abbrev from : ℕ
    from = y.from i

    task_byte : (b : ℕ) → b < 10 → get_or (drop 8 (laid_out y s)) (10 * i + b) 0 ≡ get_or (task i) b 0
    unfolding tasks
    task_byte b q = rw after_header (record_at task 10 task_size cores (task_count s) i h (10 * i + b) b refl q)

    task_other : (b : ℕ) → b < 10 → (b ≡ 4 → ⊥) → get_or (drop 8 (laid_out y s)) (10 * i + b) 0 ≡ get_or records (10 * from + b) 0
    unfolding task task_with
    task_other b q n = task_byte b q ∙ with_other records (10 * from) 4 (10 * from + 5) 5 (y.byte4 i) (omega arith) b q n

    task_word : (x z b : ℕ) → x ≡ 10 * i + b → z ≡ 10 * from + b → b + 1 < 10 → (b ≡ 4 → ⊥) → (b + 1 ≡ 4 → ⊥) → word (drop 8 (laid_out y s)) x ≡ word records z
    unfolding word
    task_word x z b ex ez q n m =
        let one : 10 * i + b + 1 ≡ 10 * i + (b + 1) = omega arith in
        let two : 10 * from + b + 1 ≡ 10 * from + (b + 1) = omega arith in
        rw (ex, ez, one, two) (ap₂ (λ u v. u + 256 * v) (task_other b (omega arith) n) (task_other (b + 1) q m))

    pub laid_period : period_at (drop 8 (laid_out y s)) i ≡ period_at records from
    laid_period = task_word (10 * i) (10 * from) 0 (omega arith) (omega arith) (omega arith) (λ e. omega arith) (λ e. omega arith)

    pub laid_budget : budget_at (drop 8 (laid_out y s)) i ≡ budget_at records from
    laid_budget = task_word (10 * i + 2) (10 * from + 2) 2 refl refl (omega arith) (λ e. omega arith) (λ e. omega arith)

    pub laid_byte4 : number_at (drop 8 (laid_out y s)) i ≡ y.byte4 i
    unfolding task task_with
    laid_byte4 = task_byte 4 (omega arith) ∙ with_byte records (10 * from) 4 (10 * from + 5) 5 (y.byte4 i) (omega arith)

    pub laid_task_spare : get_or (drop 8 (laid_out y s)) (10 * i + 5) 0 ≡ get_or records (10 * from + 5) 0
    laid_task_spare = task_other 5 (omega arith) (λ e. omega arith)

    pub laid_factor : factor_at (drop 8 (laid_out y s)) i ≡ factor_at records from
    unfolding long
    laid_factor = ap₂ (λ u v. u + 65536 * v) (task_word (10 * i + 6) (10 * from + 6) 6 refl refl (omega arith) (λ e. omega arith) (λ e. omega arith)) (task_word (10 * i + 6 + 2) (10 * from + 6 + 2) 8 (omega arith) (omega arith) (omega arith) (λ e. omega arith) (λ e. omega arith))

    -- the whole record with another byte 4
    pub laid_task : (x : ℕ) → task_with (drop 8 (laid_out y s)) i x ≡ task_with records from x
    unfolding task_with
    laid_task x = ap₂ (λ u v. u ++ (x ∷ v))
        (bytes_ext (drop 8 (laid_out y s)) records (10 * i) (10 * from) 4 (λ b q. task_other b (omega arith) (λ e. omega arith)))
        (bytes_ext (drop 8 (laid_out y s)) records (10 * i + 5) (10 * from + 5) 5 (λ b q. shifted b q))
      where
        shifted : (b : ℕ) → b < 5 → get_or (drop 8 (laid_out y s)) (10 * i + 5 + b) 0 ≡ get_or records (10 * y.from i + 5 + b) 0
        shifted b q =
            let one : 10 * i + 5 + b ≡ 10 * i + (5 + b) = omega arith in
            let two : 10 * y.from i + 5 + b ≡ 10 * y.from i + (5 + b) = omega arith in
            rw (one, two) (task_other (5 + b) (omega arith) (λ e. omega arith))

  abbrev new_cores : List ℕ
  new_cores = drop (10 * task_count s) (drop 8 (laid_out y s))

  module _ (k : ℕ) (h : k < core_count s) where
    core_byte : (b : ℕ) → b < 8 → get_or new_cores (8 * k + b) 0 ≡ get_or (core k) b 0
    unfolding cores
    core_byte b q = rw after_tasks (record_at core 8 core_size [] (core_count s) k h (8 * k + b) b refl q)

    core_other : (b : ℕ) → b < 8 → (b ≡ 2 → ⊥) → get_or new_cores (8 * k + b) 0 ≡ get_or core_records (8 * k + b) 0
    unfolding core core_with
    core_other b q n = core_byte b q ∙ with_other core_records (8 * k) 2 (8 * k + 3) 5 (y.count k) (omega arith) b q n

    core_word : (x b : ℕ) → x ≡ 8 * k + b → b + 1 < 8 → (b ≡ 2 → ⊥) → (b + 1 ≡ 2 → ⊥) → word new_cores x ≡ word core_records x
    unfolding word
    core_word x b ex q n m =
        let one : 8 * k + b + 1 ≡ 8 * k + (b + 1) = omega arith in
        rw (ex, one) (ap₂ (λ u v. u + 256 * v) (core_other b (omega arith) n) (core_other (b + 1) q m))

    pub laid_pivot : pivot_at new_cores k ≡ pivot_at core_records k
    laid_pivot = core_word (8 * k) 0 (omega arith) (omega arith) (λ e. omega arith) (λ e. omega arith)

    pub laid_count : count_at new_cores k ≡ y.count k
    unfolding core core_with
    laid_count = core_byte 2 (omega arith) ∙ with_byte core_records (8 * k) 2 (8 * k + 3) 5 (y.count k) (omega arith)

    pub laid_core_spare : get_or new_cores (8 * k + 3) 0 ≡ get_or core_records (8 * k + 3) 0
    laid_core_spare = core_other 3 (omega arith) (λ e. omega arith)

    pub laid_divisor : divisor_at new_cores k ≡ divisor_at core_records k
    unfolding long
    laid_divisor = ap₂ (λ u v. u + 65536 * v) (core_word (8 * k + 4) 4 refl (omega arith) (λ e. omega arith) (λ e. omega arith)) (core_word (8 * k + 4 + 2) 6 (omega arith) (omega arith) (λ e. omega arith) (λ e. omega arith))

    pub laid_core : (x : ℕ) → core_with new_cores k x ≡ core_with core_records k x
    unfolding core_with
    laid_core x = ap₂ (λ u v. u ++ (x ∷ v))
        (bytes_ext new_cores core_records (8 * k) (8 * k) 2 (λ b q. core_other b (omega arith) (λ e. omega arith)))
        (bytes_ext new_cores core_records (8 * k + 3) (8 * k + 3) 5 (λ b q. shifted b q))
      where
        shifted : (b : ℕ) → b < 5 → get_or new_cores (8 * k + 3 + b) 0 ≡ get_or core_records (8 * k + 3 + b) 0
        shifted b q =
            let one : 8 * k + 3 + b ≡ 8 * k + (3 + b) = omega arith in
            rw one (core_other (3 + b) (omega arith) (λ e. omega arith))
