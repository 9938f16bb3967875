-- The worst run of a task: it is released with all tasks above it, and these are released again whenever they are due. After b rounds the
-- work left above it, its own ticks left and b make its demand at b, so it is pending as long as no t has met its demand.
-- Assumes nothing.
use Prim.Native.Nat.{ℕ, zero, suc, ◌+◌, ◌*◌, ◌≤◌, ◌<◌}
use mathlib.Core.Path.{◌≡◌, refl, sym, ap, subst, ◌∙◌}
use mathlib.Core.Logic.{⊎_elim}
use mathlib.Core.List.{List, [], ◌∷◌, ◌++◌, map, map-map, append-nil}
use native.Mathlib.Nat.{mul-suc}
use native.Mathlib.Omega.{arith}
use lib.ListN.{length, length-map}
use Rattle.fit.specs.Lists.{sum, Each}
use Rattle.fit.specs.Rounding.{ceiling}
use Rattle.fit.proofs.Lists.{each_both}
use Rattle.fit.proofs.Ceiling.{ceiling_reaches}
use Rattle.timing.specs.declared.Task.{Task}
use Rattle.timing.specs.Tasks.{pending, with_job, released, used, older}
use Rattle.timing.specs.Calls.{Call, tick, Answer, modify, answer_by, next_by, run}
use Rattle.timing.specs.Serving.{nth}
use Rattle.timing.proofs.Rate.{sum_of}
use Rattle.timing.proofs.Lists.{zero_or_pos, each_map, nth_each, sum_map}
use Rattle.timing.proofs.Runs.{run_kept, run_both}
use Rattle.timing.proofs.Steps.{Release, is_early, is_late, starts, release_view, changed_tick, each_changed, bare, bare_next, length_next}
use Rattle.timing.proofs.Level.{work, work_used, work_older, work_tick}
use Rattle.timing.proofs.Plain.{PlainGood, plain_kept, plain_young}
use Rattle.margin.specs.Margin.{request}
use Rattle.margin.proofs.Ceilings.{ceiling_same, ceiling_more}
use Rattle.margin.proofs.Enough.{level}
use Rattle.margin.proofs.Releases.{releases, round, rounds, numbers_of, release_all, next_last}

-- what a task asks for in b ticks
abbrev pub asked : ℕ → Task → ℕ
asked b t = t.budget * ceiling b t.period

-- the age of a task that is released whenever it is due, after b ticks and before the release of then
abbrev pub Timed : ℕ → Task → Type 0
Timed b t = t.age + t.period * ceiling b t.period ≡ b + t.period

-- and after that release
record Due (b : ℕ) (t : Task) : Type 0 where
  age : t.age + t.period * ceiling (b + 1) t.period ≡ b + t.period
  under : t.age < t.period

-- a task in time, before the release
record Waiting (b : ℕ) (t : Task) : Type 0 where
  period : 0 < t.period
  timed : Timed b t
  young : 0 < t.left → t.age < t.period

-- what the release does to it
record Turned (b : ℕ) (t t' : Task) : Type 0 where
  left : t'.left + asked b t ≡ t.left + asked (b + 1) t
  due : Due b t'

released_turned : (b : ℕ) (t : Task) → Waiting b t → Turned b t (released t)
unfolding with_job
released_turned b t h = go (release_view t)
  where
    go : {a : Answer} {t' : Task} → Release t a t' → Turned b t t'
    go (is_early x) =
        let same : ceiling (b + 1) t.period ≡ ceiling b t.period = ceiling_same t.period h.period b (omega (arith, h.timed)) in
        record { left = rw same; due = record { age = rw same h.timed; under = x } }
    go (is_late x y) = absurd (omega (arith, h.young y))
    go (starts x y) =
        let more : ceiling (b + 1) t.period ≡ ceiling b t.period + 1 = ceiling_more t.period h.period b (omega (arith, h.timed, ceiling_reaches b t.period h.period)) in
        let budget = mul-suc t.budget (ceiling b t.period) in
        let period = mul-suc t.period (ceiling b t.period) in
        record { left = rw more (omega (arith, budget)); due = record { age = rw more (omega (arith, period, h.timed, ceiling_reaches b t.period h.period)); under = h.period } }

-- so the work grows by what is newly asked for
work_turned : (b : ℕ) (s : List Task) → Each (Waiting b) s → work (map released s) + sum_of (asked b) s ≡ work s + sum_of (asked (b + 1)) s
unfolding sum_of Each
work_turned b [] h = refl
work_turned b (t ∷ s) h = omega (arith, (released_turned b t h.0).left, work_turned b s h.1)

-- and after the tick every task is in time again
timed_next : (b : ℕ) (s : List Task) → Each (Waiting b) s → Each (Timed (b + 1)) (next_by pending tick (map released s))
unfolding next_by used older with_job
timed_next b s h = each_map (Due b) (Timed (b + 1)) older (modify pending used (map released s)) (λ t k. omega (arith, k.age, k.under)) (each_changed (Due b) (λ t k. record { age = k.age; under = k.under }) (changed_tick pending used (map released s)) (each_map (Waiting b) (Due b) released s (λ t k. (released_turned b t k).due) h))

-- a call changes no number, and no sum of figures
figures_next : (f : Task → ℕ) → ((t : Task) → f (bare t) ≡ f t) → (c : Call) (s : List Task) → sum_of f (next_by pending c s) ≡ sum_of f s
figures_next f same c s = sym (of_bare (next_by pending c s)) ∙ ap (sum_of f) (bare_next pending c s) ∙ of_bare s
  where
    of_bare : (s : List Task) → sum_of f (map bare s) ≡ sum_of f s
    of_bare s = sum_map f bare s ∙ ap (λ g. sum_of g s) (λ i t. same t i)

numbers_next : (c : Call) (s : List Task) → numbers_of (next_by pending c s) ≡ numbers_of s
unfolding bare with_job
numbers_next c s = sym (map-map (λ t. t.number) bare (next_by pending c s)) ∙ ap numbers_of (bare_next pending c s) ∙ map-map (λ t. t.number) bare s

-- all work of a list of tasks and one more
work_last : (s : List Task) (t : Task) → work (s ++ t ∷ []) ≡ work s + t.left
unfolding sum_of
work_last [] t = omega arith
work_last (u ∷ s) t = omega (arith, work_last s t)

-- a tick takes one from the work, if there is any
tick_work : (s : List Task) → 0 < work s → work (next_by pending tick s) + 1 ≡ work s
unfolding next_by
tick_work s h = omega (arith, work_older (modify pending used s), work_used h (changed_tick pending used s))

module _ (p e w : ℕ → ℕ) (xs : List ℕ) (i : ℕ) where
  -- tasks with the numbers xs and the figures of p and e
  pub record Numbered (s : List Task) : Type 0 where
    pub numbers : numbers_of s ≡ xs
    pub asks : (t : ℕ) → sum_of (asked t) s ≡ sum (request p e t) xs
    pub good : PlainGood w e s

  numbered_next : (c : Call) (s : List Task) → Numbered s → Numbered (next_by pending c s)
  unfolding bare with_job
  numbered_next c s h = record {
    numbers = numbers_next c s ∙ h.numbers;
    asks = λ t. figures_next (asked t) (λ u. refl) c s ∙ h.asks t;
    good = plain_kept w e c s h.good;
  }

  -- the state after b rounds: the tasks xs, and the task i below them
  pub record Held (b : ℕ) (s : List Task) (u : Task) : Type 0 where
    pub above : Numbered s
    pub timed : Each (Timed b) s
    pub total : work s + u.left + b ≡ level p e xs i b
    pub waits : 0 < u.left

  waiting : (b : ℕ) (s : List Task) → Numbered s → Each (Timed b) s → Each (Waiting b) s
  waiting b s h t = each_both s (λ u x y. record { period = y.0; timed = x; young = y.1 }) t (each_both {R = λ u. (0 < u.period) × (0 < u.left → u.age < u.period)} s (λ u x y. (x.period_min, y)) h.good.good.form.tasks.sound (nth_each _ s (λ k lt. plain_young w e s k h.good)))

  -- one round more
  round_held : (b : ℕ) (s : List Task) (u : Task) → b + 1 < level p e xs i (b + 1) → Held b s u → (v : Task) × (run (next_by pending) (s ++ u ∷ []) (round xs) ≡ next_by pending tick (map released s) ++ v ∷ []) × Held (b + 1) (next_by pending tick (map released s)) v
  unfolding run level
  round_held b s u short h = (v, runs (u ∷ []) ∙ next_last tick r u, record { above = kept; timed = timed_next b s wait; total = omega (arith, whole, more); waits = ⊎_elim idle busy (zero_or_pos (work r)) })
    where
      r : List Task
      r = map released s

      v : Task
      v = nth (next_by pending tick (r ++ u ∷ [])) (length r)

      wait : Each (Waiting b) s
      wait = waiting b s h.above h.timed

      runs : (rest : List Task) → run (next_by pending) (s ++ rest) (round xs) ≡ next_by pending tick (r ++ rest)
      runs rest = run_both (answer_by pending) (next_by pending) (releases xs) (tick ∷ []) (s ++ rest) ∙ ap (next_by pending tick) (ap (λ x. run (next_by pending) (s ++ rest) (releases x)) (sym h.above.numbers) ∙ release_all s rest h.above.good.good.form.tasks.distinct)

      kept : Numbered (next_by pending tick r)
      kept = subst Numbered (ap (λ x. run (next_by pending) x (round xs)) (sym (append-nil s)) ∙ runs [] ∙ ap (next_by pending tick) (append-nil r)) (run_kept (next_by pending) Numbered numbered_next (round xs) s h.above)

      more : work r + u.left + b ≡ e i + sum (request p e (b + 1)) xs
      more = omega (arith, work_turned b s wait, h.above.asks b, h.above.asks (b + 1), h.total)

      whole : work (next_by pending tick r) + v.left + 1 ≡ work r + u.left
      whole = omega (arith, work_last (next_by pending tick r) v, ap work (next_last tick r u), tick_work (r ++ u ∷ []) (omega (arith, work_last r u, h.waits)), work_last r u)

      idle : work r ≡ 0 → 0 < v.left
      idle z = omega (arith, whole, more, work_tick pending r)

      busy : 0 < work r → 0 < v.left
      busy z = omega (arith, whole, tick_work r z, h.waits)

  -- n rounds more: the task below is still pending, and stands where it stood
  pub rounds_held : (n b : ℕ) (s : List Task) (u : Task) → ((t : ℕ) → b < t → t ≤ b + n → t < level p e xs i t) → Held b s u → (s' : List Task) × (v : Task) × (run (next_by pending) (s ++ u ∷ []) (rounds xs n) ≡ s' ++ v ∷ []) × (length s' ≡ length s) × (0 < v.left)
  unfolding run rounds
  rounds_held zero b s u short h = (s, u, refl, refl, h.waits)
  rounds_held (suc n) b s u short h =
      let one = round_held b s u (short (b + 1) (omega arith) (omega arith)) h in
      let more = rounds_held n (b + 1) (next_by pending tick (map released s)) one.0 (λ t x y. short t (omega arith) (omega arith)) one.2 in
      (more.0, more.1, run_both (answer_by pending) (next_by pending) (round xs) (rounds xs n) (s ++ u ∷ []) ∙ ap (λ x. run (next_by pending) x (rounds xs n)) one.1 ∙ more.2, more.3 ∙ length_next pending tick (map released s) ∙ length-map s released, more.4)
