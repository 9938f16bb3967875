-- A fresh state filled in priority order, step by step as the code goes, and the same by position and by task number.
-- Assumes nothing.
use Prim.Native.Nat.{ℕ, ◌+◌, ◌-◌, ◌*◌, ◌≤◌, ◌<◌, min}
use mathlib.Core.Path.{◌≡◌, refl, sym, ap, ◌∙◌}
use mathlib.Core.Bool.{Bool}
use mathlib.Core.List.{List, [], ◌∷◌, ◌++◌, map}
use native.Mathlib.Omega.{arith}
use lib.ListN.{length, drop, replicate, length-replicate, length-map}
use Rattle.sheet.specs.Records.{Figures, period_at, budget_at}
use Rattle.sheet.specs.Views.{core_of_position, number_of_position, stroke_of_position, positioned_in}
use Rattle.fit.specs.declared.By.TheVariants.{Period}
use Rattle.fit.specs.Lists.{at, Each}
use Rattle.fit.specs.Priority.{order}
use Rattle.fit.specs.Ring.{order_by}
use Rattle.fit.specs.Cores.{order_on}
use Rattle.fit.specs.Answers.{Column}
use Rattle.fit.proofs.Overwriting.{overwritten, over_turn, over_end}
use Rattle.std.proofs.lemmas.List.{drop-replicate}
use Rattle.fit.proofs.Lists.{each_of}
use Rattle.fit.proofs.Priority.{order_members, order_ext}
use Rattle.fit.proofs.Selecting.{order_core_ext}
use Rattle.views.specs.Renamed.{Renamed}
use Rattle.timing.specs.declared.Task.{Task}
use Rattle.timing.specs.Serving.{no_task}
use Rattle.state.specs.declared.Core.{Core}
use Rattle.dispatcher.specs.Starts.{fresh_tasks, state_of}
use Rattle.timing.specs.Calls.{no_stroke}
use Rattle.state.specs.State.{stroke_in}
use Rattle.state.specs.Steps.{changed}
use Rattle.dispatcher.specs.Steps.{fresh_by}
use Rattle.state.proofs.Outcomes.{state_is}

-- the first i of the tasks that t makes of a list are in their places, and zeros past them
pub record Filled (t : ℕ → Task) (l : List ℕ) (i : ℕ) (s : Core) : Type 0 where
  pub tasks : s.tasks ≡ overwritten t l (replicate 64 no_task) i
  pub stroke : stroke_in s ≡ no_stroke

module _ (t : ℕ → Task) (l : List ℕ) where
  pub fill_start : (s : Core) → s ≡ state_of [] → Filled t l 0 s
  unfolding state_of
  fill_start s h = record { tasks = ap (λ y. y.tasks) h; stroke = ap stroke_in h }

  pub fill_turn : (i : ℕ) (u : Task) (s : Core) → length l ≤ 64 → i < length l → Filled t l i s → u ≡ t (at l i) → Filled t l (i + 1) (changed s i u)
  fill_turn i u s few h f e = record { tasks = rw (e, f.tasks) (over_turn t l (replicate 64 no_task) i 0 h (simp length-replicate (omega arith))); stroke = f.stroke }

  -- all are in their places
  pub fill_end : (i n : ℕ) (s : Core) → i ≤ length l → length l ≤ i → n ≡ length l → Filled t l i s → record { count = n; tasks = s.tasks; stroke_task = s.stroke_task; stroke_left = s.stroke_left } ≡ state_of (map t l)
  unfolding state_of
  fill_end i n s a b e f =
      let many : length (map t l) ≡ length l = length-map l t in
      state_is _ _ _ _ _ (e ∙ sym many) (f.tasks ∙ over_end t l (replicate 64 no_task) i (omega arith) ∙ ap (λ u. map t l ++ u) (drop-replicate (length l) 64 no_task) ∙ ap (λ n. map t l ++ replicate (64 - n) no_task) (sym many)) (ap (λ u. u.task) f.stroke) (ap (λ u. u.left) f.stroke)

-- the fresh state of a core, by a column of periods and one of cores
pub fresh_core : (grouped stroked : Bool) (records cores periods on o : List ℕ) (n c k : ℕ) (s : Core) → n ≤ 64 → cores ≡ drop (10 * n) records → Column (core_of_position grouped c records cores) (min n 64) on → Column (period_at records) (min n 64) periods → o ≡ order (at periods) (at on) k (min n 64) → s ≡ state_of (fresh_by (period_at records) (budget_at records) (stroke_of_position stroked records) (number_of_position grouped records) o) → s ≡ state_of (fresh_by (period_at records) (budget_at records) (stroke_of_position stroked records) (number_of_position grouped records) (order_on (positioned_in grouped stroked n c records) k))
unfolding order_on
fresh_core grouped stroked records cores periods on o n c k s few after a b h q =
    let same : min n 64 ≡ n = omega arith in
    q
    ∙ ap (λ l. state_of (fresh_by (period_at records) (budget_at records) (stroke_of_position stroked records) (number_of_position grouped records) l))
    (h
    ∙ order_ext (at periods) (period_at records) (at on) k (min n 64) b.below
    ∙ order_core_ext (period_at records) (at on) (core_of_position grouped c records cores) k k (min n 64) (λ i l. rw (a.below i l))
    ∙ rw (same, after))

-- the fresh state of a list, whose tasks have their places as numbers
pub fresh_list : (p e : ℕ → ℕ) (n : ℕ) (o : List ℕ) (s : Core) → n ≤ 64 → o ≡ order_by Period p (min n 64) → s ≡ state_of (fresh_by p e (λ j. 1) (λ j. j) o) → s ≡ state_of (fresh_tasks p e (λ j. 1) (order_by Period p n))
unfolding fresh_by fresh_tasks
fresh_list p e n o s few h q =
    let same : min n 64 ≡ n = omega arith in
    q ∙ ap (λ l. state_of (fresh_tasks p e (λ j. 1) l)) (h ∙ ap (order_by Period p) same)

-- tasks under other numbers are fresh alike
fresh_renumbered : (p e x q d y r : ℕ → ℕ) (l : List ℕ) → Each (λ j. (q (r j) ≡ p j) × (d (r j) ≡ e j) × (y (r j) ≡ x j)) l → fresh_tasks q d y (map r l) ≡ fresh_by p e x r l
unfolding fresh_tasks fresh_by Each
fresh_renumbered p e x q d y r [] h = refl
fresh_renumbered p e x q d y r (j ∷ l) h = rw (h.0.0, h.0.1, h.0.2, fresh_renumbered p e x q d y r l h.1)

-- the fresh tasks of a core, by position and by number
pub fresh_renamed : (f g : Figures) (r : ℕ → ℕ) → Renamed f g r → (k : ℕ) → fresh_tasks g.period g.budget g.stroke (order_on g k) ≡ fresh_by f.period f.budget f.stroke r (order_on f k)
unfolding order_on
fresh_renamed f g r s k =
    ap (fresh_tasks g.period g.budget g.stroke) (s.order k)
    ∙ fresh_renumbered f.period f.budget f.stroke g.period g.budget g.stroke r (order_on f k)
    (each_of _ (λ j m. (s.period j m.0, s.budget j m.0, s.stroke j m.0)) (order_members f.period f.core k f.tasks))
