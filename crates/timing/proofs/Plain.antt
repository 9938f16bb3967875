-- Where every stroke is of one tick, none ever lasts, and every tick goes to the first pending task: what states of versions 1 and 2 and of
-- job lists do. Assumes nothing.
use Prim.Native.Nat.{ℕ, ◌-◌, ◌<◌, min}
use mathlib.Core.Path.{◌≡◌, refl, ap, ◌∙◌}
use mathlib.Core.Logic.{⊎_elim}
use mathlib.Core.List.{List, [], ◌∷◌}
use native.Mathlib.Omega.{arith}
use Rattle.fit.specs.Lists.{Each}
use Rattle.fit.proofs.Lists.{each_at}
use Rattle.timing.specs.declared.Task.{Task}
use Rattle.timing.specs.Tasks.{pending, with_job, used}
use Rattle.timing.specs.Calls.{Call, release, finish, tick, answer_by, next_by, Stroke, no_stroke, turn, stroke_ticked, State, next_stroke, answer, next, entry, log, run}
use Rattle.timing.specs.Form.{Form}
use Rattle.timing.specs.Serving.{nth, no_task}
use Rattle.timing.specs.Strokes.{StateForm}
use Rattle.timing.proofs.Steps.{bare, changed, changed_found}
use Rattle.timing.proofs.Form.{each_of_map, figures_kept}
use Rattle.timing.proofs.Strokes.{finish_stroke}
use Rattle.timing.proofs.OnTime.{Good, good_kept, young}

-- these tasks, and no stroke
abbrev pub plain : List Task → State
plain s = record { tasks = s; stroke = no_stroke }

-- every stroke is of one tick
abbrev pub Ones : List Task → Type 0
Ones s = Each (λ t. t.stroke ≡ 1) s

pub plain_form : (s : List Task) → Form s → StateForm (plain s)
plain_form s f = record { tasks = f; lasts = λ p. absurd (omega arith); none = λ z. refl }

-- a call changes no stroke length
pub ones_kept : (c : Call) (s : List Task) → Ones s → Ones (next_by pending c s)
unfolding bare with_job
ones_kept c s h = figures_kept Ones (each_of_map (λ t. t.stroke ≡ 1) bare) pending c s h

one_tick_lem : (t : Task) → t.stroke ≡ 1 → stroke_ticked no_stroke t ≡ no_stroke
one_tick_lem t e =
    let z : min t.stroke t.left - 1 ≡ 0 = omega arith in
    rw z

none_lasts : (c : Call) (s : List Task) → Ones s → next_stroke c (plain s) ≡ no_stroke
unfolding next_stroke
none_lasts (release j) s h = refl
none_lasts (finish j) s h = ⊎_elim (λ e. e) (λ e. e) (finish_stroke j (plain s))
none_lasts tick s h = ⊎_elim (λ e. e) (λ x. x.4 ∙ one_tick_lem (nth s x.0) (each_at _ no_task s x.0 x.1 h)) (changed_found (changed (turn no_stroke) used (stroke_ticked no_stroke) no_stroke s))

-- each call answers and does what it does without strokes
pub plain_answer : (c : Call) (s : List Task) → answer c (plain s) ≡ answer_by pending c s
unfolding answer
plain_answer c s = refl

pub plain_next : (c : Call) (s : List Task) → Ones s → next c (plain s) ≡ plain (next_by pending c s)
unfolding next
plain_next c s h = ap (λ (k : Stroke). record { tasks = next_by pending c s; stroke = k }) (none_lasts c s h)

-- and so does a list of calls
pub plain_log : (cs : List Call) (s : List Task) → Ones s → log answer next (plain s) cs ≡ log (answer_by pending) (next_by pending) s cs
unfolding log
plain_log [] s h = refl
plain_log (c ∷ cs) s h = ap (λ l. entry c (answer c (plain s)) ∷ l) (ap (λ x. log answer next x cs) (plain_next c s h) ∙ plain_log cs (next_by pending c s) (ones_kept c s h)) ∙ ap (λ a. entry c a ∷ log (answer_by pending) (next_by pending) (next_by pending c s) cs) (plain_answer c s)

pub plain_run : (cs : List Call) (s : List Task) → Ones s → run next (plain s) cs ≡ plain (run (next_by pending) s cs)
unfolding run
plain_run [] s h = refl
plain_run (c ∷ cs) s h = ap (λ x. run next x cs) (plain_next c s h) ∙ plain_run cs (next_by pending c s) (ones_kept c s h)

-- a good list of tasks with strokes of one tick
pub record PlainGood (w e : ℕ → ℕ) (s : List Task) : Type 0 where
  pub ones : Ones s
  pub good : Good (λ k. 0) w e (plain s)

pub plain_kept : (w e : ℕ → ℕ) (c : Call) (s : List Task) → PlainGood w e s → PlainGood w e (next_by pending c s)
plain_kept w e c s g = record { ones = ones_kept c s g.ones; good = rw (plain_next c s g.ones) at (good_kept (λ k. 0) w e c (plain s) g.good) }

pub plain_young : (w e : ℕ → ℕ) (s : List Task) (i : ℕ) → PlainGood w e s → 0 < (nth s i).left → (nth s i).age < (nth s i).period
plain_young w e s i g p = young (λ k. 0) w e (plain s) i g.good p
