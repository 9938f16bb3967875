-- A state in form runs as timing's state does: its log is that one's, and what holds of its ticks, ages and ticks left holds too.
-- Every value of the state's type has 64 places; `places` says so.
-- Assumes nothing.
use Prim.Native.Nat.{ℕ}
use mathlib.Core.Path.{◌≡◌, refl, sym, ap, subst, subst₂, ◌∙◌}
use mathlib.Core.Logic.{◌↔◌}
use mathlib.Core.Bool.{Bool, true, false, cond}
use mathlib.Core.List.{List, [], ◌∷◌, ◌++◌}
use native.Mathlib.Omega.{arith}
use lib.ListN.{length, drop, length-append, length-drop}
use lib.Seq.{length-take-le, take_at}
use Rattle.fit.specs.Lists.{Each}
use Rattle.timing.specs.declared.Task.{Task}
use Rattle.timing.specs.Calls.{Call, release, finish, tick, Answer, accepted, refused, release_answer, finish_answer, answer_by, turn, State, answer, next, Entry, entry, log, run}
use Rattle.timing.specs.Form.{Fresh}
use Rattle.timing.specs.OnTime.{count, refused_with, is_refused, Ended}
use Rattle.timing.specs.Serving.{nth, is_release, AgeCounts, LeftCounts}
use Rattle.timing.specs.Strokes.{StateForm, TickGoes}
use Rattle.timing.specs.Tasks.{released, finished, used}
use Rattle.timing.proofs.Steps.{Release, is_early, is_late, starts, release_view, Finish, is_quiet, ends, finish_view, changed_named, changed_tick, changed_answer, length_next, refused_kept}
use Rattle.timing.proofs.Strokes.{state_form_kept, stroke_kept}
use Rattle.timing.proofs.First.{tick_goes_to}
use Rattle.state.specs.declared.Core.{Core}
use Rattle.state.specs.declared.Step.{Step}
use Rattle.state.specs.State.{tasks_of, stroke_in, state_in, with_state, InForm, foreign}
use Rattle.state.specs.Operations.{ask, step, Operation, Unaltered, Serves}
use Rattle.state.proofs.Foreign.{foreign_form, form_foreign}
use Rattle.state.proofs.Outcomes.{same_state}
use Rattle.timing.proofs.Age as timing-age
use Rattle.timing.proofs.Left as timing-left

-- a refused call changes no task and no stroke
state_kept : (c : Call) (s : State) (n p : ℕ) → answer c s ≡ refused n p → next c s ≡ s
unfolding answer next
state_kept c s n p e = λ i. record { tasks = refused_kept (turn s.stroke) c s.tasks n p e i; stroke = stroke_kept c s n p e i }

-- A refused call hands the state back as given.
pub refused_unaltered : (c : Call) (s : Core) (n p : ℕ) → ask c s ≡ refused n p → step c s ≡ s
unfolding ask step
refused_unaltered c s n p e = by (foreign s) e
  where
    by : (b : Bool) → cond b (refused 21 0) (answer c (state_in s)) ≡ refused n p → cond b s (with_state s (next c (state_in s))) ≡ s
    by true x = refl
    by false x = ap (with_state s) (state_kept c (state_in s) n p x) ∙ same_state s

-- One call on a state in form: it answers what timing's state answers, and the next state is the next one of timing.
pub ask_form : (c : Call) (s : Core) → InForm s → ask c s ≡ answer c (state_in s)
unfolding ask
ask_form c s f = rw (form_foreign s f)

module _ (c : Call) (s : Core) (places : length s.tasks ≡ 64) (f : InForm s) where
  many : length (next c (state_in s)).tasks ≡ s.count
  unfolding next
  many = length_next (turn (stroke_in s)) c (tasks_of s) ∙ length-take-le s.count s.tasks (omega (arith, f.count))

  pub step_state : state_in (step c s) ≡ next c (state_in s)
  unfolding step with_state
  step_state = rw (form_foreign s f) (ap (λ l. record { tasks = l; stroke = (next c (state_in s)).stroke }) (take_at (next c (state_in s)).tasks (drop s.count s.tasks) s.count many))

  pub step_places : length (step c s).tasks ≡ 64
  unfolding step with_state
  step_places = rw (form_foreign s f) (simp (length-append, length-drop) (omega (arith, many, f.count)))

  -- a call keeps a state in form
  pub step_form : InForm (step c s)
  unfolding step with_state
  step_form = record { count = rw (form_foreign s f) f.count; form = subst StateForm (sym step_state) (state_form_kept c (state_in s) f.form) }

-- the log of a state in form is that of timing's state
pub log_form : (cs : List Call) (s : Core) → length s.tasks ≡ 64 → InForm s → log ask step s cs ≡ log answer next (state_in s) cs
unfolding log
log_form [] s places f = refl
log_form (c ∷ cs) s places f = rw (ask_form c s f) (ap (λ l. entry c (answer c (state_in s)) ∷ l) (log_form cs (step c s) (step_places c s places f) (step_form c s places f) ∙ ap (λ l. log answer next l cs) (step_state c s places f)))

-- and the state after it is that of timing after it
pub run_form : (cs : List Call) (s : Core) → length s.tasks ≡ 64 → InForm s → state_in (run step s cs) ≡ run next (state_in s) cs
unfolding run
run_form [] s places f = refl
run_form (c ∷ cs) s places f = run_form cs (step c s) (step_places c s places f) (step_form c s places f) ∙ ap (λ l. run next l cs) (step_state c s places f)

-- it is in form, and answers as they do
pub run_in_form : (cs : List Call) (s : Core) → length s.tasks ≡ 64 → InForm s → InForm (run step s cs)
unfolding run
run_in_form [] s places f = f
run_in_form (c ∷ cs) s places f = run_in_form cs (step c s) (step_places c s places f) (step_form c s places f)

pub ask_run : (c : Call) (cs : List Call) (s : Core) → length s.tasks ≡ 64 → InForm s → ask c (run step s cs) ≡ answer c (run next (state_in s) cs)
ask_run c cs s places f = ask_form c (run step s cs) (run_in_form cs s places f) ∙ ap (answer c) (run_form cs s places f)

-- no call is answered with 21 by timing's state
not_foreign : (c : Call) (s : State) → refused_with 21 (answer c s) ≡ false
unfolding answer answer_by refused_with
not_foreign (release j) s = changed_answer (λ a. refused_with 21 a ≡ false) refl (λ i. go (release_view (nth s.tasks i))) (changed_named j released release_answer s.tasks)
  where
    go : {t t' : Task} {a : Answer} → Release t a t' → refused_with 21 a ≡ false
    go (is_early x) = refl
    go (is_late x y) = refl
    go (starts x y) = refl
not_foreign (finish j) s = changed_answer (λ a. refused_with 21 a ≡ false) refl (λ i. go (finish_view (nth s.tasks i))) (changed_named j finished finish_answer s.tasks)
  where
    go : {t t' : Task} {a : Answer} → Finish t a t' → refused_with 21 a ≡ false
    go (is_quiet x) = refl
    go (ends x) = refl
not_foreign tick s = changed_answer (λ a. refused_with 21 a ≡ false) refl (λ i. refl) (changed_tick (turn s.stroke) used s.tasks)

none_foreign : (cs : List Call) (s : State) → count (is_refused 21) (log answer next s cs) ≡ 0
unfolding log count is_refused
none_foreign [] s = refl
none_foreign (c ∷ cs) s = rw (not_foreign c s) (none_foreign cs (next c s))

-- no call of a log from a state in form is refused as Foreign
pub never_foreign : (cs : List Call) (s : Core) → length s.tasks ≡ 64 → InForm s → count (is_refused 21) (log ask step s cs) ≡ 0
never_foreign cs s places f = ap (count (is_refused 21)) (log_form cs s places f) ∙ none_foreign cs (state_in s)

-- what every operation promises beside its outcome, and what a tick promises
pub unaltered : (c : Call) (s : Core) (r : Step) → Operation c s r → Unaltered s r
unaltered c s r o = record { kept = λ n p e. o.core ∙ refused_unaltered c s n p (sym o.answer ∙ e) }

pub serves : (s : Core) (r : Step) → Operation tick s r → Serves s r
serves s r o = record { goes = λ e. let f = foreign_form s e in subst (TickGoes (state_in s)) (sym (o.answer ∙ ask_form tick s f)) (tick_goes_to (state_in s) f.form) }

-- the ages after every list of calls from a fresh state in form count the ticks since the last accepted release
pub age_counts : (s : Core) → length s.tasks ≡ 64 → InForm s → Each Fresh (tasks_of s) → (cs : List Call) → AgeCounts (log ask step s cs) (tasks_of (run step s cs))
age_counts s places f h cs = subst₂ AgeCounts (sym (log_form cs s places f)) (ap (λ u. u.tasks) (sym (run_form cs s places f))) (timing-age.age_counts (state_in s) f.form.tasks h cs)

-- the ticks left after every list of calls from a fresh state in form are the budget less the ticks that the job was given
pub left_counts : (s : Core) → length s.tasks ≡ 64 → InForm s → Each Fresh (tasks_of s) → (cs : List Call) → LeftCounts (log ask step s cs) (tasks_of (run step s cs))
left_counts s places f h cs = subst₂ LeftCounts (sym (log_form cs s places f)) (ap (λ u. u.tasks) (sym (run_form cs s places f))) (timing-left.left_counts (state_in s) f.form.tasks h cs)

-- after the last accepted release of j its task has nothing left exactly when the job has ended
pub pending_ended : (s : Core) → length s.tasks ≡ 64 → InForm s → Each Fresh (tasks_of s) → (cs : List Call) (before xs : List Entry) (j : ℕ) → log ask step s cs ≡ before ++ entry (release j) accepted ∷ xs → count (is_release j) xs ≡ 0 → Each (λ t. t.number ≡ j → (t.left ≡ 0) ↔ Ended t.budget j xs) (tasks_of (run step s cs))
pending_ended s places f h cs before xs j e y = subst (Each (λ t. t.number ≡ j → (t.left ≡ 0) ↔ Ended t.budget j xs)) (ap (λ u. u.tasks) (sym (run_form cs s places f))) (timing-left.pending_ended (state_in s) f.form.tasks h cs before xs j (sym (log_form cs s places f) ∙ e) y)
