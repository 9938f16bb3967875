-- A refused start of either kind hands back a state in form without tasks, on which every tick is idle.
-- Assumes nothing.
use Prim.Native.Nat.{ℕ}
use mathlib.Core.Path.{◌≡◌, refl, sym, ap, ◌∙◌}
use mathlib.Core.Bool.{Bool, true, false, cond}
use Rattle.std.specs.Prelude.{Option, None, Some}
use mathlib.Core.List.{List, [], ◌∷◌, map}
use native.Mathlib.Omega.{arith}
use lib.Dec.{ltb}
use Rattle.sheet.specs.Table.{scan, Refused}
use Rattle.fit.specs.Lists.{Each, EachPair}
use Rattle.checker.specs.Verdict.{verdict}
use Rattle.jobs.specs.Jobs.{list_rows}
use Rattle.timing.specs.Calls.{Call, release, finish, tick, accepted, refused, modify, of_first, answer_by, next_by, next_stroke, answer, next, entry, log, run}
use Rattle.timing.specs.Form.{Form}
use Rattle.state.specs.declared.Core.{Core}
use Rattle.timing.proofs.Plain.{plain}
use Rattle.state.specs.State.{with_state, InForm}
use Rattle.state.specs.Operations.{step}
use Rattle.dispatcher.specs.Starts.{state_of, sheet_answer, sheet_tasks, sheet_state, list_answer, list_state, without_tasks, Taskless}
use Rattle.state.proofs.Foreign.{form_foreign}
use Rattle.state.proofs.Outcomes.{same_state}
use Rattle.state.proofs.Logs.{log_form}
use Rattle.dispatcher.proofs.Starts.{state_plain, state_places, state_form}
use Rattle.checker.specs.Verdict as verdict

-- no tasks are in form, and what they answer and hand on
form_none : Form []
unfolding Each EachPair
form_none = record { count = omega arith; sound = tt; distinct = tt; ordered = tt }

next_none : (c : Call) → next c (plain []) ≡ plain []
unfolding next next_by next_stroke modify of_first
next_none (release j) = refl
next_none (finish j) = refl
next_none tick = refl

answer_none : (c : Call) → answer c (plain []) ≡ without_tasks c
unfolding answer answer_by of_first without_tasks
answer_none (release j) = refl
answer_none (finish j) = refl
answer_none tick = refl

log_none : (cs : List Call) → log answer next (plain []) cs ≡ map (λ c. entry c (without_tasks c)) cs
unfolding log
log_none [] = refl
log_none (c ∷ cs) = rw (answer_none c, next_none c) (ap (λ l. entry c (without_tasks c) ∷ l) (log_none cs))

-- the state without tasks
abbrev none_of : Core
none_of = state_of []

none_form : InForm none_of
none_form = state_form [] form_none

none_step : (c : Call) → step c none_of ≡ none_of
unfolding step
none_step c = rw (form_foreign none_of none_form) (ap (λ u. with_state none_of (next c u)) (state_plain []) ∙ ap (with_state none_of) (next_none c ∙ sym (state_plain [])) ∙ same_state none_of)

none_run : (cs : List Call) → run step none_of cs ≡ none_of
unfolding run
none_run [] = refl
none_run (c ∷ cs) = rw (none_step c) (none_run cs)

taskless : Taskless none_of
taskless = record {
  form = none_form;
  answers = λ cs. log_form cs none_of (state_places [] (omega arith)) none_form ∙ ap (λ l. log answer next l cs) (state_plain []) ∙ log_none cs;
  kept = none_run;
}

-- where a start is refused
pub sheet_refused_idle : (s : List ℕ) (k n p : ℕ) → sheet_answer (verdict s) k ≡ refused n p → Taskless (sheet_state (verdict s) s k)
unfolding sheet_answer sheet_state
sheet_refused_idle s k n p a = go (verdict s) a
  where
    on : (b : Bool) → cond b accepted (refused 9 0) ≡ refused n p → Taskless (state_of (cond b (sheet_tasks s k) []))
    on true x = absurd (let z : ◌≡◌ {A = ℕ} 0 1 = cc in omega arith)
    on false x = taskless

    go : (o : verdict.Outcome) → sheet_answer o k ≡ refused n p → Taskless (sheet_state o s k)
    go (verdict.accepted m c) x = on (ltb k c) x
    go (verdict.refused w q) x = taskless

pub list_refused_idle : (l : List ℕ) (n p : ℕ) → list_answer (scan (list_rows 0 l)) ≡ refused n p → Taskless (list_state (scan (list_rows 0 l)) l)
unfolding list_answer list_state
list_refused_idle l n p a = go (scan (list_rows 0 l)) a
  where
    go : (o : Option Refused) → list_answer o ≡ refused n p → Taskless (list_state o l)
    go None x = absurd (let z : ◌≡◌ {A = ℕ} 0 1 = cc in omega arith)
    go (Some r) x = taskless
