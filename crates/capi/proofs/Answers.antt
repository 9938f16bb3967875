-- The C answers, as the code makes them.
-- Assumes nothing.
use Prim.Native.Nat.{ℕ, ◌≤◌}
use mathlib.Core.Path.{◌≡◌, refl, sym, ap, ◌∙◌, subst}
use mathlib.Core.Bool.{Bool, true, false, cond, false≢true}
use mathlib.Core.List.{List}
use lib.Dec.{ltb, lit≤}
use lib.ListN.{take}
use native.Mathlib.Omega.{arith}
use Rattle.std.specs.Prelude.{Result, Ok, Err}
use Rattle.sheet.specs.declared.Refusal.{Refusal}
use Rattle.sheet.specs.declared.Refusal.TheVariants as words
use Rattle.sheet.specs.declared.Rejection.{Rejection}
use Rattle.sheet.specs.Refusals.{number_of}
use Rattle.checker.specs.Verdict as check
use Rattle.planner.specs.declared.Planned.{Planned}
use Rattle.planner.specs.Plan as plan
use Rattle.timing.specs.Calls.{Call, Answer, accepted, served, idle, refused}
use Rattle.state.specs.declared.Core.{Core}
use Rattle.state.specs.declared.Step.{Step}
use Rattle.state.specs.declared.Reply.{Reply}
use Rattle.state.specs.declared.Reply.TheVariants.{Accepted, Served, Idle}
use Rattle.state.specs.Operations.{answer_of}
use Rattle.dispatcher.specs.Starts.{sheet_answer}
use Rattle.dispatcher.specs.OnTime.{Kept, Timely}
use Rattle.capi.specs.declared.PlanAnswer.{PlanAnswer}
use Rattle.capi.specs.declared.StepAnswer.{StepAnswer}
use Rattle.capi.specs.Answers.{planned_of, stepped_of}

-- no refusal has the number 0
pub positive : (w : Refusal) → 1 ≤ number_of w
positive words.Stub = lit≤ tt
positive words.Mark = lit≤ tt
positive words.Version = lit≤ tt
positive words.Count = lit≤ tt
positive words.Length = lit≤ tt
positive words.Spare = lit≤ tt
positive words.Period = lit≤ tt
positive words.Budget = lit≤ tt
positive words.Core = lit≤ tt
positive words.Bare = lit≤ tt
positive words.Factor = lit≤ tt
positive words.Stretch = lit≤ tt
positive words.Chain = lit≤ tt
positive words.Overload = lit≤ tt
positive words.NoFit = lit≤ tt
positive words.Tight = lit≤ tt
positive words.Unlisted = lit≤ tt
positive words.Early = lit≤ tt
positive words.Late = lit≤ tt
positive words.Quiet = lit≤ tt
positive words.Foreign = lit≤ tt
positive words.Start = lit≤ tt
positive words.Order = lit≤ tt
positive words.Row = lit≤ tt
positive words.Stroke = lit≤ tt

-- what a plan promises, in terms of the C answer
pub plan_accepts : (v : Result Planned (Rejection ℕ)) (out : List ℕ) (r : PlanAnswer) → r ≡ planned_of (plan.outcome_of v) → plan.Accepting v out → r.refusal ≡ 0 → check.verdict (take r.length out) ≡ check.accepted r.tasks r.cores
unfolding planned_of
plan_accepts (Ok p) out r e h z = rw e h
plan_accepts (Err x) out r e h z = absurd (omega (arith, positive x.word, ap (λ (a : PlanAnswer). a.refusal) e))

-- a start that is not refused is accepted: it answers nothing else
unfoldable pub is_start : Answer → Bool
is_start accepted = true
is_start (served j) = false
is_start idle = false
is_start (refused k p) = true

start_answers : (o : check.Outcome) (k : ℕ) → is_start (sheet_answer o k) ≡ true
unfolding is_start sheet_answer
start_answers (check.accepted n c) k = by (ltb k c)
  where
    by : (b : Bool) → is_start (cond b accepted (refused 9 0)) ≡ true
    by true = refl
    by false = refl
start_answers (check.refused w p) k = refl

start_accepted : (a : Result Reply (Rejection ℕ)) (s : Core) → is_start (answer_of a) ≡ true → (stepped_of (answer_of a) s).refusal ≡ 0 → answer_of a ≡ accepted
unfolding is_start stepped_of
start_accepted (Ok Accepted) s e z = refl
start_accepted (Ok (Served j)) s e z = absurd (false≢true e)
start_accepted (Ok Idle) s e z = absurd (false≢true e)
start_accepted (Err r) s e z = absurd (omega (arith, positive r.word))

state : (a : Answer) (s : Core) → (stepped_of a s).core ≡ s
unfolding stepped_of
state accepted s = refl
state (served j) s = refl
state idle s = refl
state (refused k p) s = refl

-- what the start promises, in terms of the C answer
pub kept_on : (bytes : List ℕ) (k : ℕ) (m : StepAnswer) (r : Step) → m ≡ stepped_of (answer_of r.answer) r.core → answer_of r.answer ≡ sheet_answer (check.verdict bytes) k → Timely bytes k r → m.refusal ≡ 0 → (cs : List Call) → Kept bytes k m.core cs
kept_on bytes k m r e h t z cs =
    let started : answer_of r.answer ≡ accepted = start_accepted r.answer r.core (ap is_start h ∙ start_answers (check.verdict bytes) k) (sym (ap (λ (x : StepAnswer). x.refusal) e) ∙ z) in
    let same : m.core ≡ r.core = ap (λ (x : StepAnswer). x.core) e ∙ state (answer_of r.answer) r.core in
    subst (λ (x : Core). Kept bytes k x cs) (sym same) (t.on_time started cs)
