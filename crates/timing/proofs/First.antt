-- Inside a stroke a tick goes to its task, outside to the pending task of the highest priority, and it is idle only where nothing is pending.
-- Assumes nothing.
use Prim.Native.Nat.{ℕ, zero, suc, ◌<◌}
use mathlib.Core.Path.{◌≡◌, refl, sym, ap, ◌∙◌}
use mathlib.Core.Logic.{inl, inr, ⊎_elim}
use mathlib.Core.Bool.{Bool, true, false, false≢true}
use mathlib.Core.List.{List, [], ◌∷◌}
use native.Mathlib.Omega.{arith}
use borrow.Author.Tests.{ltb-true, ltb-false, lt-ltb, eqb-true, eq-eqb}
use Rattle.sheet.proofs.Ranges.{both}
use Rattle.fit.specs.Lists.{Each, EachPair}
use Rattle.fit.proofs.Lists.{each_of, each_at}
use Rattle.timing.specs.declared.Task.{Task}
use Rattle.timing.specs.Tasks.{pending, named, used}
use Rattle.timing.specs.Calls.{tick, Answer, served, idle, answer_by, tick_answer, of_first, Stroke, no_stroke, turn_at, turn, State, answer}
use Rattle.timing.specs.Form.{Above, Form}
use Rattle.timing.specs.Serving.{nth, no_task, Foremost}
use Rattle.timing.specs.Strokes.{StateForm, TickGoes}
use Rattle.timing.proofs.Lists.{zero_or_pos}
use Rattle.timing.proofs.Steps.{Changed, nowhere, here, later, changed_tick, changed_found}

foremost : {g : Task → Task} {s s' : List Task} {a : Answer} (j : ℕ) → Changed pending g tick_answer idle s s' a → EachPair Above s → a ≡ served j → (i : ℕ) × ((nth s i).number ≡ j) × Foremost s i
unfolding Each EachPair pending
foremost j nowhere h e = (0, cc, absurd (let z : ◌≡◌ {A = ℕ} 0 1 = cc in omega arith))
foremost j (here {t} {s} p) h e = (0, cc, record { place = omega arith; waits = ltb-true _ _ p; others = ((λ x. inl refl), each_of s (λ u k x. inr k) h.0) })
foremost j (later {t} {s} p c) h e =
    let r = foremost j c h.1 e in
    (suc r.0, r.1, record { place = omega (arith, r.2.place); waits = r.2.waits; others = ((λ x. absurd (omega (arith, ltb-false 0 t.left p))), r.2.others) })

none_passes : {q : Task → Bool} {g : Task → Task} {s s' : List Task} {a : Answer} → Changed q g tick_answer idle s s' a → a ≡ idle → Each (λ t. q t ≡ false) s
unfolding Each
none_passes nowhere e = tt
none_passes (here p) e = absurd (let z : ◌≡◌ {A = ℕ} 0 1 = cc in omega arith)
none_passes (later p c) e = (p, none_passes c e)

-- outside a stroke whoever is pending may have the tick
pub turn_free : (k : Stroke) → k.left ≡ 0 → turn k ≡ pending
turn_free k e = ap (turn_at k.task) e

-- inside one the tick goes to its task
pub tick_inside : (s : State) → StateForm s → 0 < s.stroke.left → answer tick s ≡ served s.stroke.task
unfolding answer answer_by pending named
tick_inside s f p = go s.stroke.left refl p
  where
    k : Stroke
    k = s.stroke

    go : (r : ℕ) → k.left ≡ r → 0 < r → of_first (turn_at k.task r) tick_answer idle s.tasks ≡ served k.task
    go zero e h = absurd (omega arith)
    go (suc r) e h =
        let w = f.lasts p in
        let c = changed_tick (turn_at k.task (suc r)) used s.tasks in
        let own : turn_at k.task (suc r) (nth s.tasks w.0) ≡ true = rw (eq-eqb _ _ w.2.number) (lt-ltb 0 _ w.2.pends) in
        ⊎_elim (λ x. absurd (false≢true (sym (each_at _ no_task s.tasks w.0 w.1 (none_passes c x)) ∙ own)))
        (λ x. x.4 ∙ ap served (eqb-true _ _ (both _ _ x.2).0))
        (changed_found c)

-- outside one to the pending task of the highest priority, whose number is the answer
pub tick_outside : (s : State) → Form s.tasks → s.stroke.left ≡ 0 → (j : ℕ) → answer tick s ≡ served j → (i : ℕ) × ((nth s.tasks i).number ≡ j) × Foremost s.tasks i
unfolding answer answer_by
tick_outside s f z j e = foremost j (changed_tick pending used s.tasks) f.ordered (sym (ap (λ q. of_first q tick_answer idle s.tasks) (turn_free s.stroke z)) ∙ e)

-- an idle tick finds nothing pending
pub tick_idle : (s : State) → StateForm s → answer tick s ≡ idle → Each (λ t. t.left ≡ 0) s.tasks
unfolding answer answer_by pending
tick_idle s f e = ⊎_elim free (λ p. absurd (let z : ◌≡◌ {A = ℕ} 0 1 = (let x : served s.stroke.task ≡ idle = sym (tick_inside s f p) ∙ e in cc) in omega arith)) (zero_or_pos s.stroke.left)
  where
    free : s.stroke.left ≡ 0 → Each (λ t. t.left ≡ 0) s.tasks
    free z = each_of s.tasks (λ t h. omega (arith, ltb-false 0 t.left h)) (none_passes (changed_tick pending used s.tasks) (sym (ap (λ q. of_first q tick_answer idle s.tasks) (turn_free s.stroke z)) ∙ e))

-- whom a tick of a state in form goes to
pub tick_goes_to : (s : State) → StateForm s → TickGoes s (answer tick s)
tick_goes_to s f = record { inside = tick_inside s f; outside = λ z j. tick_outside s f.tasks z j; idle = tick_idle s f }

-- a task that may be released and still has a tick left is served: the tick looks at what is pending, not at ages
pub serves_pending : answer tick (record { tasks = record { period = 5; budget = 1; age = 5; left = 1; number = 0; stroke = 1 } ∷ []; stroke = no_stroke }) ≡ served 0
unfolding answer answer_by of_first pending
serves_pending = refl
