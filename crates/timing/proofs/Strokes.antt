-- The stroke that lasts: every call keeps its form, and what it holds against a level, the first tasks by priority.
-- Assumes nothing.
use Prim.Native.Nat.{ℕ, zero, suc, ◌-◌, ◌≤◌, ◌<◌, min}
use mathlib.Core.Path.{◌≡◌, refl, sym, ap, subst, ◌∙◌}
use mathlib.Core.Logic.{◌⊎◌, inl, inr, ⊎_elim}
use mathlib.Core.Bool.{Bool, true, false, cond, ◌&&◌, false≢true}
use mathlib.Core.List.{List, [], ◌∷◌, map}
use native.Mathlib.Omega.{arith}
use lib.Dec.{ltb, eqb}
use lib.ListN.{length, get_or-map}
use borrow.Author.Tests.{lt-ltb, le-ltb, eqb-true, eqb-false, eq-eqb, ne_eqb}
use Rattle.sheet.proofs.Ranges.{both}
use Rattle.fit.specs.Lists.{Each, EachPair}
use Rattle.fit.proofs.Lists.{each_of, each_at}
use Rattle.timing.specs.declared.Task.{Task}
use Rattle.timing.specs.Tasks.{pending, named, with_job, released, finished, used, older}
use Rattle.timing.specs.Calls.{Call, release, finish, tick, Answer, refused, release_answer, finish_answer, answer_by, of_first, modify, next_by, Stroke, no_stroke, stroke_of, turn_at, turn, stroke_ticks, stroke_ticked, stroke_finished, State, next_stroke, answer, next, run}
use Rattle.timing.specs.Form.{Distinct}
use Rattle.timing.specs.Serving.{nth, no_task}
use Rattle.timing.specs.Strokes.{StrokeIs, StateForm}
use Rattle.timing.proofs.Lists.{zero_or_pos}
use Rattle.timing.proofs.Runs.{run_kept}
use Rattle.timing.proofs.Steps.{released_cases, changed, changed_named, changed_nth, changed_found, changed_tick, changed_answer, Finish, is_quiet, ends, finish_view, Changed, nowhere, here, later, bare, bare_next, length_next}
use Rattle.timing.proofs.Form.{form_kept}
use Rattle.timing.proofs.Own.{Own}

-- in a list without a number twice, what holds at a place holds of the task with its number
pub own_of_place : (P : Task → Type 0) (s : List Task) (i : ℕ) → EachPair Distinct s → i < length s → P (nth s i) → Each (Own (nth s i).number P) s
unfolding Each EachPair Distinct
own_of_place P [] i d lt h = tt
own_of_place P (t ∷ s) zero d lt h = ((λ e. h), each_of s (λ u n e. absurd (n (sym e))) d.0)
own_of_place P (t ∷ s) (suc i) d lt h = ((λ e. absurd (each_at _ no_task s i (omega arith) d.0 e)), own_of_place P s i d.1 (omega arith) h)

-- so the task with the stroke's number is the stroke's
pub lasting : (s : State) → StateForm s → 0 < s.stroke.left → Each (Own s.stroke.task (StrokeIs s.stroke)) s.tasks
lasting s f p =
    let w = f.lasts p in
    subst (λ j. Each (Own j (StrokeIs s.stroke)) s.tasks) w.2.number (own_of_place (StrokeIs s.stroke) s.tasks w.0 f.tasks.distinct w.1 w.2)

-- a stroke with r ticks left, or none
stroke_of_lem : (P : Stroke → Type 0) (j r : ℕ) → P no_stroke → (0 < r → P (record { task = j; left = r })) → P (stroke_of j r)
stroke_of_lem P j zero h k = h
stroke_of_lem P j (suc r) h k = k (omega arith)

-- a finish leaves the stroke or ends it
pub finish_stroke : (j : ℕ) (s : State) → (next_stroke (finish j) s ≡ s.stroke) ⊎ (next_stroke (finish j) s ≡ no_stroke)
unfolding next_stroke
finish_stroke j s = ⊎_elim inl (λ x. go (pending (nth s.tasks x.0) && eqb s.stroke.task (nth s.tasks x.0).number) x.4) (changed_found (changed (named j) finished (stroke_finished s.stroke) s.stroke s.tasks))
  where
    go : (b : Bool) → next_stroke (finish j) s ≡ cond b no_stroke s.stroke → (next_stroke (finish j) s ≡ s.stroke) ⊎ (next_stroke (finish j) s ≡ no_stroke)
    go true e = inr e
    go false e = inl e

-- the finish of a task in its stroke ends it
own_finish : (k : Stroke) (t : Task) → StrokeIs k t → stroke_finished k t ≡ no_stroke
unfolding pending
own_finish k t h = rw (lt-ltb 0 t.left h.pends, eq-eqb k.task t.number (sym h.number))

-- inside a stroke a tick goes to the task of its number
pub turn_named : (k : Stroke) (t : Task) → 0 < k.left → turn k t ≡ true → t.number ≡ k.task
unfolding named
turn_named k t p e = go k.left p e
  where
    go : (r : ℕ) → 0 < r → turn_at k.task r t ≡ true → t.number ≡ k.task
    go zero h x = absurd (omega arith)
    go (suc r) h x = eqb-true _ _ (both _ _ x).0

-- it may go to the stroke's task, and to no other
pub turn_is : (k : Stroke) (t : Task) → 0 < k.left → StrokeIs k t → turn k t ≡ true
unfolding named pending
turn_is k t p h = go k.left p
  where
    go : (r : ℕ) → 0 < r → turn_at k.task r t ≡ true
    go zero x = absurd (omega arith)
    go (suc r) x = rw (eq-eqb t.number k.task h.number) (lt-ltb 0 t.left h.pends)

pub turn_other : (k : Stroke) (t : Task) → 0 < k.left → (t.number ≡ k.task → ⊥) → turn k t ≡ false
unfolding named
turn_other k t p h = go k.left p
  where
    go : (r : ℕ) → 0 < r → turn_at k.task r t ≡ false
    go zero x = absurd (omega arith)
    go (suc r) x = let e : eqb t.number k.task ≡ false = ne_eqb _ _ h in rw e

-- the task of a stroke that has ticks left
pub task_of : (j r : ℕ) {k : Stroke} → k ≡ stroke_of j r → 0 < k.left → k.task ≡ j
task_of j r {k} e p = ap (λ x. x.task) e ∙ go r (subst (λ x. 0 < x.left) e p)
  where
    go : (r : ℕ) → 0 < (stroke_of j r).left → (stroke_of j r).task ≡ j
    go zero h = absurd (omega arith)
    go (suc r) h = refl

-- where a task passes, the first that does is changed and answers
first_of : {A : Type 0} (q : Task → Bool) (g : Task → Task) (f : Task → A) (d : A) (s : List Task) (i : ℕ) → i < length s → q (nth s i) ≡ true → (m : ℕ) × (m < length s) × (q (nth s m) ≡ true) × (nth (modify q g s) m ≡ g (nth s m)) × (of_first q f d s ≡ f (nth s m))
first_of q g f d s i lt e = go (changed q g f d s) i lt e
  where
    go : {s s' : List Task} {a : _} → Changed q g f d s s' a → (i : ℕ) → i < length s → q (nth s i) ≡ true → (m : ℕ) × (m < length s) × (q (nth s m) ≡ true) × (nth s' m ≡ g (nth s m)) × (a ≡ f (nth s m))
    go nowhere i h x = absurd (omega arith)
    go (here y) i h x = (zero, omega arith, y, refl, refl)
    go (later y c) zero h x = absurd (false≢true (sym y ∙ x))
    go (later y c) (suc i) h x = let r = go c i (omega arith) x in (suc r.0, omega (arith, r.1), r.2, r.3, r.4)

-- a stroke after a tick: none, or of the task that had it, with at most the ticks that it may have
pub ticked_cases : (P : Stroke → Type 0) (s : State) → StateForm s → P no_stroke → ((i : ℕ) → i < length s.tasks → turn s.stroke (nth s.tasks i) ≡ true → nth (next tick s).tasks i ≡ older (used (nth s.tasks i)) → 0 < stroke_ticks s.stroke.left (nth s.tasks i) - 1 → P (record { task = (nth s.tasks i).number; left = stroke_ticks s.stroke.left (nth s.tasks i) - 1 })) → P (next_stroke tick s)
unfolding next_stroke next next_by older with_job
ticked_cases P s f h k = ⊎_elim free (λ p. let w = f.lasts p in goes (first_of (turn s.stroke) used (stroke_ticked s.stroke) s.stroke s.tasks w.0 w.1 (turn_is s.stroke _ p w.2))) (zero_or_pos s.stroke.left)
  where
    goes : (i : ℕ) × (i < length s.tasks) × (turn s.stroke (nth s.tasks i) ≡ true) × (nth (modify (turn s.stroke) used s.tasks) i ≡ used (nth s.tasks i)) × (next_stroke tick s ≡ stroke_ticked s.stroke (nth s.tasks i)) → P (next_stroke tick s)
    goes x = subst P (sym x.4) (stroke_of_lem P _ _ h (k x.0 x.1 x.2 (get_or-map older (modify (turn s.stroke) used s.tasks) x.0 no_task ∙ ap older x.3)))

    none : s.stroke.left ≡ 0 → s.stroke ≡ no_stroke
    none z = λ i. record { task = f.none z i; left = z i }

    free : s.stroke.left ≡ 0 → P (next_stroke tick s)
    free z = ⊎_elim (λ e. subst P (sym (e ∙ none z)) h) goes (changed_found (changed (turn s.stroke) used (stroke_ticked s.stroke) s.stroke s.tasks))

-- the ticks of a stroke, this one counted, where one lasts and where one begins
pub ticks_lasting : (r : ℕ) (t : Task) → 0 < r → stroke_ticks r t ≡ r
ticks_lasting zero t h = absurd (omega arith)
ticks_lasting (suc r) t h = refl

pub ticks_begun : (r : ℕ) (t : Task) → r ≡ 0 → stroke_ticks r t ≡ min t.stroke t.left
ticks_begun r t e = rw e

-- they are at most the stroke's length and those left of the job
pub ticks_most : (s : State) → StateForm s → (i : ℕ) → i < length s.tasks → turn s.stroke (nth s.tasks i) ≡ true → (stroke_ticks s.stroke.left (nth s.tasks i) ≤ (nth s.tasks i).stroke) × (stroke_ticks s.stroke.left (nth s.tasks i) ≤ (nth s.tasks i).left)
ticks_most s f i lt e = ⊎_elim (λ z. let x = ticks_begun s.stroke.left t z in (omega (arith, x), omega (arith, x))) inside (zero_or_pos s.stroke.left)
  where
    t : Task
    t = nth s.tasks i

    inside : 0 < s.stroke.left → (stroke_ticks s.stroke.left t ≤ t.stroke) × (stroke_ticks s.stroke.left t ≤ t.left)
    inside p =
        let w = each_at _ no_task s.tasks i lt (lasting s f p) (turn_named s.stroke t p e) in
        let x = ticks_lasting s.stroke.left t p in
        (omega (arith, x, w.length_max), omega (arith, x, w.job_max))

lasts_release : (j : ℕ) (s : State) → StateForm s → 0 < s.stroke.left → (i : ℕ) × (i < length s.tasks) × StrokeIs s.stroke (nth (next (release j) s).tasks i)
unfolding next next_by
lasts_release j s f p =
    let w = f.lasts p in
    (w.0, w.1, subst (StrokeIs s.stroke) (sym (⊎_elim (λ x. x) (λ x. x.1 ∙ released_cases (λ u. u ≡ nth s.tasks w.0) (nth s.tasks w.0) refl (λ old z. absurd (omega (arith, w.2.pends)))) (changed_nth w.0 (changed_named j released release_answer s.tasks)))) w.2)

-- the task of a stroke that a finish leaves stays as it is
lasts_finish : (j : ℕ) (s : State) → StateForm s → 0 < s.stroke.left → 0 < (next_stroke (finish j) s).left → (i : ℕ) × (i < length s.tasks) × StrokeIs s.stroke (nth (next (finish j) s).tasks i)
unfolding next next_by next_stroke
lasts_finish j s f p h =
    let w = f.lasts p in
    (w.0, w.1, subst (StrokeIs s.stroke) (sym (⊎_elim (λ x. x) (λ x. absurd (omega (arith, h, ap (λ k. k.left) (x.2 ∙ own_finish s.stroke _ w.2)))) (changed_nth w.0 (changed (named j) finished (stroke_finished s.stroke) s.stroke s.tasks)))) w.2)

-- the task of a stroke after a tick
ticked_is : (s : State) → StateForm s → (i : ℕ) → i < length s.tasks → turn s.stroke (nth s.tasks i) ≡ true → nth (next tick s).tasks i ≡ older (used (nth s.tasks i)) → 0 < stroke_ticks s.stroke.left (nth s.tasks i) - 1 → StrokeIs (record { task = (nth s.tasks i).number; left = stroke_ticks s.stroke.left (nth s.tasks i) - 1 }) (nth (next tick s).tasks i)
unfolding used older with_job
ticked_is s f i lt e n p =
    let m = ticks_most s f i lt e in
    subst (StrokeIs _) (sym n) (record { number = refl; pends = omega (arith, m.1); length_max = omega (arith, m.0); job_max = omega (arith, m.1) })

-- the stroke's part of the form
abbrev Lasts : Stroke → List Task → Type 0
Lasts k s = 0 < k.left → (i : ℕ) × (i < length s) × StrokeIs k (nth s i)

length_tasks : (c : Call) (s : State) → length (next c s).tasks ≡ length s.tasks
unfolding next
length_tasks c s = length_next _ c s.tasks

lasts_kept : (c : Call) (s : State) → StateForm s → Lasts (next_stroke c s) (next c s).tasks
unfolding next_stroke
lasts_kept (release j) s f p = let w = lasts_release j s f p in (w.0, omega (arith, w.1, length_tasks (release j) s), w.2)
lasts_kept (finish j) s f p = ⊎_elim (λ e. let w = lasts_finish j s f (subst (λ k. 0 < k.left) e p) p in (w.0, omega (arith, w.1, length_tasks (finish j) s), subst (λ k. StrokeIs k (nth (next (finish j) s).tasks w.0)) (sym e) w.2)) (λ e. absurd (omega (arith, p, ap (λ k. k.left) e))) (finish_stroke j s)
lasts_kept tick s f p = ticked_cases (λ k. Lasts k (next tick s).tasks) s f (λ p. absurd (omega arith)) (λ i lt e n m p. (i, omega (arith, lt, length_tasks tick s), ticked_is s f i lt e n m)) p

none_kept : (c : Call) (s : State) → StateForm s → (next_stroke c s).left ≡ 0 → (next_stroke c s).task ≡ 0
unfolding next_stroke
none_kept (release j) s f z = f.none z
none_kept (finish j) s f z = ⊎_elim (λ e. ap (λ k. k.task) e ∙ f.none (sym (ap (λ k. k.left) e) ∙ z)) (λ e. ap (λ k. k.task) e) (finish_stroke j s)
none_kept tick s f z = ticked_cases (λ k. k.left ≡ 0 → k.task ≡ 0) s f (λ z. refl) (λ i lt e n m z. absurd (omega arith)) z

-- each call hands back a state in form
pub state_form_kept : (c : Call) (s : State) → StateForm s → StateForm (next c s)
unfolding next
state_form_kept c s f = record { tasks = form_kept (turn s.stroke) c s.tasks f.tasks; lasts = lasts_kept c s f; none = none_kept c s f }

pub state_form_run : (cs : List Call) (s : State) → StateForm s → StateForm (run next s cs)
state_form_run cs s f = run_kept next StateForm state_form_kept cs s f

-- a refused call changes no stroke
finish_kept : (j : ℕ) (k : Stroke) (n p : ℕ) (s : List Task) → of_first (named j) finish_answer (refused 17 0) s ≡ refused n p → of_first (named j) (stroke_finished k) k s ≡ k
unfolding of_first pending
finish_kept j k n p [] e = refl
finish_kept j k n p (t ∷ s) e = go (named j t) e (finish_kept j k n p s)
  where
    quiet : {a : Answer} {t' : Task} → Finish t a t' → a ≡ refused n p → stroke_finished k t ≡ k
    quiet (is_quiet z) x = let none : ltb 0 t.left ≡ false = le-ltb 0 t.left (omega arith) in rw none
    quiet (ends z) x = absurd (let y : ◌≡◌ {A = ℕ} 0 1 = cc in omega arith)

    go : (b : Bool) → cond b (finish_answer t) (of_first (named j) finish_answer (refused 17 0) s) ≡ refused n p → (of_first (named j) finish_answer (refused 17 0) s ≡ refused n p → of_first (named j) (stroke_finished k) k s ≡ k) → cond b (stroke_finished k t) (of_first (named j) (stroke_finished k) k s) ≡ k
    go true x r = quiet (finish_view t) x
    go false x r = r x

pub stroke_kept : (c : Call) (s : State) (n p : ℕ) → answer c s ≡ refused n p → next_stroke c s ≡ s.stroke
unfolding answer answer_by next_stroke
stroke_kept (release j) s n p e = refl
stroke_kept (finish j) s n p e = finish_kept j s.stroke n p s.tasks e
stroke_kept tick s n p e = changed_answer (λ a. a ≡ refused n p → next_stroke tick s ≡ s.stroke) (λ d. cc) (λ i d. cc) (changed_tick (turn s.stroke) used s.tasks) e

-- What a stroke holds against a level: its ticks left where its task stands below the level, else nothing.
abbrev pub held_by : Stroke → List Task → ℕ
held_by k s = of_first (named k.task) (λ t. 0) k.left s

pub held_most : (k : Stroke) (s : List Task) → held_by k s ≤ k.left
unfolding of_first
held_most k [] = omega arith
held_most k (t ∷ s) = go (named k.task t) (held_most k s)
  where
    go : (b : Bool) → held_by k s ≤ k.left → cond b 0 (held_by k s) ≤ k.left
    go true h = omega arith
    go false h = h

pub held_inside : (k : Stroke) (s : List Task) (i : ℕ) → i < length s → (nth s i).number ≡ k.task → held_by k s ≡ 0
unfolding of_first named
held_inside k [] i lt e = absurd (omega arith)
held_inside k (t ∷ s) zero lt e = rw (eq-eqb _ _ e)
held_inside k (t ∷ s) (suc i) lt e = go (named k.task t) (held_inside k s i (omega arith) e)
  where
    go : (b : Bool) → held_by k s ≡ 0 → cond b 0 (held_by k s) ≡ 0
    go true h = refl
    go false h = h

pub held_outside : (k : Stroke) (s : List Task) → Each (λ t. t.number ≡ k.task → ⊥) s → held_by k s ≡ k.left
unfolding of_first named Each
held_outside k [] h = refl
held_outside k (t ∷ s) h = let e : eqb t.number k.task ≡ false = ne_eqb _ _ h.0 in rw e (held_outside k s h.1)

-- a number stands in a list or not
pub named_or_not : (j : ℕ) (s : List Task) → ((i : ℕ) × (i < length s) × ((nth s i).number ≡ j)) ⊎ Each (λ t. t.number ≡ j → ⊥) s
unfolding Each
named_or_not j [] = inr tt
named_or_not j (t ∷ s) = go (eqb t.number j) refl (named_or_not j s)
  where
    go : (b : Bool) → eqb t.number j ≡ b → ((i : ℕ) × (i < length s) × ((nth s i).number ≡ j)) ⊎ Each (λ t. t.number ≡ j → ⊥) s → ((i : ℕ) × (i < suc (length s)) × ((nth (t ∷ s) i).number ≡ j)) ⊎ Each (λ t. t.number ≡ j → ⊥) (t ∷ s)
    go true e r = inl (zero, omega arith, eqb-true _ _ e)
    go false e (inl x) = inl (suc x.0, omega (arith, x.1), x.2)
    go false e (inr x) = inr (eqb-false _ _ e, x)

-- a call changes no number, so it does not change what a stroke holds against a level
held_bare : (k : Stroke) (s : List Task) → held_by k (map bare s) ≡ held_by k s
unfolding of_first named bare with_job
held_bare k [] = refl
held_bare k (t ∷ s) = ap (λ n. cond (eqb t.number k.task) 0 n) (held_bare k s)

pub held_next : (k : Stroke) (q : Task → Bool) (c : Call) (s : List Task) → held_by k (next_by q c s) ≡ held_by k s
held_next k q c s = sym (held_bare k (next_by q c s)) ∙ ap (held_by k) (bare_next q c s) ∙ held_bare k s
