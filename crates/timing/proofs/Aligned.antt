-- The ticks that a job was given come in strokes: outside a stroke of its own they are whole strokes, inside it whole strokes and a part.
-- Assumes nothing.
use Prim.Native.Nat.{ℕ, zero, suc, ◌+◌, ◌*◌, ◌-◌, ◌≤◌, ◌<◌, min}
use mathlib.Core.Path.{◌≡◌, refl, sym, ap, subst, ◌∙◌}
use mathlib.Core.Logic.{◌⊎◌, inl, inr, ⊎_elim}
use mathlib.Core.Bool.{Bool, true, false, cond, ◌&&◌, false≢true}
use mathlib.Core.List.{List}
use native.Mathlib.Nat.{mul-suc, mul-zero}
use native.Mathlib.Omega.{arith}
use lib.Dec.{eqb}
use lib.ListN.{length}
use borrow.Author.Tests.{eqb-true}
use Rattle.sheet.proofs.Ranges.{both}
use Rattle.fit.specs.Lists.{Each, EachPair}
use Rattle.fit.proofs.Lists.{each_of, each_both, each_all, each_at}
use Rattle.timing.specs.declared.Task.{Task}
use Rattle.timing.specs.Tasks.{pending, named, with_job, released, finished, used, older}
use Rattle.timing.specs.Calls.{Call, release, finish, tick, Answer, refused, release_answer, modify, Stroke, no_stroke, stroke_of, turn, stroke_ticks, stroke_ticked, stroke_finished, State, next_stroke, next_by, next}
use Rattle.timing.specs.Form.{Sound, Distinct}
use Rattle.timing.specs.Serving.{nth, no_task}
use Rattle.timing.specs.Strokes.{StateForm}
use Rattle.timing.proofs.Lists.{zero_or_pos, each_map}
use Rattle.timing.proofs.Steps.{released_cases, Changed, nowhere, here, later, changed, changed_named, changed_found, turn_pends}
use Rattle.timing.proofs.Left.{finish_done}
use Rattle.timing.proofs.Strokes.{lasting, turn_named, turn_is, task_of, ticks_lasting, ticks_begun}

-- the part of a stroke that the job of t was given, d ticks: where t is in the stroke k, it has left what it may have still; else none
pub data Part (k : Stroke) (t : Task) (d : ℕ) : Type 0 where
  inside : 0 < k.left → t.number ≡ k.task → 0 < d → k.left ≡ min (t.stroke - d) t.left → Part k t d
  outside : (0 < k.left → t.number ≡ k.task → ⊥) → d ≡ 0 → Part k t d

-- a pending job was given m whole strokes and d ticks
pub record Given (k : Stroke) (t : Task) : Type 0 where
  pub m : ℕ
  pub d : ℕ
  pub all : t.left + (t.stroke * m + d) ≡ t.budget
  pub part : Part k t d

abbrev pub Aligned : Stroke → Task → Type 0
Aligned k t = 0 < t.left → Given k t

-- a task that is in neither stroke
given_other : (k k' : Stroke) (t : Task) → (0 < k.left → t.number ≡ k.task → ⊥) → (0 < k'.left → t.number ≡ k'.task → ⊥) → Given k t → Given k' t
given_other k k' t h h' g = record { m = g.m; d = g.d; all = g.all; part = go g.part }
  where
    go : Part k t g.d → Part k' t g.d
    go (inside p e x y) = absurd (h p e)
    go (outside x z) = outside h' z

-- a stroke with ticks left, and one without
left_some : (j r : ℕ) → 0 < r → (0 < (stroke_of j r).left) × ((stroke_of j r).task ≡ j) × ((stroke_of j r).left ≡ r)
left_some j zero h = absurd (omega arith)
left_some j (suc r) h = (omega arith, refl, refl)

left_none : (j r : ℕ) → r ≡ 0 → (stroke_of j r).left ≡ 0
left_none j zero e = refl
left_none j (suc r) e = absurd (omega arith)

-- one tick less
one_less : (q d l x : ℕ) → x ≡ min (q - d) l → x - 1 ≡ min (q - (d + 1)) (l - 1)
one_less q d l x e = omega arith

-- the task that has a tick: m strokes and d ticks of the next come to d + 1 ticks of it, or to a whole stroke more
ticked_given : (k : Stroke) (t : Task) (m d : ℕ) → 0 < (used t).left → t.left + (t.stroke * m + d) ≡ t.budget → d < t.stroke → stroke_ticks k.left t ≡ min (t.stroke - d) t.left → Given (stroke_ticked k t) (used t)
unfolding used with_job
ticked_given k t m d p all lt x = ⊎_elim whole partly (zero_or_pos (t.stroke - d - 1))
  where
    whole : t.stroke - d - 1 ≡ 0 → Given (stroke_ticked k t) (used t)
    whole z =
        let none : (stroke_of t.number (stroke_ticks k.left t - 1)).left ≡ 0 = left_none t.number (stroke_ticks k.left t - 1) (omega (arith, x)) in
        record { m = suc m; d = 0; all = omega (arith, all, mul-suc t.stroke m); part = outside (λ h e. omega (arith, none)) refl }

    partly : 0 < t.stroke - d - 1 → Given (stroke_ticked k t) (used t)
    partly z =
        let s = left_some t.number (stroke_ticks k.left t - 1) (omega (arith, x)) in
        record { m = m; d = d + 1; all = omega (arith, all); part = inside s.0 (sym s.1) (omega arith) (s.2 ∙ one_less t.stroke d t.left _ x) }

-- where no stroke lasts it has none of its next, else it is in the stroke
served_given : (k : Stroke) (t : Task) → 1 ≤ t.stroke → turn k t ≡ true → Aligned k t → Aligned (stroke_ticked k t) (used t)
served_given k t q e a p = go (a (turn_pends k t e)) (zero_or_pos k.left)
  where
    at : (g : Given k t) → (k.left ≡ 0) ⊎ (0 < k.left) → Part k t g.d → Given (stroke_ticked k t) (used t)
    at g (inl z) (inside h n y w) = absurd (omega arith)
    at g (inl z) (outside h y) = ticked_given k t g.m g.d p g.all (omega arith) (ticks_begun k.left t z ∙ omega arith)
    at g (inr h) (inside o n y w) = ticked_given k t g.m g.d p g.all (omega (arith, w)) (ticks_lasting k.left t h ∙ w)
    at g (inr h) (outside o y) = absurd (o h (turn_named k t h e))

    go : Given k t → (k.left ≡ 0) ⊎ (0 < k.left) → Given (stroke_ticked k t) (used t)
    go g d = at g d g.part

-- the task of the stroke after a tick is the one that had it
ticked_task : (k : Stroke) (t : Task) → 0 < (stroke_ticked k t).left → (stroke_ticked k t).task ≡ t.number
ticked_task k t h = task_of t.number (stroke_ticks k.left t - 1) refl h

aligned_tick : (k : Stroke) {s s' : List Task} {k' : Stroke} → Changed (turn k) used (stroke_ticked k) k s s' k' → EachPair Distinct s → Each Sound s → Each (Aligned k) s → Each (Aligned k') s'
unfolding Each EachPair Distinct
aligned_tick k nowhere d f h = tt
aligned_tick k (here {t} {s} e) d f h = (
  served_given k t f.0.stroke_min e h.0,
  each_both s (λ u n a p. given_other k (stroke_ticked k t) u (λ o x. n (turn_named k t o e ∙ sym x)) (λ o x. n (sym (x ∙ ticked_task k t o))) (a p)) d.0 h.1,
)
aligned_tick k {k' = k'} (later {t} {s} {s'} e c) d f h = ((λ p. given_other k k' t (λ o x. false≢true (sym e ∙ passes o x (h.0 p).part p)) (λ o x. new p o x (changed_found c)) (h.0 p)), aligned_tick k c d.1 f.1 h.1)
  where
    passes : 0 < k.left → t.number ≡ k.task → {n : ℕ} → Part k t n → 0 < t.left → turn k t ≡ true
    passes o x (inside a b y w) p = turn_is k t o (record { number = x; pends = p; length_max = omega (arith, w); job_max = omega (arith, w) })
    passes o x (outside a y) p = absurd (a o x)

    new : 0 < t.left → 0 < k'.left → t.number ≡ k'.task → (k' ≡ k) ⊎ ((i : ℕ) × (i < length s) × (turn k (nth s i) ≡ true) × (nth s' i ≡ used (nth s i)) × (k' ≡ stroke_ticked k (nth s i))) → ⊥
    new p o x (inl z) = false≢true (sym e ∙ passes (subst (λ y. 0 < y.left) z o) (x ∙ ap (λ y. y.task) z) (h.0 p).part p)
    new p o x (inr y) = each_at _ no_task s y.0 y.1 d.0 (x ∙ task_of (nth s y.0).number (stroke_ticks k.left (nth s y.0) - 1) y.4 o)

-- a finish of a task ends its own stroke or leaves the stroke
finish_cases : (P : Stroke → Type 0) (k : Stroke) (t : Task) → P k → (k.task ≡ t.number → P no_stroke) → P (stroke_finished k t)
finish_cases P k t h n = go (pending t && eqb k.task t.number) refl
  where
    go : (b : Bool) → (pending t && eqb k.task t.number) ≡ b → P (cond b no_stroke k)
    go true e = n (eqb-true k.task t.number (both (pending t) (eqb k.task t.number) e).1)
    go false e = h

aligned_finish : (j : ℕ) (k : Stroke) {s s' : List Task} {k' : Stroke} → Changed (named j) finished (stroke_finished k) k s s' k' → EachPair Distinct s → Each (Aligned k) s → Each (Aligned k') s'
unfolding Each EachPair Distinct
aligned_finish j k nowhere d h = tt
aligned_finish j k (here {t} {s} e) d h = (
  (λ p. absurd (omega (arith, finish_done t))),
  finish_cases (λ k'. Each (Aligned k') s) k t h.1 (λ x. each_both s (λ u n a p. given_other k no_stroke u (λ o y. n (sym x ∙ sym y)) (λ o y. omega arith) (a p)) d.0 h.1),
)
aligned_finish j k {k' = k'} (later {t} {s} e c) d h = (⊎_elim (λ x. subst (λ y. Aligned y t) (sym x) h.0) (λ x. subst (λ y. Aligned y t) (sym x.4) (finish_cases (λ y. Aligned y t) k (nth s x.0) h.0 (λ y p. given_other k no_stroke t (λ o z. each_at _ no_task s x.0 x.1 d.0 (z ∙ y)) (λ o z. omega arith) (h.0 p)))) (changed_found c), aligned_finish j k c d.1 h.1)

-- a new job was given nothing, and no stroke is its task's, since that one's is pending
aligned_release : (k : Stroke) (t : Task) → (0 < k.left → t.number ≡ k.task → 0 < t.left) → Aligned k t → Aligned k (released t)
unfolding with_job
aligned_release k t w a = released_cases (Aligned k) t a (λ old z p. record { m = 0; d = 0; all = omega (arith, mul-zero t.stroke); part = outside (λ o x. omega (arith, w o x)) refl })

part_older : (k : Stroke) (t : Task) (d : ℕ) → Part k t d → Part k (older t) d
unfolding older with_job
part_older k t d (inside a b x y) = inside a b x y
part_older k t d (outside a x) = outside a x

released_all : (j : ℕ) (k : Stroke) {s s' : List Task} {a : Answer} → Changed (named j) released release_answer (refused 17 0) s s' a → Each (λ t. 0 < k.left → t.number ≡ k.task → 0 < t.left) s → Each (Aligned k) s → Each (Aligned k) s'
unfolding Each
released_all j k nowhere w h = tt
released_all j k (here {t} e) w h = (aligned_release k t w.0 h.0, h.1)
released_all j k (later e c) w h = (h.0, released_all j k c w.1 h.1)

-- every call keeps this
pub aligned_kept : (c : Call) (s : State) → StateForm s → Each (Aligned s.stroke) s.tasks → Each (Aligned (next c s).stroke) (next c s).tasks
unfolding next next_by next_stroke older with_job
aligned_kept (release j) s f h = released_all j s.stroke (changed_named j released release_answer s.tasks) waits h
  where
    waits : Each (λ t. 0 < s.stroke.left → t.number ≡ s.stroke.task → 0 < t.left) s.tasks
    waits = ⊎_elim (λ z. each_all _ s.tasks (λ t o. absurd (omega arith))) (λ p. each_of s.tasks (λ t k o x. (k x).pends) (lasting s f p)) (zero_or_pos s.stroke.left)
aligned_kept (finish j) s f h = aligned_finish j s.stroke (changed (named j) finished (stroke_finished s.stroke) s.stroke s.tasks) f.tasks.distinct h
aligned_kept tick s f h = each_map (Aligned (next_stroke tick s)) (Aligned (next_stroke tick s)) older (modify (turn s.stroke) used s.tasks) (λ t a p. let g = a p in record { m = g.m; d = g.d; all = g.all; part = part_older _ t g.d g.part }) (aligned_tick s.stroke (changed (turn s.stroke) used (stroke_ticked s.stroke) s.stroke s.tasks) f.tasks.distinct f.tasks.sound h)
