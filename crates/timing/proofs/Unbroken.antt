-- No stroke is broken: between two ticks of one stroke every tick is the task's own.
-- Assumes nothing.
use Prim.Native.Nat.{ℕ, ◌+◌, ◌*◌, ◌/◌, ◌%◌, ◌<◌}
use mathlib.Core.Path.{◌≡◌, refl, sym, ap, subst, ◌∙◌}
use mathlib.Core.Logic.{⊎_elim}
use mathlib.Core.Bool.{Bool, true, false, cond}
use mathlib.Core.List.{List, [], ◌∷◌, ◌++◌}
use native.Mathlib.Nat.{div-add-mod, mod-lt, mul-add-mod_self_left, mod-eq_of_lt, mul-mod_right}
use native.Mathlib.Omega.{arith}
use lib.ListN.{length}
use Rattle.fit.specs.Lists.{Each}
use Rattle.fit.proofs.Lists.{each_of, each_at}
use Rattle.timing.specs.declared.Task.{Task}
use Rattle.timing.specs.Tasks.{with_job, released, finished}
use Rattle.timing.specs.Calls.{Call, release, finish, tick, Answer, accepted, served, release_answer, finish_answer, answer_by, next_by, turn, State, answer, next, Entry, entry, calls, log, run}
use Rattle.timing.specs.Form.{Form, Fresh}
use Rattle.timing.specs.OnTime.{count, to_tick, to_finish, is_tick, is_run, is_finish}
use Rattle.timing.specs.Serving.{nth, no_task, to_release, is_release}
use Rattle.timing.specs.Strokes.{StateForm, Unbroken}
use Rattle.timing.proofs.Lists.{zero_or_pos}
use Rattle.timing.proofs.Runs.{Logged, logged_append, log_split, count_cons, run_counts, run_kept, finish_entry}
use Rattle.timing.proofs.Steps.{changed_named, changed_tick, turn_pends, changed_found, bare, bare_nth, length_next, release_started}
use Rattle.timing.proofs.Form.{form_kept, figures_kept, each_of_map}
use Rattle.timing.proofs.Own.{Own, each_own}
use Rattle.timing.proofs.Left.{Left, Done, Owing, owing_next, done_run, finish_done}
use Rattle.timing.proofs.First.{tick_inside}
use Rattle.timing.proofs.Strokes.{state_form_kept, own_of_place}
use Rattle.timing.proofs.Aligned.{Part, inside, outside, Given, Aligned, aligned_kept}

-- a tick that is answered with j goes to a pending task of that number
served_place : (s : State) (j : ℕ) → answer tick s ≡ served j → (i : ℕ) × (i < length s.tasks) × ((nth s.tasks i).number ≡ j) × (0 < (nth s.tasks i).left)
unfolding answer answer_by
served_place s j e = ⊎_elim (λ x. absurd (let z : ◌≡◌ {A = ℕ} 0 1 = cc in omega arith)) (λ x. (x.0, x.1, same (sym x.4 ∙ e), turn_pends s.stroke _ x.2)) (changed_found (changed_tick (turn s.stroke) (λ t. t) s.tasks))
  where
    same : {m n : ℕ} → served m ≡ served n → m ≡ n
    same h = cc

-- so before one, with no release of j between, its task is not done
not_done : (j : ℕ) (l rest : List Entry) (s : State) → Logged answer next s (l ++ entry tick (served j) ∷ rest) → count (is_release j) l ≡ 0 → Each (Own j Done) s.tasks → ⊥
unfolding Logged
not_done j l rest s h z d =
    let x = logged_append answer next l (entry tick (served j) ∷ rest) s h in
    let u : State = run next s (calls l) in
    let p = served_place u j (sym x.1.0) in
    omega (arith, p.3, each_at _ no_task u.tasks p.0 p.1 (done_run j l s x.0 z d) p.2)

-- a count of one entry
count_true : (q : Entry → Bool) (x : Entry) → 0 < count q (x ∷ []) → q x ≡ true
unfolding count
count_true q x = elim (q x) as (λ b. 0 < cond b 1 0 → b ≡ true) [ true ↦ λ h. refl | false ↦ λ h. absurd (omega arith) ]

finish_done_all : (j : ℕ) (s : State) → Form s.tasks → Each (Own j Done) (next (finish j) s).tasks
unfolding next next_by
finish_done_all j s f = each_own j Done (changed_named j finished finish_answer s.tasks) f.distinct (λ t a. finish_done t)

-- a call before such a tick is no accepted finish of j
no_finish : (j : ℕ) (c : Call) (l rest : List Entry) (s : State) → Form s.tasks → Logged answer next (next c s) (l ++ entry tick (served j) ∷ rest) → count (is_release j) l ≡ 0 → count (is_finish j) (entry c (answer c s) ∷ []) ≡ 0
unfolding count is_finish to_finish
no_finish j (release i) l rest s f h z = refl
no_finish j tick l rest s f h z = refl
no_finish j (finish i) l rest s f h z = ⊎_elim (λ e. e) (λ p. absurd (not_done j l rest (next (finish i) s) h z (subst (λ m. Each (Own j Done) (next (finish m) s).tasks) (named_same (finish_entry j _ (count_true (is_finish j) (entry (finish i) (answer (finish i) s)) p))) (finish_done_all j s f)))) (zero_or_pos (count (is_finish j) (entry (finish i) (answer (finish i) s) ∷ [])))
  where
    named_same : {a b : Answer} → entry (finish i) a ≡ entry (finish j) b → j ≡ i
    named_same e = cc

-- so over it the job gets what is answered with j
owing_step : (j n : ℕ) (c : Call) (a : Answer) (l rest : List Entry) (s : State) → Logged answer next s (entry c a ∷ (l ++ entry tick (served j) ∷ rest)) → count (is_release j) (entry c a ∷ l) ≡ 0 → Owing j n s.tasks → Owing j (n + count (is_run j) (entry c a ∷ [])) (next c s).tasks
unfolding Logged
owing_step j n c a l rest s h z o =
    let none : count (is_release j) (entry c (answer c s) ∷ []) ≡ 0 = omega (arith, count_cons (is_release j) (entry c a) l, ap (λ b. count (is_release j) (entry c b ∷ [])) h.0) in
    let later : count (is_release j) l ≡ 0 = omega (arith, count_cons (is_release j) (entry c a) l) in
    rw h.0 (owing_next j n c s (none, no_finish j c l rest s o.form h.1 later) o)

owing_over : (j n : ℕ) (l rest : List Entry) (s : State) → Logged answer next s (l ++ entry tick (served j) ∷ rest) → count (is_release j) l ≡ 0 → Owing j n s.tasks → Owing j (n + count (is_run j) l) (run next s (calls l)).tasks
unfolding Logged run calls count
owing_over j n [] rest s h z o = subst (λ m. Owing j m s.tasks) (omega arith) o
owing_over j n (entry c a ∷ l) rest s h z o =
    let step = owing_step j n c a l rest s h z o in
    subst (λ m. Owing j m (run next (next c s) (calls l)).tasks) (omega (arith, count_cons (is_run j) (entry c a) l)) (owing_over j (n + count (is_run j) (entry c a ∷ [])) l rest (next c s) h.1 (omega (arith, count_cons (is_release j) (entry c a) l)) step)

-- a state in form in which every pending job was given strokes, with the task of number j and stroke length q at place i
record Placed (j q i : ℕ) (s : State) : Type 0 where
  form : StateForm s
  aligned : Each (Aligned s.stroke) s.tasks
  place : i < length s.tasks
  number : (nth s.tasks i).number ≡ j
  stroke : (nth s.tasks i).stroke ≡ q

placed_kept : (j q i : ℕ) (c : Call) (s : State) → Placed j q i s → Placed j q i (next c s)
unfolding next bare with_job
placed_kept j q i c s h = record {
  form = state_form_kept c s h.form;
  aligned = aligned_kept c s h.form h.aligned;
  place = omega (arith, length_next (turn s.stroke) c s.tasks, h.place);
  number = ap (λ t. t.number) (bare_nth (turn s.stroke) c s.tasks i) ∙ h.number;
  stroke = ap (λ t. t.stroke) (bare_nth (turn s.stroke) c s.tasks i) ∙ h.stroke;
}

-- m strokes of q ticks and d more are no m' strokes, where d is below q
no_whole : (q m m' d : ℕ) → 0 < d → d < q → q * m + d ≡ q * m' → ⊥
no_whole q m m' d p lt e = let x : (q * m + d) % q ≡ d = mul-add-mod_self_left q m d ∙ mod-eq_of_lt lt in omega (arith, x, ap (λ n. n % q) e, mul-mod_right q m')

-- a job that was given a part of a stroke has the next tick
part_next : (j q i n m d : ℕ) (s : State) → Placed j q i s → Owing j n s.tasks → 0 < (nth s.tasks i).left → n ≡ q * m + d → 0 < d → d < q → answer tick s ≡ served j
part_next j q i n m d s h o p e pos lt = go (each_at _ no_task s.tasks i h.place h.aligned p)
  where
    t : Task
    t = nth s.tasks i

    left : t.left + n ≡ t.budget
    left = each_at _ no_task s.tasks i h.place o.left h.number

    at : (g : Given s.stroke t) → Part s.stroke t g.d → answer tick s ≡ served j
    at g (inside x y z w) = tick_inside s h.form x ∙ ap served (sym y ∙ h.number)
    at g (outside x z) = absurd (no_whole q m g.m d pos lt (omega (arith, left, g.all, e, z, ap (λ r. r * g.m) h.stroke)))

    go : Given s.stroke t → answer tick s ≡ served j
    go g = at g g.part

-- From a part of a stroke on, while the stroke lasts, every tick is answered with j.
unbroken_from : (j q i n m d : ℕ) (l rest : List Entry) (s : State) → Placed j q i s → Owing j n s.tasks → Logged answer next s (l ++ entry tick (served j) ∷ rest) → count (is_release j) l ≡ 0 → n ≡ q * m + d → 0 < d → d + count (is_run j) l < q → count is_tick l ≡ count (is_run j) l
unfolding count Logged is_run is_tick to_tick
unbroken_from j q i n m d [] rest s h o l z e pos lt = refl
unbroken_from j q i n m d (entry c a ∷ l) rest s h o k z e pos lt =
    let one = count_cons (is_run j) (entry c a) l in
    let same = own c refl in
    let more = unbroken_from j q i (n + count (is_run j) (entry c a ∷ [])) m (d + count (is_run j) (entry c a ∷ [])) l rest (next c s) (placed_kept j q i c s h) (owing_step j n c a l rest s k z o) k.1 (omega (arith, count_cons (is_release j) (entry c a) l)) (omega (arith, e)) (omega arith) (omega (arith, one, lt)) in
    omega (arith, one, same, more, count_cons is_tick (entry c a) l)
  where
    waits : 0 < (nth s.tasks i).left
    waits = ⊎_elim (λ y. absurd (not_done j (entry c a ∷ l) rest s k z (subst (λ x. Each (Own x Done) s.tasks) h.number (own_of_place Done s.tasks i h.form.tasks.distinct h.place y)))) (λ p. p) (zero_or_pos (nth s.tasks i).left)

    own : (b : Call) → c ≡ b → count is_tick (entry c a ∷ []) ≡ count (is_run j) (entry c a ∷ [])
    own (release x) y = rw y refl
    own (finish x) y = rw y refl
    own tick y = rw y (sym (run_counts j j a refl (rw y at k.0 ∙ part_next j q i n m d s h o waits e pos (omega arith))))

-- two ticks x and x + 1 + y of one stroke of q: after the first, x / q strokes and x % q + 1 ticks were given
same_stroke : (q x y : ℕ) → 0 < q → x / q ≡ (x + 1 + y) / q → (x + 1 ≡ q * (x / q) + (x % q + 1)) × (x % q + 1 + y < q)
same_stroke q x y pos e =
    let whole = div-add-mod x q in
    let later : q * (x / q) + (x + 1 + y) % q ≡ x + 1 + y = rw e (div-add-mod (x + 1 + y) q) in
    (omega (arith, whole), omega (arith, whole, later, mod-lt (x + 1 + y) pos))

-- the invariant that a run keeps from a fresh state on
record Going (q : ℕ → ℕ) (s : State) : Type 0 where
  form : StateForm s
  aligned : Each (Aligned s.stroke) s.tasks
  strokes : Each (λ t. q t.number ≡ t.stroke) s.tasks

going_kept : (q : ℕ → ℕ) (c : Call) (s : State) → Going q s → Going q (next c s)
unfolding next bare with_job
going_kept q c s g = record {
  form = state_form_kept c s g.form;
  aligned = aligned_kept c s g.form g.aligned;
  strokes = figures_kept (Each (λ t. q t.number ≡ t.stroke)) (each_of_map (λ t. q t.number ≡ t.stroke) bare) (turn s.stroke) c s.tasks g.strokes;
}

-- an accepted release begins a job that was given nothing
owing_begun : (j : ℕ) (s : State) → Form s.tasks → answer (release j) s ≡ accepted → Owing j 0 (next (release j) s).tasks
unfolding next answer next_by answer_by with_job
owing_begun j s f a = record { form = form_kept (turn s.stroke) (release j) s.tasks f; left = each_own j (Left 0) (changed_named j released release_answer s.tasks) f.distinct (λ t x. rw (release_started t (sym x ∙ a)) (omega arith)) }

-- From a tick answered with j on: where the job was given x ticks before it, and the one after ys is of the same stroke.
from_tick : (q : ℕ → ℕ) (j x : ℕ) (ys rest : List Entry) (s : State) → Going q s → Owing j x s.tasks → Logged answer next s (entry tick (served j) ∷ (ys ++ entry tick (served j) ∷ rest)) → count (is_release j) ys ≡ 0 → x / q j ≡ (x + 1 + count (is_run j) ys) / q j → count is_tick ys ≡ count (is_run j) ys
unfolding Logged count is_release to_release
from_tick q j x ys rest s g o k z e =
    let p = served_place s j (sym k.0) in
    let is : q j ≡ (nth s.tasks p.0).stroke = ap q (sym p.2) ∙ each_at _ no_task s.tasks p.0 p.1 g.strokes in
    let some : 0 < q j = omega (arith, is, (each_at _ no_task s.tasks p.0 p.1 g.form.tasks.sound).stroke_min) in
    let w = same_stroke (q j) x (count (is_run j) ys) some e in
    let placed : Placed j (q j) p.0 s = record { form = g.form; aligned = g.aligned; place = p.1; number = p.2; stroke = sym is } in
    unbroken_from j (q j) p.0 (x + count (is_run j) (entry tick (served j) ∷ [])) (x / q j) (x % q j + 1) ys rest (next tick s) (placed_kept j (q j) p.0 tick s placed) (owing_step j x tick (served j) ys rest s k z o) k.1 z (omega (arith, run_counts j j (served j) refl refl, w.0)) (omega arith) w.1

-- From a fresh state in form no log has a broken stroke.
pub unbroken : (q : ℕ → ℕ) (s : State) → StateForm s → Each Fresh s.tasks → Each (λ t. q t.number ≡ t.stroke) s.tasks → (cs : List Call) → Unbroken q (log answer next s cs)
unfolding Logged
unbroken q s f h u cs before xs ys rest j e z y same =
    let r = log_split answer next cs s before _ e in
    let s₀ : State = run next s (calls before) in
    let g₀ : Going q s₀ = run_kept next (Going q) (going_kept q) (calls before) s (record { form = f; aligned = each_of s.tasks (λ t k p. absurd (omega (arith, k.left))) h; strokes = u }) in
    let s₁ : State = next (release j) s₀ in
    let x = logged_append answer next xs (entry tick (served j) ∷ (ys ++ entry tick (served j) ∷ rest)) s₁ r.1.1 in
    let g₂ = run_kept next (Going q) (going_kept q) (calls xs) s₁ (going_kept q (release j) s₀ g₀) in
    let o = owing_over j 0 xs (ys ++ entry tick (served j) ∷ rest) s₁ r.1.1 z (owing_begun j s₀ g₀.form.tasks (sym r.1.0)) in
    from_tick q j (count (is_run j) xs) ys rest (run next s₁ (calls xs)) g₂ (subst (λ n. Owing j n (run next s₁ (calls xs)).tasks) (omega arith) o) x.1 y same
