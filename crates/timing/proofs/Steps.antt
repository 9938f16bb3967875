-- What one call does to a list of tasks, and what it answers: at most the first task that passes a test changes.
-- Assumes nothing.
use Prim.Native.Nat.{ℕ, zero, suc, ◌+◌, ◌≤◌, ◌<◌}
use mathlib.Core.Path.{◌≡◌, refl, sym, ap, ◌∙◌}
use mathlib.Core.Logic.{◌⊎◌, inl, inr, ⊎_elim}
use mathlib.Core.Bool.{Bool, true, false, cond}
use mathlib.Core.List.{List, [], ◌∷◌, map}
use native.Mathlib.Omega.{arith}
use lib.ListN.{length, take, length-map, get_or-map}
use lib.Dec.{ltb}
use borrow.Author.Tests.{ltb-true, ltb-false}
use Rattle.sheet.proofs.Ranges.{both}
use Rattle.fit.specs.Lists.{Each}
use Rattle.timing.specs.declared.Task.{Task}
use Rattle.timing.specs.Tasks.{pending, early, named, with_job, released, finished, used, older}
use Rattle.timing.specs.Calls.{Call, release, finish, tick, Answer, accepted, idle, refused, release_answer, finish_answer, modify, answer_by, next_by, of_first, tick_answer, Stroke, turn_at, turn}
use Rattle.timing.specs.Serving.{nth, no_task}
use Rattle.timing.proofs.Rate.{sum_of}
use Rattle.timing.proofs.Lists.{take_map}

-- a release of one task: its answer and the task after it
pub data Release (t : Task) : Answer → Task → Type 0 where
  is_early : t.age < t.period → Release t (refused 18 t.number) t
  is_late : t.period ≤ t.age → 0 < t.left → Release t (refused 19 t.number) t
  starts : t.period ≤ t.age → t.left ≡ 0 → Release t accepted (with_job t 0 t.budget)

-- a release does one of the three
pub release_view : (t : Task) → Release t (release_answer t) (released t)
unfolding release_answer released early pending
release_view t = go (early t) (pending t) refl refl
  where
    go : (b c : Bool) → early t ≡ b → pending t ≡ c → Release t (cond b (refused 18 t.number) (cond c (refused 19 t.number) accepted)) (cond b t (cond c t (with_job t 0 t.budget)))
    go true c e f = is_early (ltb-true _ _ e)
    go false true e f = is_late (ltb-false _ _ e) (ltb-true _ _ f)
    go false false e f = starts (ltb-false _ _ e) (omega (arith, ltb-false 0 t.left f))

-- an accepted release starts a job
pub release_started : (t : Task) → release_answer t ≡ accepted → released t ≡ with_job t 0 t.budget
release_started t e = go (release_view t) e
  where
    go : {a : Answer} {t' : Task} → Release t a t' → a ≡ accepted → t' ≡ with_job t 0 t.budget
    go (is_early x) d = cc
    go (is_late x y) d = cc
    go (starts x y) d = refl

-- a property of a task after a release: of the task as it was, or of the task with a new job
pub released_cases : (P : Task → Type 0) (t : Task) → P t → (t.period ≤ t.age → t.left ≡ 0 → P (with_job t 0 t.budget)) → P (released t)
released_cases P t h k = go (release_view t)
  where
    go : {a : Answer} {t' : Task} → Release t a t' → P t'
    go (is_early x) = h
    go (is_late x y) = h
    go (starts x y) = k x y

-- a finish of one task: its answer and the task after it
pub data Finish (t : Task) : Answer → Task → Type 0 where
  is_quiet : t.left ≡ 0 → Finish t (refused 20 t.number) t
  ends : 0 < t.left → Finish t accepted (with_job t t.age 0)

-- a finish does one of the two
pub finish_view : (t : Task) → Finish t (finish_answer t) (finished t)
unfolding finish_answer finished pending
finish_view t = go (pending t) refl
  where
    go : (b : Bool) → pending t ≡ b → Finish t (cond b accepted (refused 20 t.number)) (cond b (with_job t t.age 0) t)
    go true e = ends (ltb-true _ _ e)
    go false e = is_quiet (omega (arith, ltb-false 0 t.left e))

-- a property of a task after a finish
pub finished_cases : (P : Task → Type 0) (t : Task) → P t → (0 < t.left → P (with_job t t.age 0)) → P (finished t)
finished_cases P t h k = go (finish_view t)
  where
    go : {a : Answer} {t' : Task} → Finish t a t' → P t'
    go (is_quiet x) = h
    go (ends x) = k x

-- the first task of a list that passes q is changed by g and answers f; where none passes, the answer is d
pub data Changed {A : Type 0} (q : Task → Bool) (g : Task → Task) (f : Task → A) (d : A) : List Task → List Task → A → Type 0 where
  nowhere : Changed q g f d [] [] d
  here : {t : Task} {s : List Task} → q t ≡ true → Changed q g f d (t ∷ s) (g t ∷ s) (f t)
  later : {t : Task} {s s' : List Task} {a : A} → q t ≡ false → Changed q g f d s s' a → Changed q g f d (t ∷ s) (t ∷ s') a

-- one task more in front
changed_cons : {A : Type 0} {q : Task → Bool} {g : Task → Task} {f : Task → A} {d a : A} {t : Task} {s s' : List Task} (b : Bool) → q t ≡ b → Changed q g f d s s' a → Changed q g f d (t ∷ s) (cond b (g t ∷ s) (t ∷ s')) (cond b (f t) a)
changed_cons true e c = here e
changed_cons false e c = later e c

-- the change of the first task that passes, and what it answers
pub changed : {A : Type 0} (q : Task → Bool) (g : Task → Task) (f : Task → A) (d : A) (s : List Task) → Changed q g f d s (modify q g s) (of_first q f d s)
unfolding modify of_first
changed q g f d [] = nowhere
changed q g f d (t ∷ s) = changed_cons (q t) refl (changed q g f d s)

-- a change of the task that is named
pub changed_named : (j : ℕ) (g : Task → Task) (f : Task → Answer) (s : List Task) → Changed (named j) g f (refused 17 0) s (modify (named j) g s) (of_first (named j) f (refused 17 0) s)
changed_named j g f s = changed (named j) g f (refused 17 0) s

-- a test that pending tasks alone pass
abbrev pub Pends : (Task → Bool) → Type 0
Pends q = (t : Task) → q t ≡ true → 0 < t.left

-- whom a tick may go to is pending
pub turn_pends : (k : Stroke) → Pends (turn k)
unfolding pending
turn_pends k t e = go k.left e
  where
    go : (r : ℕ) → turn_at k.task r t ≡ true → 0 < t.left
    go zero h = ltb-true 0 t.left h
    go (suc r) h = ltb-true 0 t.left (both (named k.task t) (ltb 0 t.left) h).1

-- a change of the first task that a tick may go to
pub changed_tick : (q : Task → Bool) (g : Task → Task) (s : List Task) → Changed q g tick_answer idle s (modify q g s) (of_first q tick_answer idle s)
changed_tick q g s = changed q g tick_answer idle s

module _ {A : Type 0} {q : Task → Bool} {g : Task → Task} {f : Task → A} {d : A} where
  -- a place of the list stays as it is, or it is the one that changes and answers
  pub changed_nth : {a : A} {s s' : List Task} (i : ℕ) → Changed q g f d s s' a → (nth s' i ≡ nth s i) ⊎ ((q (nth s i) ≡ true) × (nth s' i ≡ g (nth s i)) × (a ≡ f (nth s i)))
  changed_nth i nowhere = inl refl
  changed_nth zero (here e) = inr (e, refl, refl)
  changed_nth (suc i) (here e) = inl refl
  changed_nth zero (later e c) = inl refl
  changed_nth (suc i) (later e c) = changed_nth i c

  -- no task passes and the answer is d, or the answer is that of a place that passes
  pub changed_found : {a : A} {s s' : List Task} → Changed q g f d s s' a → (a ≡ d) ⊎ ((i : ℕ) × (i < length s) × (q (nth s i) ≡ true) × (nth s' i ≡ g (nth s i)) × (a ≡ f (nth s i)))
  changed_found nowhere = inl refl
  changed_found (here e) = inr (zero, omega arith, e, refl, refl)
  changed_found (later e c) = ⊎_elim inl (λ h. inr (suc h.0, omega (arith, h.1), h.2, h.3, h.4)) (changed_found c)

  -- the answer is d or that of a place
  pub changed_answer : (P : A → Type 0) {a : A} {s s' : List Task} → P d → ((i : ℕ) → P (f (nth s i))) → Changed q g f d s s' a → P a
  changed_answer P h k nowhere = h
  changed_answer P h k (here e) = k zero
  changed_answer P h k (later e c) = changed_answer P h (λ i. k (suc i)) c

  -- where a task that gives this answer stays as it is, so does the list
  changed_same : {a : A} {s s' : List Task} → ((t : Task) → a ≡ f t → g t ≡ t) → Changed q g f d s s' a → s' ≡ s
  changed_same k nowhere = refl
  changed_same k (here {t} {s} e) = ap (λ u. u ∷ s) (k t refl)
  changed_same k (later {t} e c) = ap (λ l. t ∷ l) (changed_same k c)

  -- what the change keeps of the task that passes and answers, it keeps of each task
  pub each_hit : (P : Task → Type 0) {a : A} {s s' : List Task} → ((t : Task) → q t ≡ true → a ≡ f t → P t → P (g t)) → Changed q g f d s s' a → Each P s → Each P s'
  unfolding Each
  each_hit P k nowhere h = h
  each_hit P k (here e) h = (k _ e refl h.0, h.1)
  each_hit P k (later e c) h = (h.0, each_hit P k c h.1)

  -- what the change keeps of every task, it keeps of each task of the list
  pub each_changed : (P : Task → Type 0) → ((t : Task) → P t → P (g t)) → {a : A} {s s' : List Task} → Changed q g f d s s' a → Each P s → Each P s'
  each_changed P k c h = each_hit P (λ t x y. k t) c h

  -- two sums: where the change adds no more to the figure u of a task than to its figure v, it adds no more to the sum of u than to that
  -- of v
  pub sum_changed : (u v : Task → ℕ) {a : A} {s s' : List Task} → Changed q g f d s s' a → Each (λ t. u (g t) + v t ≤ u t + v (g t)) s → sum_of u s' + sum_of v s ≤ sum_of u s + sum_of v s'
  unfolding Each sum_of
  sum_changed u v nowhere h = omega arith
  sum_changed u v (here e) h = omega (arith, h.0)
  sum_changed u v (later e c) h = omega (arith, sum_changed u v c h.1)

  -- a sum of figures that the change keeps stays
  pub sum_same : (u : Task → ℕ) → ((t : Task) → u (g t) ≡ u t) → {a : A} {s s' : List Task} → Changed q g f d s s' a → sum_of u s' ≡ sum_of u s
  unfolding sum_of
  sum_same u k nowhere = refl
  sum_same u k (here {t} e) = omega (arith, k t)
  sum_same u k (later e c) = omega (arith, sum_same u k c)

  -- a sum of figures that the change never raises does not rise
  pub sum_less : (u : Task → ℕ) → ((t : Task) → u (g t) ≤ u t) → {a : A} {s s' : List Task} → Changed q g f d s s' a → sum_of u s' ≤ sum_of u s
  unfolding sum_of
  sum_less u k nowhere = omega arith
  sum_less u k (here {t} e) = omega (arith, k t)
  sum_less u k (later e c) = omega (arith, sum_less u k c)

-- the task's figures alone: its period, budget, number and stroke length
unfoldable pub bare : Task → Task
bare t = with_job t 0 0

bare_changed : {A : Type 0} {q : Task → Bool} {g : Task → Task} {f : Task → A} {d a : A} {s s' : List Task} → ((t : Task) → bare (g t) ≡ bare t) → Changed q g f d s s' a → map bare s' ≡ map bare s
bare_changed k nowhere = refl
bare_changed k (here {t} {s} e) = ap (λ u. u ∷ map bare s) (k t)
bare_changed k (later {t} e c) = ap (λ l. bare t ∷ l) (bare_changed k c)

bare_older : (s : List Task) → map bare (map older s) ≡ map bare s
unfolding bare older with_job
bare_older [] = refl
bare_older (t ∷ s) = ap (λ l. bare t ∷ l) (bare_older s)

-- a call changes no figure of any task
pub bare_next : (q : Task → Bool) (c : Call) (s : List Task) → map bare (next_by q c s) ≡ map bare s
unfolding next_by bare with_job used
bare_next q (release j) s = bare_changed (λ t. released_cases (λ u. bare u ≡ bare t) t refl (λ x y. refl)) (changed_named j released release_answer s)
bare_next q (finish j) s = bare_changed (λ t. finished_cases (λ u. bare u ≡ bare t) t refl (λ x. refl)) (changed_named j finished finish_answer s)
bare_next q tick s = bare_older (modify q used s) ∙ bare_changed (λ t. refl) (changed_tick q used s)

-- a call keeps the number of tasks
pub length_next : (q : Task → Bool) (c : Call) (s : List Task) → length (next_by q c s) ≡ length s
length_next q c s = omega (arith, length-map (next_by q c s) bare, length-map s bare, ap length (bare_next q c s))

-- and the figures of the task at each place
pub bare_nth : (q : Task → Bool) (c : Call) (s : List Task) (i : ℕ) → bare (nth (next_by q c s) i) ≡ bare (nth s i)
unfolding bare with_job
bare_nth q c s i = cc (get_or-map bare (next_by q c s) i no_task, get_or-map bare s i no_task, ap (λ l. nth l i) (bare_next q c s))

take_modify : (q : Task → Bool) (g : Task → Task) (k : ℕ) (s : List Task) → take k (modify q g s) ≡ modify q g (take k s)
unfolding modify
take_modify q g zero s = refl
take_modify q g (suc k) [] = refl
take_modify q g (suc k) (t ∷ s) = go (q t) (take_modify q g k s)
  where
    go : (b : Bool) → take k (modify q g s) ≡ modify q g (take k s) → take (suc k) (cond b (g t ∷ s) (t ∷ modify q g s)) ≡ cond b (g t ∷ take k s) (t ∷ modify q g (take k s))
    go true e = refl
    go false e = ap (λ l. t ∷ l) e

-- a call on the first k tasks of a list does what it does on the list
pub take_next : (q : Task → Bool) (c : Call) (k : ℕ) (s : List Task) → take k (next_by q c s) ≡ next_by q c (take k s)
unfolding next_by
take_next q (release j) k s = take_modify (named j) released k s
take_next q (finish j) k s = take_modify (named j) finished k s
take_next q tick k s = take_map older k (modify q used s) ∙ ap (map older) (take_modify q used k s)

-- a refused call changes nothing
pub refused_kept : (q : Task → Bool) (c : Call) (s : List Task) (n i : ℕ) → answer_by q c s ≡ refused n i → next_by q c s ≡ s
unfolding answer_by next_by
refused_kept q (release j) s n i e = changed_same (λ t x. go (release_view t) (sym x ∙ e)) (changed_named j released release_answer s)
  where
    go : {t t' : Task} {a : Answer} → Release t a t' → a ≡ refused n i → t' ≡ t
    go (is_early x) d = refl
    go (is_late x y) d = refl
    go (starts x y) d = cc
refused_kept q (finish j) s n i e = changed_same (λ t x. go (finish_view t) (sym x ∙ e)) (changed_named j finished finish_answer s)
  where
    go : {t t' : Task} {a : Answer} → Finish t a t' → a ≡ refused n i → t' ≡ t
    go (is_quiet x) d = refl
    go (ends x) d = cc
refused_kept q tick s n i e = changed_answer (λ a. a ≡ refused n i → map older (modify q used s) ≡ s) (λ d. cc) (λ k d. cc) (changed_tick q used s) e
