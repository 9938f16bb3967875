-- Each way out of release, finish and tick, as the code returns it.
-- Assumes nothing.
use Prim.Native.Nat.{ℕ, zero, suc, ◌≤◌, ◌<◌, ◌-◌, ◌*◌}
use mathlib.Core.Path.{◌≡◌, refl, sym, ap, subst, ◌∙◌}
use mathlib.Core.Bool.{Bool, true, false, cond}
use mathlib.Core.List.{List, [], ◌∷◌, ◌++◌, map}
use native.Mathlib.Omega.{arith}
use lib.ListN.{length, take, drop, set, take-append-drop, length-map, get_or-append, get_or-map}
use lib.Seq.{get_or-take, length-take-le, take-set-lt, drop-set-lt, set-get_or, set-append_left}
use lib.Dec.{ltb, eqb}
use mir.Val.{Fits}
use mir.Syntax.{w64}
use borrow.Author.Tests.{lt-ltb, le-ltb, ltb-true, ltb-false}
use Rattle.std.specs.Prelude.{Some, None, Result, Ok, Err}
use Rattle.std.specs.Option.{ok_or}
use Rattle.sheet.specs.declared.Refusal.TheVariants.{Foreign, Unlisted, Early, Late, Quiet}
use Rattle.sheet.specs.declared.Rejection.{Rejection}
use Rattle.sheet.specs.Refusals.{number_of}
use Rattle.fit.specs.Lists.{place_of}
use Rattle.fit.proofs.Words.{place_position}
use Rattle.timing.specs.declared.Task.{Task}
use Rattle.timing.specs.Calls.{Call, Answer, of_first, modify, answer_by, next_by, Stroke, no_stroke, stroke_of, turn, stroke_ticks, stroke_ticked, stroke_finished, next_stroke, answer, next, release, finish, tick, idle, accepted, served, refused, release_answer, finish_answer, tick_answer}
use Rattle.timing.specs.Serving.{no_task, nth}
use Rattle.timing.specs.Tasks.{pending, early, named, with_job, released, finished, used, older}
use Rattle.timing.proofs.Steps.{turn_pends}
use Rattle.state.specs.declared.Core.{Core}
use Rattle.state.specs.declared.Step.{Step}
use Rattle.state.specs.declared.Reply.TheVariants.{Served, Idle}
use Rattle.state.specs.State.{tasks_of, stroke_in, state_in, with_state, foreign}
use Rattle.state.specs.Operations.{refusal, ask, step, Operation, answer_of}
use Rattle.state.specs.Steps.{spot, changed, with_stroke, acceptance}
use Rattle.state.proofs.Foreign.{foreign_form}

-- a state is its fields
pub state_is : (s : Core) (n : ℕ) (l : List Task) (j r : ℕ) → s.count ≡ n → s.tasks ≡ l → s.stroke_task ≡ j → s.stroke_left ≡ r → s ≡ record { count = n; tasks = l; stroke_task = j; stroke_left = r }
state_is s n l j r e f g h = λ i. record { count = e i; tasks = f i; stroke_task = g i; stroke_left = h i }

-- a state with every task one tick older
abbrev pub aged_state : Core → Core
aged_state s = with_state s (record { tasks = map older (tasks_of s); stroke = stroke_in s })

-- the first task that passes, at its place: what it answers, and the list in which it is changed
record Found (q : Task → Bool) (s : List Task) (i : ℕ) : Type 1 where
  pub passes : q (nth s i) ≡ true
  pub answers : {A : Type 0} (f : Task → A) (d : A) → of_first q f d s ≡ f (nth s i)
  pub changes : (g : Task → Task) → modify q g s ≡ set s i (g (nth s i))

found : (q : Task → Bool) (s : List Task) → place_of q s < length s → Found q s (place_of q s)
unfolding place_of of_first modify
found q [] h = absurd (omega arith)
found q (t ∷ s) h = go (q t) refl h (found q s)
  where
    go : (b : Bool) → q t ≡ b → cond b 0 (suc (place_of q s)) < length (t ∷ s) → (place_of q s < length s → Found q s (place_of q s)) → Found q (t ∷ s) (cond b 0 (suc (place_of q s)))
    go true e k r = record { passes = e; answers = λ f d. rw e; changes = λ g. rw e }
    go false e k r =
        let x = r (omega arith) in
        record { passes = x.passes; answers = λ f d. rw e (x.answers f d); changes = λ g. rw e (ap (λ l. t ∷ l) (x.changes g)) }

-- where none passes
record Lacking (q : Task → Bool) (s : List Task) : Type 1 where
  pub answers : {A : Type 0} (f : Task → A) (d : A) → of_first q f d s ≡ d
  pub changes : (g : Task → Task) → modify q g s ≡ s

missing : (q : Task → Bool) (s : List Task) → length s ≤ place_of q s → Lacking q s
unfolding place_of of_first modify
missing q [] h = record { answers = λ f d. refl; changes = λ g. refl }
missing q (t ∷ s) h = go (q t) refl h (missing q s)
  where
    go : (b : Bool) → q t ≡ b → length (t ∷ s) ≤ cond b 0 (suc (place_of q s)) → (length s ≤ place_of q s → Lacking q s) → Lacking q (t ∷ s)
    go true e k r = absurd (omega arith)
    go false e k r =
        let x = r (omega arith) in
        record { answers = λ f d. rw e (x.answers f d); changes = λ g. rw e (ap (λ l. t ∷ l) (x.changes g)) }

-- one of a list changed, and then all
map_set : (f : Task → Task) (l : List Task) (i : ℕ) (t : Task) → map f (set l i t) ≡ set (map f l) i (f t)
map_set f [] i t = refl
map_set f (u ∷ l) zero t = refl
map_set f (u ∷ l) (suc i) t = ap (λ r. f u ∷ r) (map_set f l i t)

-- a state with its own tasks and stroke, and with one of the tasks and the stroke changed
pub same_state : (s : Core) → with_state s (state_in s) ≡ s
unfolding with_state
same_state s = sym (state_is s s.count _ _ _ refl (sym (take-append-drop s.count s.tasks)) refl refl)

one_changed : (s : Core) (i : ℕ) (t : Task) (k : Stroke) → i < s.count → with_state s (record { tasks = set (tasks_of s) i t; stroke = k }) ≡ with_stroke (changed s i t) k
unfolding with_state
one_changed s i t k h =
    let front : take s.count (set s.tasks i t) ≡ set (tasks_of s) i t = take-set-lt s.count s.tasks i t h in
    let back : drop s.count (set s.tasks i t) ≡ drop s.count s.tasks = drop-set-lt s.count s.tasks i t h in
    state_is _ s.count _ _ _ refl (rw (front, back) at (take-append-drop s.count (set s.tasks i t))) refl refl

-- the ticks of a stroke of a task that is older
ticks_older : (r : ℕ) (t : Task) → stroke_ticks r (older t) ≡ stroke_ticks r t
unfolding older with_job
ticks_older zero t = refl
ticks_older (suc r) t = refl

-- the stroke after the tick of a task, as the code writes it
pub number_none : (j r : ℕ) → r ≡ 0 → 0 ≡ (stroke_of j r).task
number_none j zero h = refl
number_none j (suc r) h = absurd (omega (arith, h))

pub number_some : (j r : ℕ) → (r ≡ 0 → ⊥) → j ≡ (stroke_of j r).task
number_some j zero h = absurd (h refl)
number_some j (suc r) h = refl

left_of : (j r : ℕ) → r ≡ (stroke_of j r).left
left_of j zero = refl
left_of j (suc r) = refl

pub stroke_written : (s : Core) (i : ℕ) (t : Task) (r n : ℕ) → r ≡ stroke_ticks s.stroke_left t - 1 → n ≡ (stroke_of t.number r).task → record { count = s.count; tasks = set s.tasks i (used t); stroke_task = n; stroke_left = r } ≡ with_stroke (changed s i (used t)) (stroke_ticked (stroke_in s) t)
stroke_written s i t r n e h = ap (λ n. record { count = s.count; tasks = set s.tasks i (used t); stroke_task = n; stroke_left = r }) h ∙ ap (λ l. record { count = s.count; tasks = set s.tasks i (used t); stroke_task = (stroke_of t.number r).task; stroke_left = l }) (left_of t.number r) ∙ ap (λ r. with_stroke (changed s i (used t)) (stroke_of t.number r)) e

-- what a tick gives where the form is not looked at: what timing's state answers and hands back
pub record Untested (s : Core) (r : Step) : Type 0 where
  pub answer : answer_of r.answer ≡ answer tick (state_in s)
  pub core : r.core ≡ with_state s (next tick (state_in s))

-- 21
pub op_foreign : (c : Call) (s : Core) (w : Rejection ℕ) (r : Step) → true ≡ foreign s → w ≡ record { word = Foreign; place = 0 } → r ≡ refusal s w → Operation c s r
unfolding ask step
op_foreign c s w r e x y = record { answer = rw (y, x, ← e); core = rw (y, ← e) }

pub count_max : (s : Core) (b : Bool) → b ≡ foreign s → b ≡ false → s.count ≤ 64
count_max s b e x = (foreign_form s (sym e ∙ x)).count

-- a state of at most 64 tasks, whatever its fields hold
module _ (s : Core) (most : s.count ≤ 64) (room : length s.tasks ≡ 64) where
  many : length (tasks_of s) ≡ s.count
  many = length-take-le s.count s.tasks (omega arith)

  module _ (q : Task → Bool) (i : ℕ) (at : i ≡ place_of q (tasks_of s)) where
    hit : i < s.count → Found q (tasks_of s) i
    hit h = rw at (found q (tasks_of s) (omega (arith, many)))

    miss : s.count ≤ i → Lacking q (tasks_of s)
    miss h = missing q (tasks_of s) (omega (arith, many))

    task_at : i < s.count → nth (tasks_of s) i ≡ nth s.tasks i
    task_at h = get_or-take s.count s.tasks i no_task h

  abbrev who : Task → Bool
  who = turn (stroke_in s)

  -- a tick, once every task is older
  module _ (i : ℕ) (at : i ≡ place_of who (tasks_of s)) (v : Core) (k : v ≡ aged_state s) where
    -- it is idle
    pub tick_idles : s.count ≤ i → Untested s (record { answer = Ok Idle; core = v })
    unfolding answer next answer_by next_by next_stroke
    tick_idles h =
        let m = miss who i at h in
        record { answer = sym (m.answers tick_answer idle); core = k ∙ sym (ap (λ l. with_state s (record { tasks = map older l; stroke = next_stroke tick (state_in s) })) (m.changes used) ∙ ap (λ (v : Stroke). with_state s (record { tasks = map older (tasks_of s); stroke = v })) (m.answers (stroke_ticked (stroke_in s)) (stroke_in s))) }

    -- it goes to the first task that may have it
    module _ (h : i < s.count) where
      abbrev old : Task
      old = nth (tasks_of s) i

      aged_task : nth v.tasks i ≡ older old
      unfolding with_state older with_job
      aged_task = ap (λ w. nth w.tasks i) k ∙ get_or-append (map older (tasks_of s)) (drop s.count s.tasks) no_task i (simp length-map (omega (arith, many))) ∙ get_or-map older (tasks_of s) i no_task

      pub aged_left : 1 ≤ (nth v.tasks i).left
      unfolding older with_job
      aged_left = rw aged_task (turn_pends (stroke_in s) old (hit who i at h).passes)

      pub tick_serves : (u : Task) (rest number : ℕ) → u ≡ with_job (nth v.tasks i) (nth v.tasks i).age ((nth v.tasks i).left - 1) → rest ≡ stroke_ticks s.stroke_left (nth v.tasks i) - 1 → number ≡ (stroke_of (nth v.tasks i).number rest).task → Untested s (record { answer = Ok (Served (nth v.tasks i).number); core = record { count = v.count; tasks = set v.tasks i u; stroke_task = number; stroke_left = rest } })
      unfolding answer next answer_by next_by next_stroke used older with_job with_state
      tick_serves u rest number e x y =
          let m = hit who i at h in
          let o : u ≡ used (older old) = e ∙ ap used aged_task in
          let front : set v.tasks i u ≡ map older (modify who used (tasks_of s)) ++ drop s.count s.tasks = ap (λ w. set w.tasks i u) k ∙ set-append_left (map older (tasks_of s)) (drop s.count s.tasks) i u (simp length-map (omega (arith, many))) ∙ ap (λ l. l ++ drop s.count s.tasks) (ap (set (map older (tasks_of s)) i) o ∙ sym (map_set older (tasks_of s) i (used old)) ∙ ap (map older) (sym (m.changes used))) in
          let left : rest ≡ stroke_ticks s.stroke_left old - 1 = x ∙ ap (λ t. stroke_ticks s.stroke_left t - 1) aged_task ∙ ap (λ n. n - 1) (ticks_older s.stroke_left old) in
          let own : stroke_of (nth v.tasks i).number rest ≡ next_stroke tick (state_in s) = ap (λ t. stroke_of t.number rest) aged_task ∙ ap (stroke_of old.number) left ∙ sym (m.answers (stroke_ticked (stroke_in s)) (stroke_in s)) in
          record {
            answer = ap (λ t. served t.number) aged_task ∙ sym (m.answers tick_answer idle);
            core = state_is _ s.count _ _ _ (ap (λ w. w.count) k) front (y ∙ ap (λ (w : Stroke). w.task) own) (left_of (nth v.tasks i).number rest ∙ ap (λ (w : Stroke). w.left) own);
          }

      -- the same of the number and the state as `serve` hands them back
      pub serve_ticks : (n : ℕ) (w : Core) → n ≡ (nth v.tasks i).number → w ≡ with_stroke (changed v i (used (nth v.tasks i))) (stroke_ticked (stroke_in v) (nth v.tasks i)) → Untested s (record { answer = Ok (Served n); core = w })
      unfolding used with_state
      serve_ticks n w y z =
          let b = tick_serves _ _ _ refl refl refl in
          record { answer = ap served y ∙ b.answer; core = z ∙ sym (stroke_written v i (nth v.tasks i) _ _ (ap (λ (u : Core). stroke_ticks u.stroke_left (nth v.tasks i) - 1) (sym k)) refl) ∙ b.core }

-- a state in form
module _ (s : Core) (x : foreign s ≡ false) where
  few : s.count ≤ 64
  few = (foreign_form s x).count

  -- what it answers and hands back
  native_ask : (c : Call) → ask c s ≡ answer c (state_in s)
  unfolding ask
  native_ask c = rw x

  native_step : (c : Call) → step c s ≡ with_state s (next c (state_in s))
  unfolding step
  native_step c = rw x

  -- what timing's state gives is what a tick of a state in form gives
  pub tick_in_form : (r : Step) → Untested s r → Operation tick s r
  tick_in_form r u = record { answer = u.answer ∙ sym (native_ask tick); core = u.core ∙ sym (native_step tick) }

  module _ (room : length s.tasks ≡ 64) (q : Task → Bool) (i : ℕ) (at : i ≡ place_of q (tasks_of s)) where
    -- a call that changes the first task which passes, and the stroke
    operation : (c : Call) (f : Task → Answer) (d : Answer) (g : Task → Task) (k : Stroke) (r : Step) → answer c (state_in s) ≡ of_first q f d (tasks_of s) → next c (state_in s) ≡ record { tasks = modify q g (tasks_of s); stroke = k } → i < s.count → answer_of r.answer ≡ f (nth s.tasks i) → r.core ≡ with_stroke (changed s i (g (nth s.tasks i))) k → Operation c s r
    operation c f d g k r p n h y z =
        let m = hit s few room q i at h in
        let same = task_at s few room q i at h in
        record {
          answer = y ∙ sym (native_ask c ∙ p ∙ m.answers f d ∙ ap f same);
          core = z ∙ sym (native_step c ∙ ap (with_state s) (n ∙ ap (λ l. record { tasks = l; stroke = k }) (m.changes g ∙ ap (λ t. set (tasks_of s) i (g t)) same)) ∙ one_changed s i _ k h);
        }

    -- a refusal of that task: task and stroke stay as they are
    refusal_at : (c : Call) (f : Task → Answer) (d : Answer) (g : Task → Task) (k : Stroke) (w : Rejection ℕ) → answer c (state_in s) ≡ of_first q f d (tasks_of s) → next c (state_in s) ≡ record { tasks = modify q g (tasks_of s); stroke = k } → (Found q (tasks_of s) i → k ≡ stroke_in s) → i < s.count → f (nth s.tasks i) ≡ refused (number_of w.word) w.place → g (nth s.tasks i) ≡ nth s.tasks i → Operation c s (refusal s w)
    refusal_at c f d g k w p n t h y z =
        let same = t (hit s few room q i at h) in
        operation c f d g k (refusal s w) p n h (sym y) (state_is s s.count _ _ _ refl (sym (ap (set s.tasks i) z ∙ set-get_or s.tasks i no_task)) (sym (ap (λ u. u.task) same)) (sym (ap (λ u. u.left) same)))

    -- 17: no task passes
    unlisted : (c : Call) (f : Task → Answer) (g : Task → Task) (k : Stroke) → answer c (state_in s) ≡ of_first q f (refused 17 0) (tasks_of s) → next c (state_in s) ≡ record { tasks = modify q g (tasks_of s); stroke = k } → (Lacking q (tasks_of s) → k ≡ stroke_in s) → s.count ≤ i → Operation c s (refusal s (record { word = Unlisted; place = 0 }))
    unlisted c f g k p n t h =
        let m = miss s few room q i at h in
        record { answer = sym (native_ask c ∙ p ∙ m.answers f (refused 17 0)); core = sym (native_step c ∙ ap (with_state s) (n ∙ ap (λ l. record { tasks = l; stroke = k }) (m.changes g) ∙ ap (λ u. record { tasks = tasks_of s; stroke = u }) (t m)) ∙ same_state s) }

-- the place of a named task, as the code looks for it
module _ (s : Core) (j : ℕ) (room : length s.tasks ≡ 64) where
  abbrev n : ℕ
  n = place_of (named j) (tasks_of s)

  -- 21, else 17 or where it stands
  data Looked : Result ℕ (Rejection ℕ) → Type 0 where
    foreign_state : foreign s ≡ true → Looked (Err (record { word = Foreign; place = 0 }))
    not_there : foreign s ≡ false → s.count ≤ n → Looked (Err (record { word = Unlisted; place = 0 }))
    there : foreign s ≡ false → n < s.count → Looked (Ok n)

  looked : Looked (spot s j)
  unfolding spot
  looked = rw (← place_position (named j) (tasks_of s)) (by (foreign s) refl)
    where
      inside : foreign s ≡ false → (b : Bool) → ltb n (length (tasks_of s)) ≡ b → Looked (ok_or (cond b (Some n) None) (record { word = Unlisted; place = 0 }))
      inside x true e = there x (omega (arith, ltb-true n _ e, many s (few s x) room))
      inside x false e = not_there x (omega (arith, ltb-false n _ e, many s (few s x) room))

      by : (b : Bool) → foreign s ≡ b → Looked (cond b (Err (record { word = Foreign; place = 0 })) (ok_or (cond (ltb n (length (tasks_of s))) (Some n) None) (record { word = Unlisted; place = 0 })))
      by true e = foreign_state e
      by false e = inside e (ltb n (length (tasks_of s))) refl

  -- the answer of the search, as the code goes on from it
  module _ (p : Result ℕ (Rejection ℕ)) (q : p ≡ spot s j) where
    absent : (c : Call) (f : Task → Answer) (g : Task → Task) (v : Stroke) (w : Rejection ℕ) → answer c (state_in s) ≡ of_first (named j) f (refused 17 0) (tasks_of s) → next c (state_in s) ≡ record { tasks = modify (named j) g (tasks_of s); stroke = v } → (Lacking (named j) (tasks_of s) → v ≡ stroke_in s) → p ≡ Err w → Operation c s (refusal s w)
    absent c f g v w a k t h = go (rw q looked) h
      where
        go : {o : Result ℕ (Rejection ℕ)} → Looked o → o ≡ Err w → Operation c s (refusal s w)
        go (foreign_state x) e =
            let same : record { word = Foreign; place = 0 } ≡ w = cc in
            subst (λ w. Operation c s (refusal s w)) same (op_foreign c s _ _ (sym x) refl refl)
        go (not_there x m) e =
            let same : record { word = Unlisted; place = 0 } ≡ w = cc in
            subst (λ w. Operation c s (refusal s w)) same (unlisted s x room (named j) n refl c f g v a k t m)
        go (there x m) e = absurd (let never : ◌≡◌ {A = ℕ} 0 1 = cc in omega arith)

    pub release_absent : (w : Rejection ℕ) → p ≡ Err w → Operation (release j) s (refusal s w)
    unfolding answer next answer_by next_by next_stroke
    release_absent w h = absent (release j) release_answer released (stroke_in s) w refl refl (λ m. refl) h

    pub finish_absent : (w : Rejection ℕ) → p ≡ Err w → Operation (finish j) s (refusal s w)
    unfolding answer next answer_by next_by next_stroke
    finish_absent w h = absent (finish j) finish_answer finished (next_stroke (finish j) (state_in s)) w refl refl (λ m. m.answers (stroke_finished (stroke_in s)) (stroke_in s)) h

    module _ (i : ℕ) (h : p ≡ Ok i) where
      found_there : (foreign s ≡ false) × (i ≡ n) × (i < s.count)
      found_there = go (rw q looked) h
        where
          go : {o : Result ℕ (Rejection ℕ)} → Looked o → o ≡ Ok i → (foreign s ≡ false) × (i ≡ n) × (i < s.count)
          go (foreign_state x) e = absurd (let never : ◌≡◌ {A = ℕ} 0 1 = cc in omega arith)
          go (not_there x m) e = absurd (let never : ◌≡◌ {A = ℕ} 0 1 = cc in omega arith)
          go (there x m) e =
              let same : i ≡ n = cc in
              (x, same, omega (arith, same, m))

      pub spot_room : i < 64
      spot_room = omega (arith, found_there.2, few s found_there.0)

      -- the offset in bytes of a task of 10 bytes
      pub spot_fits : Fits w64 (i * 10)
      spot_fits = record { fits = omega (arith, spot_room) }

      -- a refusal of the task there, and a change of it
      refused_there : (c : Call) (f : Task → Answer) (g : Task → Task) (v : Stroke) (w r : Rejection ℕ) → answer c (state_in s) ≡ of_first (named j) f (refused 17 0) (tasks_of s) → next c (state_in s) ≡ record { tasks = modify (named j) g (tasks_of s); stroke = v } → (Found (named j) (tasks_of s) i → v ≡ stroke_in s) → f (nth s.tasks i) ≡ refused (number_of w.word) w.place → g (nth s.tasks i) ≡ nth s.tasks i → r ≡ w → Operation c s (refusal s r)
      refused_there c f g v w r a k t y z e = rw e (refusal_at s found_there.0 room (named j) i found_there.1 c f (refused 17 0) g v w a k t found_there.2 y z)

      changed_there : (c : Call) (f : Task → Answer) (g : Task → Task) (v : Stroke) (z : Core) (u : Task) → answer c (state_in s) ≡ of_first (named j) f (refused 17 0) (tasks_of s) → next c (state_in s) ≡ record { tasks = modify (named j) g (tasks_of s); stroke = v } → accepted ≡ f (nth s.tasks i) → u ≡ g (nth s.tasks i) → z ≡ with_stroke s v → Operation c s (acceptance z i u)
      changed_there c f g v z u a k y e x = operation s found_there.0 room (named j) i found_there.1 c f (refused 17 0) g v _ a k found_there.2 y (ap (λ w. changed w i u) x ∙ ap (λ t. with_stroke (changed s i t) v) e)

      -- the task there, as it stands among the state's tasks
      here : nth (tasks_of s) i ≡ nth s.tasks i
      here = task_at s (few s found_there.0) room (named j) i found_there.1 found_there.2

      -- 18, 19, and a job that starts
      pub release_early : (r : Rejection ℕ) (n : ℕ) → (nth s.tasks i).age < (nth s.tasks i).period → n ≡ (nth s.tasks i).number → r ≡ record { word = Early; place = n } → Operation (release j) s (refusal s r)
      unfolding answer next answer_by next_by next_stroke release_answer released early
      release_early r n a m k =
          let y = lt-ltb _ _ a in
          refused_there (release j) release_answer released (stroke_in s) _ r refl refl (λ m. refl) (rw (y, m)) (rw y) k

      pub release_late : (r : Rejection ℕ) (n : ℕ) → (nth s.tasks i).period ≤ (nth s.tasks i).age → 0 < (nth s.tasks i).left → n ≡ (nth s.tasks i).number → r ≡ record { word = Late; place = n } → Operation (release j) s (refusal s r)
      unfolding answer next answer_by next_by next_stroke release_answer released early pending
      release_late r n a l m k =
          let y = le-ltb _ _ a in
          let z = lt-ltb _ _ l in
          refused_there (release j) release_answer released (stroke_in s) _ r refl refl (λ m. refl) (rw (y, z, m)) (rw (y, z)) k

      pub release_starts : (u : Task) → (nth s.tasks i).period ≤ (nth s.tasks i).age → (nth s.tasks i).left ≤ 0 → u ≡ with_job (nth s.tasks i) 0 (nth s.tasks i).budget → Operation (release j) s (acceptance s i u)
      unfolding answer next answer_by next_by next_stroke release_answer released early pending
      release_starts u a l e =
          let y = le-ltb _ _ a in
          let z = le-ltb _ _ l in
          changed_there (release j) release_answer released (stroke_in s) s u refl refl (rw (y, z)) (rw (e, y, z)) refl

      -- 20, and a job that ends, with its stroke
      pub finish_quiet : (r : Rejection ℕ) (n : ℕ) → (nth s.tasks i).left ≡ 0 → n ≡ (nth s.tasks i).number → r ≡ record { word = Quiet; place = n } → Operation (finish j) s (refusal s r)
      unfolding answer next answer_by next_by next_stroke finish_answer finished pending
      finish_quiet r n l m k =
          let z : ltb 0 (nth s.tasks i).left ≡ false = le-ltb 0 (nth s.tasks i).left (omega (arith, l)) in
          refused_there (finish j) finish_answer finished (next_stroke (finish j) (state_in s)) _ r refl refl (λ m. m.answers (stroke_finished (stroke_in s)) (stroke_in s) ∙ ap (stroke_finished (stroke_in s)) here ∙ rw z) (rw (z, m)) (rw z) k

      pub finish_ends : (u : Task) → ((nth s.tasks i).left ≡ 0 → ⊥) → u ≡ with_job (nth s.tasks i) (nth s.tasks i).age 0 → Operation (finish j) s (acceptance (with_stroke s (cond (eqb s.stroke_task (nth s.tasks i).number) no_stroke (stroke_in s))) i u)
      unfolding answer next answer_by next_by next_stroke finish_answer finished pending
      finish_ends u l e =
          let z : ltb 0 (nth s.tasks i).left ≡ true = lt-ltb 0 (nth s.tasks i).left (omega (arith, l)) in
          let m = hit s (few s found_there.0) room (named j) i found_there.1 found_there.2 in
          let own : next_stroke (finish j) (state_in s) ≡ cond (eqb s.stroke_task (nth s.tasks i).number) no_stroke (stroke_in s) = m.answers (stroke_finished (stroke_in s)) (stroke_in s) ∙ ap (stroke_finished (stroke_in s)) here ∙ rw z in
          changed_there (finish j) finish_answer finished (next_stroke (finish j) (state_in s)) _ u refl refl (rw z) (rw (e, z)) (sym (ap (with_stroke s) own))
