-- Where every stroke is of one tick, the tasks from some priority up run as they would by themselves: what is done to those below them changes
-- nothing for them.
-- Assumes nothing.
use Prim.Native.Nat.{ℕ, zero, suc}
use mathlib.Core.Path.{◌≡◌, refl, sym, ap, subst, ◌∙◌}
use mathlib.Core.Logic.{⊎_elim}
use mathlib.Core.Bool.{Bool, true, false, cond, ◌||◌, true≢false}
use mathlib.Core.List.{List, [], ◌∷◌}
use native.Mathlib.Omega.{arith}
use lib.ListN.{take, drop}
use borrow.Author.Tests.{eqb-true, eq-eqb, ne_eqb}
use Rattle.fit.specs.Lists.{select, Each, EachPair}
use Rattle.fit.proofs.Lists.{each_all, each_of, each_both, each_at}
use Rattle.timing.specs.declared.Task.{Task}
use Rattle.timing.specs.Tasks.{pending, named, with_job, released, finished}
use Rattle.timing.specs.Calls.{Call, release, finish, tick, Answer, idle, refused, release_answer, finish_answer, tick_answer, of_first, modify, answer_by, next_by, State, answer, next, Entry, entry, log}
use Rattle.timing.specs.Form.{Distinct}
use Rattle.timing.specs.Serving.{no_task}
use Rattle.timing.specs.Strokes.{StateForm}
use Rattle.timing.specs.TwoRuns.{listed, up_to, concerns, to_them, view, SameFor}
use Rattle.timing.proofs.Lists.{zero_or_pos, take_map, drop_map}
use Rattle.timing.proofs.Steps.{Release, is_early, is_late, starts, release_view, Finish, is_quiet, ends, finish_view, bare, take_next}
use Rattle.timing.proofs.Form.{each_of_map, figures_kept}
use Rattle.timing.proofs.Plain.{plain, Ones, plain_log}

-- the answer to a release or a finish says the same to all tasks
them_release : (own : ℕ → Bool) (t : Task) → to_them own (release_answer t) ≡ release_answer t
unfolding to_them
them_release own t = go (release_view t)
  where
    go : {t' : Task} {a : Answer} → Release t a t' → to_them own a ≡ a
    go (is_early x) = refl
    go (is_late x y) = refl
    go (starts x y) = refl

them_finish : (own : ℕ → Bool) (t : Task) → to_them own (finish_answer t) ≡ finish_answer t
unfolding to_them
them_finish own t = go (finish_view t)
  where
    go : {t' : Task} {a : Answer} → Finish t a t' → to_them own a ≡ a
    go (is_quiet x) = refl
    go (ends x) = refl

-- a change of the first task that passes leaves a list where none does
modify_none : (q : Task → Bool) (g : Task → Task) (l : List Task) → Each (λ t. q t ≡ false) l → modify q g l ≡ l
unfolding modify Each
modify_none q g [] h = refl
modify_none q g (t ∷ l) h = rw h.0 (ap (λ u. t ∷ u) (modify_none q g l h.1))

-- what the answer of the first task that passes q says to the tasks whose numbers pass
module _ (own : ℕ → Bool) (q : Task → Bool) (f : Task → Answer) (d : Answer) (fixed : to_them own d ≡ d) where
  -- in a list whose answers all say d to them, it says d
  first_rest : (l : List Task) → Each (λ t. q t ≡ true → to_them own (f t) ≡ d) l → to_them own (of_first q f d l) ≡ d
  unfolding of_first Each
  first_rest [] h = fixed
  first_rest (t ∷ l) h = by (q t) refl (first_rest l h.1)
    where
      by : (b : Bool) → q t ≡ b → to_them own (of_first q f d l) ≡ d → to_them own (cond b (f t) (of_first q f d l)) ≡ d
      by true e r = h.0 e
      by false e r = r

  -- where those of the first k tasks say what they are, and those of the others d, it says what the first k by themselves answer
  first_front : (k : ℕ) (s : List Task) → Each (λ t. to_them own (f t) ≡ f t) (take k s) → Each (λ t. q t ≡ true → to_them own (f t) ≡ d) (drop k s) → to_them own (of_first q f d s) ≡ of_first q f d (take k s)
  unfolding of_first Each
  first_front zero s h r = first_rest s r
  first_front (suc k) [] h r = fixed
  first_front (suc k) (t ∷ s) h r = by (q t) (first_front k s h.1 r)
    where
      by : (b : Bool) → to_them own (of_first q f d s) ≡ of_first q f d (take k s) → to_them own (cond b (f t) (of_first q f d s)) ≡ cond b (f t) (of_first q f d (take k s))
      by true e = h.0
      by false e = e

-- the log of a list of tasks, of which every tick goes to the first that is pending
abbrev tasks_log : List Task → List Call → List Entry
tasks_log s cs = log (answer_by pending) (next_by pending) s cs

-- the first k tasks of a list have numbers that pass, and the others have numbers that do not
record Front (own : ℕ → Bool) (k : ℕ) (s : List Task) : Type 0 where
  front : Each (λ t. own t.number ≡ true) (take k s)
  rest : Each (λ t. own t.number ≡ false) (drop k s)

module _ (own : ℕ → Bool) (k : ℕ) where
  -- a call changes no number
  front_kept : (c : Call) (s : List Task) → Front own k s → Front own k (next_by pending c s)
  unfolding bare with_job
  front_kept c s h = record {
    front = figures_kept (λ x. Each (λ t. own t.number ≡ true) (take k x)) (λ x. ap (Each _) (take_map bare k x) ∙ each_of_map _ bare (take k x)) pending c s h.front;
    rest = figures_kept (λ x. Each (λ t. own t.number ≡ false) (drop k x)) (λ x. ap (Each _) (drop_map bare k x) ∙ each_of_map _ bare (drop k x)) pending c s h.rest;
  }

  module _ (s : List Task) (h : Front own k s) where
    -- a call on one of the first k tasks is answered by them, and so is a tick, as far as the answer speaks of them
    named_front : (j : ℕ) (f : Task → Answer) → own j ≡ true → ((t : Task) → to_them own (f t) ≡ f t) → to_them own (of_first (named j) f (refused 17 0) s) ≡ of_first (named j) f (refused 17 0) (take k s)
    unfolding to_them named
    named_front j f e g = first_front own (named j) f (refused 17 0) refl k s (each_all _ (take k s) g) (each_of (drop k s) (λ t x y. absurd (true≢false (sym e ∙ ap own (sym (eqb-true t.number j y)) ∙ x))) h.rest)

    answers_front : (c : Call) → concerns own c ≡ true → to_them own (answer_by pending c s) ≡ answer_by pending c (take k s)
    unfolding answer_by concerns to_them
    answers_front (release j) e = named_front j release_answer e (them_release own)
    answers_front (finish j) e = named_front j finish_answer e (them_finish own)
    answers_front tick e = first_front own pending tick_answer idle refl k s (each_of (take k s) (λ t x. rw x) h.front) (each_of (drop k s) (λ t x y. rw x) h.rest)

    -- a call on another task leaves them as they are
    others_named : (j : ℕ) (g : Task → Task) → own j ≡ false → modify (named j) g (take k s) ≡ take k s
    unfolding named
    others_named j g e = modify_none (named j) g (take k s) (each_of (take k s) (λ t x. ne_eqb t.number j (λ y. true≢false (sym x ∙ ap own y ∙ e))) h.front)

    others_front : (c : Call) → concerns own c ≡ false → take k (next_by pending c s) ≡ take k s
    unfolding next_by concerns
    others_front (release j) e = take_next pending (release j) k s ∙ others_named j released e
    others_front (finish j) e = take_next pending (finish j) k s ∙ others_named j finished e
    others_front tick e = absurd (true≢false e)

  -- what a log says of the first k tasks is the log of the calls that concern them on these tasks by themselves
  view_front : (cs : List Call) (s : List Task) → Front own k s → view (concerns own) own (tasks_log s cs) ≡ tasks_log (take k s) (select (concerns own) cs)
  unfolding view log select
  view_front [] s h = refl
  view_front (c ∷ cs) s h = by (concerns own c) refl (view_front cs (next_by pending c s) (front_kept c s h))
    where
      by : (b : Bool) → concerns own c ≡ b → view (concerns own) own (tasks_log (next_by pending c s) cs) ≡ tasks_log (take k (next_by pending c s)) (select (concerns own) cs) → cond b (entry c (to_them own (answer_by pending c s)) ∷ view (concerns own) own (tasks_log (next_by pending c s) cs)) (view (concerns own) own (tasks_log (next_by pending c s) cs)) ≡ tasks_log (take k s) (cond b (c ∷ select (concerns own) cs) (select (concerns own) cs))
      by true e r = rw (r, answers_front s h c e, take_next pending c k s)
      by false e r = rw (r, others_front s h c e)

  -- so it is with tasks whose strokes are of one tick, in a state where none lasts
  front_same : (s : List Task) → Ones s → Front own k s → SameFor answer next (concerns own) own (plain s)
  front_same s o h = record { same = λ cs ds e. seen cs ∙ ap (tasks_log (take k s)) e ∙ sym (seen ds) }
    where
      seen : (cs : List Call) → view (concerns own) own (log answer next (plain s) cs) ≡ tasks_log (take k s) (select (concerns own) cs)
      seen cs = ap (view (concerns own) own) (plain_log cs s o) ∙ view_front cs s h

-- where every stroke is of one tick, none lasts in a state in form
ones_plain : (s : State) → StateForm s → Ones s.tasks → s ≡ plain s.tasks
ones_plain s f h = λ i. record { tasks = s.tasks; stroke = record { task = f.none over i; left = over i } }
  where
    over : s.stroke.left ≡ 0
    over = ⊎_elim (λ e. e) (λ p. let x = f.lasts p in absurd (omega (arith, p, x.2.length_max, each_at _ no_task s.tasks x.0 x.1 h))) (zero_or_pos s.stroke.left)

-- the numbers of the first k tasks are those of no other, where none stands twice
front_numbers : (k : ℕ) (s : List Task) → Each (λ t. listed (take k s) t.number ≡ true) (take k s)
unfolding Each listed named
front_numbers zero s = tt
front_numbers (suc k) [] = tt
front_numbers (suc k) (t ∷ s) = (rw (eq-eqb t.number t.number refl), each_of (take k s) (λ u e. rw e (or_right (named u.number t))) (front_numbers k s))
  where
    or_right : (b : Bool) → (b || true) ≡ true
    or_right true = refl
    or_right false = refl

rest_numbers : (k : ℕ) (s : List Task) → EachPair Distinct s → Each (λ t. listed (take k s) t.number ≡ false) (drop k s)
unfolding Each EachPair Distinct listed named
rest_numbers zero s d = each_all _ s (λ t. refl)
rest_numbers (suc k) [] d = tt
rest_numbers (suc k) (t ∷ s) d = each_both (drop k s) (λ u x y. rw (ne_eqb t.number u.number x) y) (each_drop (λ u. t.number ≡ u.number → ⊥) k s d.0) (rest_numbers k s d.1)
  where
    each_drop : (P : Task → Type 0) (k : ℕ) (s : List Task) → Each P s → Each P (drop k s)
    each_drop P zero s h = h
    each_drop P (suc k) [] h = tt
    each_drop P (suc k) (u ∷ s) h = each_drop P k s h.1

-- The law of two runs: ticks and calls on the task at place i and on those above it are the same, all other calls may differ.
pub below_apart : (s : State) → StateForm s → Ones s.tasks → (i : ℕ) → SameFor answer next (concerns (up_to s.tasks i)) (up_to s.tasks i) s
below_apart s f ones i =
    let mine = up_to s.tasks i in
    subst (SameFor answer next (concerns mine) mine) (sym (ones_plain s f ones)) (front_same mine (suc i) s.tasks ones (record { front = front_numbers (suc i) s.tasks; rest = rest_numbers (suc i) s.tasks f.tasks.distinct }))
