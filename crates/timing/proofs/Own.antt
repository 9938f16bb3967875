-- What a release or a finish of a number does to the task that has it.
-- Assumes nothing.
use Prim.Native.Nat.{ℕ}
use mathlib.Core.Path.{◌≡◌, refl, sym, subst, ◌∙◌}
use mathlib.Core.Logic.{⊎_elim}
use mathlib.Core.Bool.{Bool, false}
use mathlib.Core.List.{List, [], ◌∷◌, ◌++◌}
use native.Mathlib.Omega.{arith}
use lib.Dec.{eqb}
use borrow.Author.Tests.{eqb-true, eqb-false, eq-eqb, ne_eqb}
use Rattle.fit.specs.Lists.{Each, EachPair}
use Rattle.fit.proofs.Lists.{each_of, each_both, each_at}
use Rattle.timing.specs.declared.Task.{Task}
use Rattle.timing.specs.Tasks.{named, with_job, released, finished}
use Rattle.timing.specs.Calls.{Call, release, finish, Answer, accepted, release_answer, finish_answer, of_first, answer_by, next_by, State, turn, answer, next, Entry, entry, calls, log, run}
use Rattle.timing.specs.Form.{Distinct}
use Rattle.timing.specs.OnTime.{count, is_finish}
use Rattle.timing.specs.Serving.{no_task, is_release}
use Rattle.timing.proofs.Runs.{run_kept, Logged, log_split, release_counts, finish_counts}
use Rattle.timing.proofs.Steps.{Release, is_early, is_late, starts, release_view, Finish, is_quiet, ends, finish_view, Changed, nowhere, here, later, changed_named, changed_found, each_hit, bare}
use Rattle.timing.proofs.Form.{each_of_map, figures_kept}

-- a property of the task numbered j
abbrev pub Own : ℕ → (Task → Type 0) → Task → Type 0
Own j P t = t.number ≡ j → P t

-- what the change of the task that is named gives, the task of that number has after it
pub each_own : {A : Type 0} (j : ℕ) {g : Task → Task} {f : Task → A} {d a : A} {s s' : List Task} (P : Task → Type 0) → Changed (named j) g f d s s' a → EachPair Distinct s → ((t : Task) → a ≡ f t → P (g t)) → Each (Own j P) s'
unfolding Each EachPair Distinct named
each_own j P nowhere h k = tt
each_own j P (here {t} {s} x) h k = ((λ e. k t refl), each_of s (λ u n e. absurd (n (eqb-true _ _ x ∙ sym e))) h.0)
each_own j P (later x c) h k = ((λ e. absurd (eqb-false _ _ x e)), each_own j P c h.1 k)

module _ (j : ℕ) (P : Task → Type 0) where
  -- a release or a finish that is not an accepted one of j leaves its task as it is
  released_own : (t : Task) → (release_answer t ≡ accepted → t.number ≡ j → ⊥) → Own j P t → Own j P (released t)
  unfolding with_job
  released_own t k h = go (release_view t) k
    where
      go : {a : Answer} {t' : Task} → Release t a t' → (a ≡ accepted → t.number ≡ j → ⊥) → Own j P t'
      go (is_early x) y = h
      go (is_late x z) y = h
      go (starts x z) y = λ e. absurd (y refl e)

  finished_own : (t : Task) → (finish_answer t ≡ accepted → t.number ≡ j → ⊥) → Own j P t → Own j P (finished t)
  unfolding with_job
  finished_own t k h = go (finish_view t) k
    where
      go : {a : Answer} {t' : Task} → Finish t a t' → (a ≡ accepted → t.number ≡ j → ⊥) → Own j P t'
      go (is_quiet x) y = h
      go (ends x) y = λ e. absurd (y refl e)

  pub release_other : (q : Task → Bool) (i : ℕ) (s : List Task) → count (is_release j) (entry (release i) (answer_by q (release i) s) ∷ []) ≡ 0 → Each (Own j P) s → Each (Own j P) (next_by q (release i) s)
  unfolding next_by answer_by named
  release_other q i s z h = each_hit (Own j P) (λ t x y. released_own t (λ a e. omega (arith, z, release_counts j i _ (sym (eqb-true t.number i x) ∙ e) (y ∙ a)))) (changed_named i released release_answer s) h

  pub finish_other : (q : Task → Bool) (i : ℕ) (s : List Task) → count (is_finish j) (entry (finish i) (answer_by q (finish i) s) ∷ []) ≡ 0 → Each (Own j P) s → Each (Own j P) (next_by q (finish i) s)
  unfolding next_by answer_by named
  finish_other q i s z h = each_hit (Own j P) (λ t x y. finished_own t (λ a e. omega (arith, z, finish_counts j i _ (sym (eqb-true t.number i x) ∙ e) (y ∙ a)))) (changed_named i finished finish_answer s) h

-- in a list without a number twice, each task answers the release of its own number
pub own_answer : (q : Task → Bool) (s : List Task) → EachPair Distinct s → Each (λ t. answer_by q (release t.number) s ≡ release_answer t) s
unfolding Each EachPair Distinct answer_by of_first named
own_answer q [] d = tt
own_answer q (t ∷ s) d = (rw (eq-eqb t.number t.number refl), each_both s (λ u x y. let e : eqb t.number u.number ≡ false = ne_eqb _ _ x in rw e y) d.0 (own_answer q s d.1))

-- a number whose release is accepted is that of a task
accepted_listed : (Q : ℕ → Type 0) (q : Task → Bool) (j : ℕ) (s : List Task) → Each (λ t. Q t.number) s → answer_by q (release j) s ≡ accepted → Q j
unfolding answer_by named
accepted_listed Q q j s h e = ⊎_elim (λ x. absurd (let z : ◌≡◌ {A = ℕ} 0 1 = cc in omega arith)) (λ x. subst Q (eqb-true _ _ x.2) (each_at _ no_task s x.0 x.1 h)) (changed_found (changed_named j released release_answer s))

-- so what holds of the number of each task holds of every number whose release is accepted in a log
pub released_listed : (Q : ℕ → Type 0) (s : State) → Each (λ t. Q t.number) s.tasks → (cs : List Call) (before rest : List Entry) (j : ℕ) → log answer next s cs ≡ before ++ entry (release j) accepted ∷ rest → Q j
unfolding Logged bare with_job answer next
released_listed Q s h cs before rest j e =
    let u : State = run next s (calls before) in
    accepted_listed Q (turn u.stroke) j u.tasks (run_kept next (λ x. Each (λ t. Q t.number) x.tasks) (λ c x. figures_kept (Each (λ t. Q t.number)) (each_of_map (λ t. Q t.number) bare) _ c x.tasks) (calls before) s h) (sym (log_split answer next cs s before _ e).1.0)
