-- Where no call is ever Late, a release is answered by the ticks since the last accepted one.
-- Assumes nothing.
use Prim.Native.Nat.{ℕ, ◌≤◌, ◌<◌}
use mathlib.Core.Path.{◌≡◌, refl, ap, ◌∙◌}
use mathlib.Core.List.{List, [], ◌∷◌, ◌++◌}
use native.Mathlib.Omega.{arith}
use lib.ListN.{length}
use Rattle.fit.specs.Lists.{Each}
use Rattle.fit.proofs.Lists.{each_at}
use Rattle.timing.specs.declared.Task.{Task}
use Rattle.timing.specs.Tasks.{with_job}
use Rattle.timing.specs.Calls.{Call, release, Answer, accepted, refused, release_answer, State, turn, answer, next, entry, log, run}
use Rattle.timing.specs.Form.{Form, Fresh}
use Rattle.timing.specs.OnTime.{count, refused_with, is_refused}
use Rattle.timing.specs.Serving.{nth, no_task, AgeCounts, ByHistory}
use Rattle.timing.proofs.Lists.{nth_each}
use Rattle.timing.proofs.Runs.{run_kept, log_append, count_append}
use Rattle.timing.proofs.Steps.{Release, is_early, is_late, starts, release_view, bare, bare_nth, length_next}
use Rattle.timing.proofs.Form.{form_run}
use Rattle.timing.proofs.Own.{own_answer}
use Rattle.timing.proofs.Age.{age_counts}

-- a release before the period is over is Early
early_answer : (t : Task) → t.age < t.period → release_answer t ≡ refused 18 t.number
early_answer t h = go (release_view t)
  where
    go : {a : Answer} {t' : Task} → Release t a t' → a ≡ refused 18 t.number
    go (is_early x) = refl
    go (is_late x y) = absurd (omega arith)
    go (starts x y) = absurd (omega arith)

-- one after it is accepted, where it is not Late
due_answer : (t : Task) (j : ℕ) → t.period ≤ t.age → count (is_refused 19) (entry (release j) (release_answer t) ∷ []) ≡ 0 → release_answer t ≡ accepted
unfolding count is_refused refused_with
due_answer t j h n = go (release_view t) n
  where
    go : {a : Answer} {t' : Task} → Release t a t' → count (is_refused 19) (entry (release j) a ∷ []) ≡ 0 → a ≡ accepted
    go (is_early x) k = absurd (omega arith)
    go (is_late x y) k = absurd (omega arith)
    go (starts x y) k = refl

module _ (s : State) (f : Form s.tasks) (h : Each Fresh s.tasks) (never : (cs : List Call) → count (is_refused 19) (log answer next s cs) ≡ 0) (cs : List Call) where
  -- no release is Late after the calls
  punctual : (j : ℕ) → count (is_refused 19) (entry (release j) (answer (release j) (run next s cs)) ∷ []) ≡ 0
  unfolding log
  punctual j = omega (arith, never (cs ++ release j ∷ []), ap (count (is_refused 19)) (log_append answer next cs (release j ∷ []) s), count_append (is_refused 19) (log answer next s cs) (entry (release j) (answer (release j) (run next s cs)) ∷ []))

  -- the task at a place, before and after the calls
  at_place : (i : ℕ) → i < length s.tasks → ByHistory (nth s.tasks i).period (nth s.tasks i).number (log answer next s cs) (answer (release (nth s.tasks i).number) (run next s cs))
  unfolding bare with_job answer next
  at_place i lt = rw (← number, ← period) (record {
    early = λ before xs e z m. own ∙ early_answer t (omega (arith, each_at _ no_task u.tasks i lt' (ages.since before xs t.number e z) refl));
    due = λ before xs e z m. own ∙ due_answer t t.number (omega (arith, each_at _ no_task u.tasks i lt' (ages.since before xs t.number e z) refl)) (rw own at (punctual t.number));
    first = λ z. own ∙ due_answer t t.number (omega (arith, each_at _ no_task u.tasks i lt' (ages.unreleased t.number z) refl)) (rw own at (punctual t.number));
  })
    where
      u : State
      u = run next s cs

      t : Task
      t = nth u.tasks i

      same : bare t ≡ bare (nth s.tasks i)
      same = run_kept next (λ x. bare (nth x.tasks i) ≡ bare (nth s.tasks i)) (λ c x e. bare_nth (turn x.stroke) c x.tasks i ∙ e) cs s refl

      number : t.number ≡ (nth s.tasks i).number
      number = ap (λ x. x.number) same

      period : t.period ≡ (nth s.tasks i).period
      period = ap (λ x. x.period) same

      lt' : i < length u.tasks
      lt' = run_kept next (λ x. i < length x.tasks) (λ c x k. omega (arith, length_next (turn x.stroke) c x.tasks)) cs s lt

      ages : AgeCounts (log answer next s cs) u.tasks
      ages = age_counts s f h cs

      own : answer (release t.number) u ≡ release_answer t
      own = each_at _ no_task u.tasks i lt' (own_answer (turn u.stroke) u.tasks (form_run cs s f).distinct)

  -- after every list of calls from a fresh state in form, each task's release
  pub by_history : Each (λ t. ByHistory t.period t.number (log answer next s cs) (answer (release t.number) (run next s cs))) s.tasks
  by_history = nth_each _ s.tasks at_place
