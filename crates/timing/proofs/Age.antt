-- A task's age counts the ticks since its last accepted release, up to its period.
-- Assumes nothing.
use Prim.Native.Nat.{ℕ, ◌+◌, min}
use mathlib.Core.Path.{◌≡◌, sym, ◌∙◌}
use mathlib.Core.Bool.{Bool}
use mathlib.Core.List.{List, [], ◌∷◌}
use native.Mathlib.Nat.{add-zero}
use native.Mathlib.Omega.{arith}
use Rattle.fit.specs.Lists.{Each}
use Rattle.fit.proofs.Lists.{each_of}
use Rattle.timing.specs.declared.Task.{Task}
use Rattle.timing.specs.Tasks.{with_job, released, finished, used, older}
use Rattle.timing.specs.Calls.{Call, release, finish, tick, release_answer, finish_answer, modify, answer_by, next_by, State, turn, answer, next, Entry, entry, log, run, calls}
use Rattle.timing.specs.Form.{Form, Fresh}
use Rattle.timing.specs.OnTime.{count, to_tick, is_tick}
use Rattle.timing.specs.Serving.{is_release, AgeCounts}
use Rattle.timing.proofs.Lists.{each_map}
use Rattle.timing.proofs.Runs.{Logged, logged, run_log, log_split, count_none, run_counted}
use Rattle.timing.proofs.Steps.{release_started, finished_cases, changed_named, changed_tick, each_changed}
use Rattle.timing.proofs.Form.{form_run}
use Rattle.timing.proofs.Own.{Own, each_own, release_other}

-- a task has the age that it had n ticks ago, then f of its period, and those ticks
abbrev Aged : (ℕ → ℕ) → ℕ → Task → Type 0
Aged f n t = t.age ≡ min (f t.period + n) t.period

aged_by : (q : Task → Bool) (j : ℕ) (f : ℕ → ℕ) (n : ℕ) (c : Call) (s : List Task) → count (is_release j) (entry c (answer_by q c s) ∷ []) ≡ 0 → Each (Own j (Aged f n)) s → Each (Own j (Aged f (n + count is_tick (entry c (answer_by q c s) ∷ [])))) (next_by q c s)
unfolding next_by answer_by count is_tick to_tick used older with_job
aged_by q j f n (release i) s z h = rw (add-zero n) (release_other j (Aged f n) q i s z h)
aged_by q j f n (finish i) s z h = rw (add-zero n) (each_changed (Own j (Aged f n)) (λ t k. finished_cases (Own j (Aged f n)) t k (λ p. k)) (changed_named i finished finish_answer s) h)
aged_by q j f n tick s z h = each_map (Own j (Aged f n)) (Own j (Aged f (n + 1))) older (modify q used s) (λ t k e. omega (arith, k e)) (each_changed (Own j (Aged f n)) (λ t k. k) (changed_tick q used s) h)

-- over a log with no accepted release of j its task ages by the log's ticks
aged_run : (j : ℕ) (f : ℕ → ℕ) (l : List Entry) (s : State) → Logged answer next s l → count (is_release j) l ≡ 0 → Each (Own j (Aged f 0)) s.tasks → Each (Own j (Aged f (0 + count is_tick l))) (run next s (calls l)).tasks
unfolding answer next
aged_run j f l s h z k = run_counted answer next is_tick (λ x. count (is_release j) (x ∷ []) ≡ 0) (λ n x. Each (Own j (Aged f n)) x.tasks) (λ n c x. aged_by (turn x.stroke) j f n c x.tasks) 0 l s h (count_none (is_release j) l z) k

-- the ages after every list of calls from a fresh state in form
pub age_counts : (s : State) → Form s.tasks → Each Fresh s.tasks → (cs : List Call) → AgeCounts (log answer next s cs) (run next s cs).tasks
unfolding Logged run calls next answer next_by answer_by with_job
age_counts s f h cs = record {
  since = λ before xs j e z.
      let r = log_split answer next cs s before _ e in
      let s₁ = run next s (calls before) in
      let x = each_own j (Aged (λ p. 0) 0) (changed_named j released release_answer s₁.tasks) (form_run (calls before) s f).distinct (λ t a. rw (release_started t (sym a ∙ sym r.1.0)) (omega arith)) in
      rw r.2 (each_of _ (λ t k n. omega (arith, k n)) (aged_run j (λ p. 0) xs (next (release j) s₁) r.1.1 z x));
  unreleased = λ j z.
      let x = aged_run j (λ p. p) (log answer next s cs) s (logged answer next cs s) z (each_of s.tasks (λ t k n. omega (arith, k.age)) h) in
      rw (← (run_log answer next cs s)) (each_of _ (λ t k n. omega (arith, k n)) x);
}
