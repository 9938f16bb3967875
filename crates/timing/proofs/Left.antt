-- A task's ticks left are its budget less the ticks that its job was given, and 0 once the job has ended.
-- Assumes nothing.
use Prim.Native.Nat.{ℕ, ◌+◌, ◌<◌}
use mathlib.Core.Path.{◌≡◌, refl, sym, ap, ◌∙◌}
use mathlib.Core.Logic.{inl, inr, ⊎_elim, ◌↔◌}
use mathlib.Core.Bool.{Bool, false}
use mathlib.Core.List.{List, [], ◌∷◌, ◌++◌, append_assoc}
use native.Mathlib.Nat.{add-zero}
use native.Mathlib.Omega.{arith}
use lib.Dec.{eqb}
use borrow.Author.Tests.{ne_eqb}
use Rattle.fit.specs.Lists.{Each, EachPair}
use Rattle.fit.proofs.Lists.{each_of, each_both}
use Rattle.timing.specs.declared.Task.{Task}
use Rattle.timing.specs.Tasks.{with_job, released, finished, used, older}
use Rattle.timing.specs.Calls.{Call, release, finish, tick, Answer, accepted, served, idle, release_answer, finish_answer, tick_answer, modify, answer_by, next_by, State, turn, answer, next, Entry, entry, log, run, calls}
use Rattle.timing.specs.Form.{Distinct, Form, Fresh}
use Rattle.timing.specs.OnTime.{count, to_tick, served_to, is_tick, is_run, is_finish, Ended}
use Rattle.timing.specs.Serving.{is_release, LeftCounts}
use Rattle.timing.proofs.Lists.{zero_or_pos, each_map}
use Rattle.timing.proofs.Runs.{Logged, logged, run_log, log_split, count_cons, count_append, count_none, count_cut, finish_entry, run_counts, run_counted}
use Rattle.timing.proofs.Steps.{release_started, Finish, is_quiet, ends, finish_view, finished_cases, Changed, nowhere, here, later, changed_named, changed_tick, Pends, turn_pends, each_changed}
use Rattle.timing.proofs.Form.{form_kept, form_run}
use Rattle.timing.proofs.Own.{Own, each_own, release_other, finish_other}

-- a task has what its job has still to get after n ticks
abbrev pub Left : ℕ → Task → Type 0
Left n t = t.left + n ≡ t.budget

-- a task has nothing left
abbrev pub Done : Task → Type 0
Done t = t.left ≡ 0

-- a tick that goes to a task of another number does not count
run_not : (j i : ℕ) → (i ≡ j → ⊥) → count (is_run j) (entry tick (served i) ∷ []) ≡ 0
unfolding count is_run to_tick served_to
run_not j i h = let e : eqb i j ≡ false = ne_eqb _ _ h in rw e

run_other : {q : Task → Bool} (j : ℕ) {s s' : List Task} {a : Answer} → Changed q used tick_answer idle s s' a → Each (λ u. u.number ≡ j → ⊥) s → count (is_run j) (entry tick a ∷ []) ≡ 0
unfolding Each count is_run to_tick served_to
run_other j nowhere h = refl
run_other j (here {t} p) h = run_not j t.number h.0
run_other j (later p c) h = run_other j c h.1

-- a tick takes one from the task whose number it is answered with
left_used : {q : Task → Bool} → Pends q → (j n : ℕ) {s s' : List Task} {a : Answer} → Changed q used tick_answer idle s s' a → EachPair Distinct s → Each (Own j (Left n)) s → Each (Own j (Left (n + count (is_run j) (entry tick a ∷ [])))) s'
unfolding Each EachPair Distinct used with_job
left_used w j n nowhere d h = tt
left_used w j n (here {t} {s} p) d h = ((λ e. omega (arith, run_counts j t.number _ e refl, h.0 e, w t p)), each_both s (λ u y k e. omega (arith, k e, run_not j t.number (λ i. y (i ∙ sym e)))) d.0 h.1)
left_used w j n (later {t} {s} p c) d h = ((λ e. omega (arith, h.0 e, run_other j c (each_of s (λ u y i. y (e ∙ sym i)) d.0))), left_used w j n c d.1 h.1)

-- a state in form in which the task numbered j has what its job has still to get after n ticks
pub record Owing (j n : ℕ) (s : List Task) : Type 0 where
  pub form : Form s
  pub left : Each (Own j (Left n)) s

left_next : {q : Task → Bool} → Pends q → (j n : ℕ) (c : Call) (s : List Task) → (count (is_release j) (entry c (answer_by q c s) ∷ []) ≡ 0) × (count (is_finish j) (entry c (answer_by q c s) ∷ []) ≡ 0) → Owing j n s → Each (Own j (Left (n + count (is_run j) (entry c (answer_by q c s) ∷ [])))) (next_by q c s)
unfolding next_by answer_by count is_run to_tick older with_job
left_next {q} w j n (release i) s z h = rw (add-zero n) (release_other j (Left n) q i s z.0 h.left)
left_next {q} w j n (finish i) s z h = rw (add-zero n) (finish_other j (Left n) q i s z.1 h.left)
left_next {q} w j n tick s z h = each_map _ _ older (modify q used s) (λ t k. k) (left_used w j n (changed_tick q used s) h.form.distinct h.left)

-- one call with no accepted release or finish of j
pub owing_next : (j n : ℕ) (c : Call) (s : State) → (count (is_release j) (entry c (answer c s) ∷ []) ≡ 0) × (count (is_finish j) (entry c (answer c s) ∷ []) ≡ 0) → Owing j n s.tasks → Owing j (n + count (is_run j) (entry c (answer c s) ∷ [])) (next c s).tasks
unfolding next answer
owing_next j n c s o w = record { form = form_kept (turn s.stroke) c s.tasks w.form; left = left_next (turn_pends s.stroke) j n c s.tasks o w }

-- over a log with no accepted release or finish of j its job gets the ticks that are answered with j
pub left_run : (j : ℕ) (l : List Entry) (s : State) → Logged answer next s l → count (is_release j) l ≡ 0 → count (is_finish j) l ≡ 0 → Owing j 0 s.tasks → Owing j (0 + count (is_run j) l) (run next s (calls l)).tasks
left_run j l s h y z k = run_counted answer next (is_run j) (λ x. (count (is_release j) (x ∷ []) ≡ 0) × (count (is_finish j) (x ∷ []) ≡ 0)) (λ n x. Owing j n x.tasks) (owing_next j) 0 l s h (each_both l (λ x a b. (a, b)) (count_none (is_release j) l y) (count_none (is_finish j) l z)) k

done_next : (q : Task → Bool) (j : ℕ) (c : Call) (s : List Task) → count (is_release j) (entry c (answer_by q c s) ∷ []) ≡ 0 → Each (Own j Done) s → Each (Own j Done) (next_by q c s)
unfolding next_by answer_by used older with_job
done_next q j (release i) s z h = release_other j Done q i s z h
done_next q j (finish i) s z h = each_changed (Own j Done) (λ t k. finished_cases (Own j Done) t k (λ p e. refl)) (changed_named i finished finish_answer s) h
done_next q j tick s z h = each_map _ _ older (modify q used s) (λ t k. k) (each_changed (Own j Done) (λ t k e. omega (arith, k e)) (changed_tick q used s) h)

-- over a log with no accepted release of j its task, if it has nothing left, gets nothing
pub done_run : (j : ℕ) (l : List Entry) (s : State) → Logged answer next s l → count (is_release j) l ≡ 0 → Each (Own j Done) s.tasks → Each (Own j Done) (run next s (calls l)).tasks
unfolding answer next
done_run j l s h z k = run_counted answer next is_tick (λ x. count (is_release j) (x ∷ []) ≡ 0) (λ n x. Each (Own j Done) x.tasks) (λ n c x. done_next (turn x.stroke) j c x.tasks) 0 l s h (count_none (is_release j) l z) k

-- a finish leaves nothing
pub finish_done : (t : Task) → Done (finished t)
unfolding with_job
finish_done t = go (finish_view t)
  where
    go : {a : Answer} {t' : Task} → Finish t a t' → Done t'
    go (is_quiet x) = x
    go (ends x) = refl

-- the ticks left after every list of calls from a fresh state in form
pub left_counts : (s : State) → Form s.tasks → Each Fresh s.tasks → (cs : List Call) → LeftCounts (log answer next s cs) (run next s cs).tasks
unfolding Logged run calls next answer next_by answer_by with_job
left_counts s f h cs = record {
  since = λ before xs j e y z.
      let r = log_split answer next cs s before _ e in
      let s₁ = run next s (calls before) in
      let g = form_run (calls before) s f in
      let x = each_own j (Left 0) (changed_named j released release_answer s₁.tasks) g.distinct (λ t a. rw (release_started t (sym a ∙ sym r.1.0)) (omega arith)) in
      rw r.2 (each_of _ (λ t k n. omega (arith, k n)) (left_run j xs (next (release j) s₁) r.1.1 y z (record { form = form_kept (turn s₁.stroke) (release j) s₁.tasks g; left = x })).left);
  ended = λ before xs j e y.
      let r = log_split answer next cs s before _ e in
      let s₁ = run next s (calls before) in
      let x = each_own j Done (changed_named j finished finish_answer s₁.tasks) (form_run (calls before) s f).distinct (λ t a. finish_done t) in
      rw r.2 (done_run j xs (next (finish j) s₁) r.1.1 y x);
  unreleased = λ j y.
      rw (← (run_log answer next cs s)) (done_run j (log answer next s cs) s (logged answer next cs s) y (each_of s.tasks (λ t k n. k.left) h));
}

-- after the last accepted release of j its task has nothing left exactly when the job has ended
pub pending_ended : (s : State) → Form s.tasks → Each Fresh s.tasks → (cs : List Call) (before xs : List Entry) (j : ℕ) → log answer next s cs ≡ before ++ entry (release j) accepted ∷ xs → count (is_release j) xs ≡ 0 → Each (λ t. t.number ≡ j → (t.left ≡ 0) ↔ Ended t.budget j xs) (run next s cs).tasks
unfolding Ended
pending_ended s f h cs before xs j e y = ⊎_elim unfinished over (zero_or_pos (count (is_finish j) xs))
  where
    l : LeftCounts (log answer next s cs) (run next s cs).tasks
    l = left_counts s f h cs

    unfinished : count (is_finish j) xs ≡ 0 → Each (λ t. t.number ≡ j → (t.left ≡ 0) ↔ Ended t.budget j xs) (run next s cs).tasks
    unfinished z = each_of _ (λ t k n. ((λ d. inl (omega (arith, k n))), ⊎_elim (λ d. omega (arith, k n)) (λ d. absurd (omega arith)))) (l.since before xs j e y z)

    over : 0 < count (is_finish j) xs → Each (λ t. t.number ≡ j → (t.left ≡ 0) ↔ Ended t.budget j xs) (run next s cs).tasks
    over z =
        let c = count_cut (is_finish j) 0 xs z in
        let w : xs ≡ c.front ++ entry (finish j) accepted ∷ c.back = c.whole ∙ ap (λ x. c.front ++ x ∷ c.back) (finish_entry j c.hit c.passes) in
        let m : count (is_release j) c.back ≡ 0 = omega (arith, ap (count (is_release j)) w, count_append (is_release j) c.front (entry (finish j) accepted ∷ c.back), count_cons (is_release j) (entry (finish j) accepted) c.back) in
        each_of _ (λ t k n. ((λ d. inr (omega arith)), (λ d. k n))) (l.ended (before ++ entry (release j) accepted ∷ c.front) c.back j (e ∙ ap (λ x. before ++ entry (release j) accepted ∷ x) w ∙ sym (append_assoc before (entry (release j) accepted ∷ c.front) _)) m)
