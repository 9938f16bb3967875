-- The on_time rule, proved once for every machine that has a few laws about its pending jobs.
-- Assumes nothing.
use Prim.Native.Nat.{ℕ, ◌+◌, ◌≤◌, ◌<◌}
use mathlib.Core.Path.{◌≡◌, refl, sym, ap, subst, subst₂}
use mathlib.Core.Logic.{◌⊎◌, inl, inr, ⊎_elim}
use mathlib.Core.List.{List, [], ◌∷◌, ◌++◌}
use native.Mathlib.Omega.{arith}
use lib.Seq.{append_snoc}
use Rattle.timing.specs.declared.Task.{Task}
use Rattle.timing.specs.Calls.{Call, release, tick, Answer, accepted, Entry, entry, log, run, calls}
use Rattle.timing.specs.OnTime.{count, to_tick, is_tick, is_run, is_finish, is_refused, Ended, OnTime}
use Rattle.timing.proofs.Lists.{zero_or_pos}
use Rattle.timing.proofs.Runs.{run_kept, Logged, logged_append, log_split, count_cons, count_append}

-- A job goes on over one entry of a log, from t to t': what it loses is answered with its number, and its age counts the tick.
pub record Goes (x : Entry) (t t' : Task) : Type 0 where
  pub number : t'.number ≡ t.number
  pub left : t.left ≤ t'.left + count (is_run t.number) (x ∷ [])
  pub age : t.age + count is_tick (x ∷ []) ≤ t'.age

-- The laws. `view s i` is the task at place i of a state, `bound s` and `budget s` are w and e by task number as they are in force at s.
pub record Machine {S : Type 0} (ask : Call → S → Answer) (step : Call → S → S) (Good : S → Type 0) (view : S → ℕ → Task) (bound budget : S → ℕ → ℕ) : Type 0 where
  -- each call keeps a good state good
  pub kept : (c : Call) (s : S) → Good s → Good (step c s)
  -- a pending job still fits before its bound
  pub timely : (s : S) (i : ℕ) → Good s → 0 < (view s i).left → (view s i).age + (view s i).left ≤ bound s (view s i).number
  -- over one call a pending job is finished, or it goes on under the same bound
  pub moves : (c : Call) (s : S) (i : ℕ) → Good s → 0 < (view s i).left → (1 ≤ count (is_finish (view s i).number) (entry c (ask c s) ∷ [])) ⊎ (Goes (entry c (ask c s)) (view s i) (view (step c s) i) × (bound (step c s) (view s i).number ≡ bound s (view s i).number))
  -- an accepted release starts a job of the whole budget under the same bound
  pub begins : (j : ℕ) (s : S) → Good s → ask (release j) s ≡ accepted → (i : ℕ) × ((view (step (release j) s) i).number ≡ j) × ((view (step (release j) s) i).left ≡ budget s j) × (bound (step (release j) s) j ≡ bound s j)

-- no call on a good state is refused as Late
abbrev pub Punctual : {S : Type 0} → (Call → S → Answer) → (S → Type 0) → Type 0
Punctual {S} ask Good = (c : Call) (s : S) → Good s → count (is_refused 19) (entry c (ask c s) ∷ []) ≡ 0

-- a job that ends over a log with what one entry more leaves of it, ends over both
ended_cons : (x : Entry) (l : List Entry) (e e' j j' : ℕ) → j' ≡ j → e ≤ e' + count (is_run j) (x ∷ []) → Ended e' j' l → Ended e j (x ∷ l)
unfolding Ended
ended_cons x l e e' j j' same h d = ⊎_elim (λ r. inl (omega (arith, count_cons (is_run j) x l))) (λ f. inr (omega (arith, count_cons (is_finish j) x l))) (subst (λ k. Ended e' k l) same d)

module _ {S : Type 0} (ask : Call → S → Answer) (step : Call → S → S) (Good : S → Type 0) (view : S → ℕ → Task) (bound budget : S → ℕ → ℕ) (M : Machine ask step Good view bound budget) where
  -- one entry more in front of a log over which the job ends
  follow_step : (c : Call) (l : List Entry) (s : S) (i : ℕ) → Good s → 0 < (view s i).left → bound s (view s i).number ≤ (view s i).age + count is_tick (entry c (ask c s) ∷ l) → (bound (step c s) (view (step c s) i).number ≤ (view (step c s) i).age + count is_tick l → Ended (view (step c s) i).left (view (step c s) i).number l) → Ended (view s i).left (view s i).number (entry c (ask c s) ∷ l)
  unfolding Ended
  follow_step c l s i g pos b ih = ⊎_elim (λ f. inr (omega (arith, count_cons (is_finish (view s i).number) (entry c (ask c s)) l))) (λ m. ended_cons (entry c (ask c s)) l _ _ _ _ m.0.number m.0.left (ih (omega (arith, m.0.age, m.1, ap (bound (step c s)) m.0.number, count_cons is_tick (entry c (ask c s)) l)))) (M.moves c s i g pos)

  -- a job has ended as soon as its age and the ticks of the log come to its bound
  follow : (l : List Entry) (s : S) (i : ℕ) → Logged ask step s l → Good s → bound s (view s i).number ≤ (view s i).age + count is_tick l → Ended (view s i).left (view s i).number l
  unfolding Logged Ended count
  follow [] s i h g b = ⊎_elim (λ z. inl (omega arith)) (λ pos. absurd (omega (arith, M.timely s i g pos))) (zero_or_pos (view s i).left)
  follow (entry c a ∷ l) s i h g b = ⊎_elim (λ z. inl (omega arith)) (λ pos. rw h.0 (follow_step c l s i g pos (rw h.0 at b) (follow l (step c s) i h.1 (M.kept c s g)))) (zero_or_pos (view s i).left)

  -- from the release on: once the ticks of the log come to the bound
  from_release : (s : S) (j : ℕ) (l : List Entry) → Good s → ask (release j) s ≡ accepted → Logged ask step (step (release j) s) l → count is_tick l ≡ bound s j → Ended (budget s j) j l
  from_release s j l g e h n =
      let b = M.begins j s g e in
      subst₂ (λ k i. Ended k i l) b.2 b.1 (follow l (step (release j) s) b.0 h (M.kept (release j) s g) (omega (arith, ap (bound (step (release j) s)) b.1)))

  -- The rule at any place of a log, with the bound and the budget in force where the job was released.
  pub ends_in_time : (cs : List Call) (s : S) → Good s → (before xs rest : List Entry) (j : ℕ) (a : Answer) → log ask step s cs ≡ before ++ entry (release j) accepted ∷ (xs ++ entry tick a ∷ rest) → count is_tick xs + 1 ≡ bound (run step s (calls before)) j → Ended (budget (run step s (calls before)) j) j (xs ++ entry tick a ∷ [])
  unfolding Logged count is_tick to_tick
  ends_in_time cs s g before xs rest j a e n =
      let s₁ = run step s (calls before) in
      let h = (log_split ask step cs s before _ e).1 in
      let l = (logged_append ask step (xs ++ entry tick a ∷ []) rest (step (release j) s₁) (rw append_snoc h.1)).0 in
      from_release s₁ j (xs ++ entry tick a ∷ []) (run_kept step Good M.kept (calls before) s g) (sym h.0) l (omega (arith, count_append is_tick xs (entry tick a ∷ [])))

  -- no call of a log is refused as Late
  pub never_late : Punctual ask Good → (cs : List Call) (s : S) → Good s → count (is_refused 19) (log ask step s cs) ≡ 0
  unfolding count log
  never_late n [] s g = refl
  never_late n (c ∷ cs) s g = omega (arith, count_cons (is_refused 19) (entry c (ask c s)) (log ask step (step c s) cs), n c s g, never_late n cs (step c s) (M.kept c s g))

-- where the bounds and budgets in force are the same at every state, the rule holds with them over every log
pub machine_on_time : {S : Type 0} (ask : Call → S → Answer) (step : Call → S → S) (Good : S → Type 0) (view : S → ℕ → Task) (w e : ℕ → ℕ) → Machine ask step Good view (λ s. w) (λ s. e) → Punctual ask Good → (cs : List Call) (s : S) → Good s → OnTime w e (log ask step s cs)
machine_on_time ask step Good view w e M n cs s g = record {
  ends = λ j before xs rest a h m. ends_in_time ask step Good view (λ s. w) (λ s. e) M cs s g before xs rest j a h (omega arith);
  never_late = never_late ask step Good view (λ s. w) (λ s. e) M n cs s g;
}
