-- What is on time by its bound is on time by every later one.
-- Assumes nothing.
use Prim.Native.Nat.{ℕ, ◌+◌, ◌-◌, ◌≤◌}
use mathlib.Core.Path.{◌≡◌, sym, ap, subst, ◌∙◌}
use mathlib.Core.Logic.{inl, inr, ⊎_elim}
use mathlib.Core.List.{List, [], ◌∷◌, ◌++◌, append_assoc}
use native.Mathlib.Omega.{arith}
use lib.Seq.{append_snoc}
use Rattle.timing.specs.Calls.{release, tick, Answer, accepted, Entry, entry}
use Rattle.timing.specs.OnTime.{count, to_tick, is_tick, is_run, is_finish, Ended, OnTime}
use Rattle.timing.proofs.Runs.{count_append, count_cut, tick_entry}

-- a job that has ended stays ended
pub ended_append : (e j : ℕ) (l m : List Entry) → Ended e j l → Ended e j (l ++ m)
unfolding Ended
ended_append e j l m d = ⊎_elim (λ r. inl (omega (arith, count_append (is_run j) l m))) (λ f. inr (omega (arith, count_append (is_finish j) l m))) d

module _ (w p e : ℕ → ℕ) (l : List Entry) (h : OnTime w e l) (b : (before rest : List Entry) (j : ℕ) → l ≡ before ++ entry (release j) accepted ∷ rest → (1 ≤ w j) × (w j ≤ p j)) where
  -- the job has ended by the w-th tick, at which the ticks up to the p-th are cut, so by the p-th
  cut_ends : (before xs rest us vs : List Entry) (j : ℕ) (a t : Answer) → l ≡ before ++ entry (release j) accepted ∷ (xs ++ entry tick a ∷ rest) → xs ++ entry tick a ∷ [] ≡ us ++ entry tick t ∷ vs → count is_tick us + 1 ≡ w j → Ended (e j) j (xs ++ entry tick a ∷ [])
  cut_ends before xs rest us vs j a t s cut n =
      let whole : xs ++ entry tick a ∷ rest ≡ us ++ entry tick t ∷ (vs ++ rest) = sym (append_snoc xs (entry tick a) rest) ∙ ap (λ x. x ++ rest) cut ∙ append_assoc us (entry tick t ∷ vs) rest in
      let d = h.ends j before us (vs ++ rest) t (s ∙ ap (λ x. before ++ entry (release j) accepted ∷ x) whole) (omega arith) in
      subst (Ended (e j) j) (append_snoc us (entry tick t) vs ∙ sym cut) (ended_append (e j) j (us ++ entry tick t ∷ []) vs d)

  later_ends : (j : ℕ) (before xs rest : List Entry) (a : Answer) → l ≡ before ++ entry (release j) accepted ∷ (xs ++ entry tick a ∷ rest) → count is_tick xs + 1 ≡ p j → Ended (e j) j (xs ++ entry tick a ∷ [])
  unfolding count is_tick to_tick
  later_ends j before xs rest a s n =
      let k = b before _ j s in
      let c = count_cut is_tick (w j - 1) (xs ++ entry tick a ∷ []) (omega (arith, count_append is_tick xs (entry tick a ∷ []))) in
      let t = tick_entry c.hit c.passes in
      cut_ends before xs rest c.front c.back j a t.0 s (c.whole ∙ ap (λ x. c.front ++ x ∷ c.back) t.1) (omega (arith, c.before))

  -- a log that is on time with w is on time with p, where 1 ≤ w ≤ p for every task that is released
  pub on_time_later : OnTime p e l
  on_time_later = record { ends = later_ends; never_late = h.never_late }
