-- Lists of calls on any machine: the state after them, the parts of their log, and what a log counts.
-- Assumes nothing.
use Prim.Native.Nat.{ℕ, zero, suc, ◌+◌, ◌<◌}
use mathlib.Core.Path.{◌≡◌, refl, sym, ap, ◌∙◌, subst}
use mathlib.Core.Bool.{Bool, true, false, cond, ◌&&◌, false≢true}
use mathlib.Core.List.{List, [], ◌∷◌, ◌++◌}
use native.Mathlib.Omega.{arith}
use lib.Dec.{eqb}
use borrow.Author.Tests.{eqb-true, eq-eqb}
use Rattle.fit.specs.Lists.{Each}
use Rattle.timing.specs.Calls.{Call, release, finish, tick, Answer, accepted, served, idle, refused, Entry, entry, calls, log, run}
use Rattle.timing.specs.OnTime.{count, to_tick, to_finish, served_to, is_accepted, is_tick, is_run, is_finish}
use Rattle.timing.specs.Serving.{to_release, is_release}

-- the count over a log is that of its first entry and that of the rest
pub count_cons : (q : Entry → Bool) (x : Entry) (l : List Entry) → count q (x ∷ l) ≡ count q (x ∷ []) + count q l
unfolding count
count_cons q x l = elim (q x) as (λ b. cond b (count q l + 1) (count q l) ≡ cond b 1 0 + count q l) [ true ↦ omega arith | false ↦ omega arith ]

-- the count over two logs is the sum of their counts
pub count_append : (q : Entry → Bool) (l m : List Entry) → count q (l ++ m) ≡ count q l + count q m
unfolding count
count_append q [] m = omega arith
count_append q (x ∷ l) m = omega (arith, count_cons q x (l ++ m), count_cons q x l, count_append q l m)

-- a log in which none passes has no entry that passes
pub count_none : (q : Entry → Bool) (l : List Entry) → count q l ≡ 0 → Each (λ x. count q (x ∷ []) ≡ 0) l
unfolding Each
count_none q [] h = tt
count_none q (x ∷ l) h = (omega (arith, count_cons q x l), count_none q l (omega (arith, count_cons q x l)))

-- a log cut at an entry that passes, with n such entries before it
pub record Cut (q : Entry → Bool) (n : ℕ) (l : List Entry) : Type 0 where
  pub front : List Entry
  pub hit : Entry
  pub back : List Entry
  pub whole : l ≡ front ++ hit ∷ back
  pub passes : q hit ≡ true
  pub before : count q front ≡ n

-- a log in which more than n pass can be cut so
pub count_cut : (q : Entry → Bool) (n : ℕ) (l : List Entry) → n < count q l → Cut q n l
unfolding count
count_cut q n [] h = absurd (omega arith)
count_cut q n (x ∷ l) h = go (q x) refl n h (λ m. count_cut q m l)
  where
    go : (b : Bool) → q x ≡ b → (n : ℕ) → n < cond b (count q l + 1) (count q l) → ((m : ℕ) → m < count q l → Cut q m l) → Cut q n (x ∷ l)
    go true e zero k r = record { front = []; hit = x; back = l; whole = refl; passes = e; before = refl }
    go true e (suc n) k r =
        let c = r n (omega arith) in
        record { front = x ∷ c.front; hit = c.hit; back = c.back; whole = ap (λ t. x ∷ t) c.whole; passes = c.passes; before = rw e (omega (arith, c.before)) }
    go false e n k r =
        let c = r n k in
        record { front = x ∷ c.front; hit = c.hit; back = c.back; whole = ap (λ t. x ∷ t) c.whole; passes = c.passes; before = rw e c.before }

-- what one entry counts: an accepted release or finish of j, and a tick that is answered with j
pub release_counts : (j i : ℕ) (a : Answer) → i ≡ j → a ≡ accepted → count (is_release j) (entry (release i) a ∷ []) ≡ 1
unfolding count is_release to_release is_accepted
release_counts j i a d e = rw (e, eq-eqb i j d)

pub finish_counts : (j i : ℕ) (a : Answer) → i ≡ j → a ≡ accepted → count (is_finish j) (entry (finish i) a ∷ []) ≡ 1
unfolding count is_finish to_finish is_accepted
finish_counts j i a d e = rw (e, eq-eqb i j d)

pub run_counts : (j i : ℕ) (a : Answer) → i ≡ j → a ≡ served i → count (is_run j) (entry tick a ∷ []) ≡ 1
unfolding count is_run to_tick served_to
run_counts j i a d e = rw (e, eq-eqb i j d)

-- what each call keeps, a list of calls keeps
pub run_kept : {S : Type 0} (step : Call → S → S) (P : S → Type 0) → ((c : Call) (s : S) → P s → P (step c s)) → (cs : List Call) (s : S) → P s → P (run step s cs)
unfolding run
run_kept step P k [] s h = h
run_kept step P k (c ∷ cs) s h = run_kept step P k cs (step c s) (k c s h)

-- an entry that counts as a tick is a tick
pub tick_entry : (x : Entry) → is_tick x ≡ true → (a : Answer) × (x ≡ entry tick a)
unfolding is_tick to_tick
tick_entry (entry (release i) a) e = absurd (false≢true e)
tick_entry (entry (finish i) a) e = absurd (false≢true e)
tick_entry (entry tick a) e = (a, refl)

-- a call of some kind that names i and counts as an accepted one of j is an accepted one of j
accepted_entry : (c : ℕ → Call) (i j : ℕ) (a : Answer) → (eqb i j && is_accepted a) ≡ true → entry (c i) a ≡ entry (c j) accepted
unfolding is_accepted
accepted_entry c i j a e = go (eqb i j) refl a e
  where
    go : (b : Bool) → eqb i j ≡ b → (a : Answer) → (b && is_accepted a) ≡ true → entry (c i) a ≡ entry (c j) accepted
    go true x accepted y = ap (λ k. entry (c k) accepted) (eqb-true i j x)
    go true x (served k) y = absurd (false≢true y)
    go true x idle y = absurd (false≢true y)
    go true x (refused n k) y = absurd (false≢true y)
    go false x a y = absurd (false≢true y)

-- so one that counts as a finish of j is an accepted finish of j
pub finish_entry : (j : ℕ) (x : Entry) → is_finish j x ≡ true → x ≡ entry (finish j) accepted
unfolding is_finish to_finish
finish_entry j (entry (release i) a) e = absurd (false≢true e)
finish_entry j (entry tick a) e = absurd (false≢true e)
finish_entry j (entry (finish i) a) e = accepted_entry finish i j a e

-- and one that counts as a release of j an accepted release of j
pub release_entry : (j : ℕ) (x : Entry) → is_release j x ≡ true → x ≡ entry (release j) accepted
unfolding is_release to_release
release_entry j (entry (finish i) a) e = absurd (false≢true e)
release_entry j (entry tick a) e = absurd (false≢true e)
release_entry j (entry (release i) a) e = accepted_entry release i j a e

-- each entry of a log has the answer that its call gets at the state before it
unfoldable pub Logged : {S : Type 0} → (Call → S → Answer) → (Call → S → S) → S → List Entry → Type 0
Logged ask step s [] = Unit {0}
Logged ask step s (entry c a ∷ l) = (a ≡ ask c s) × Logged ask step (step c s) l

module _ {S : Type 0} (ask : Call → S → Answer) (step : Call → S → S) where
  -- the log of a list of calls
  pub logged : (cs : List Call) (s : S) → Logged ask step s (log ask step s cs)
  unfolding Logged log
  logged [] s = tt
  logged (c ∷ cs) s = (refl, logged cs (step c s))

  -- the parts of a log
  pub logged_append : (l m : List Entry) (s : S) → Logged ask step s (l ++ m) → Logged ask step s l × Logged ask step (run step s (calls l)) m
  unfolding Logged run calls
  logged_append [] m s h = (tt, h)
  logged_append (entry c a ∷ l) m s h =
      let r = logged_append l m (step c s) h.1 in
      ((h.0, r.0), r.1)

  -- the calls of the log of a list of calls are that list
  pub run_log : (cs : List Call) (s : S) → run step s (calls (log ask step s cs)) ≡ run step s cs
  unfolding log run calls
  run_log [] s = refl
  run_log (c ∷ cs) s = run_log cs (step c s)

  -- and a log is that of its calls
  pub log_calls : (l : List Entry) (s : S) → Logged ask step s l → log ask step s (calls l) ≡ l
  unfolding Logged log calls
  log_calls [] s h = refl
  log_calls (entry c a ∷ l) s h = rw (h.0, log_calls l (step c s) h.1)

  -- the state after two logs is the state after the second from the state after the first
  pub run_append : (l m : List Entry) (s : S) → run step s (calls (l ++ m)) ≡ run step (run step s (calls l)) (calls m)
  unfolding run calls
  run_append [] m s = refl
  run_append (entry c a ∷ l) m s = run_append l m (step c s)

  -- a log in two parts: each is the log of its calls, the second from the state after the first
  pub log_split : (cs : List Call) (s : S) (l m : List Entry) → log ask step s cs ≡ l ++ m → Logged ask step s l × Logged ask step (run step s (calls l)) m × (run step s cs ≡ run step (run step s (calls l)) (calls m))
  log_split cs s l m e =
      let h = logged_append l m s (subst (Logged ask step s) e (logged cs s)) in
      (h.0, h.1, sym (run_log cs s) ∙ ap (λ x. run step s (calls x)) e ∙ run_append l m s)

  -- where each call keeps a property and adds to its number what its entry counts, a log adds what all its entries count
  pub run_counted : (q : Entry → Bool) (Ok : Entry → Type 0) (P : ℕ → S → Type 0) → ((n : ℕ) (c : Call) (s : S) → Ok (entry c (ask c s)) → P n s → P (n + count q (entry c (ask c s) ∷ [])) (step c s)) → (n : ℕ) (l : List Entry) (s : S) → Logged ask step s l → Each Ok l → P n s → P (n + count q l) (run step s (calls l))
  unfolding Logged run calls count Each
  run_counted q Ok P k n [] s h o p = subst (λ m. P m s) (omega arith) p
  run_counted q Ok P k n (entry c a ∷ l) s h o p = subst (λ m. P m (run step (step c s) (calls l))) (omega (arith, one)) (run_counted q Ok P k (n + count q (entry c (ask c s) ∷ [])) l (step c s) h.1 o.1 (k n c s (subst (λ b. Ok (entry c b)) h.0 o.0) p))
    where
      one : count q (entry c a ∷ l) ≡ count q (entry c (ask c s) ∷ []) + count q l
      one = count_cons q (entry c a) l ∙ ap (λ b. count q (entry c b ∷ []) + count q l) h.0

  -- the log of two lists of calls
  pub log_append : (cs ds : List Call) (s : S) → log ask step s (cs ++ ds) ≡ log ask step s cs ++ log ask step (run step s cs) ds
  unfolding log run
  log_append [] ds s = refl
  log_append (c ∷ cs) ds s = ap (λ l. entry c (ask c s) ∷ l) (log_append cs ds (step c s))

  -- and the state after them
  pub run_both : (cs ds : List Call) (s : S) → run step s (cs ++ ds) ≡ run step (run step s cs) ds
  unfolding run
  run_both [] ds s = refl
  run_both (c ∷ cs) ds s = run_both cs ds (step c s)
