-- One level, the first tasks of a list by priority: while it is busy, its work and the ticks since it became busy fit in its bound.
-- Assumes nothing.
use Prim.Native.Nat.{ℕ, zero, suc, ◌+◌, ◌-◌, ◌≤◌, ◌<◌}
use mathlib.Core.Path.{◌≡◌, refl, sym, ◌∙◌}
use mathlib.Core.Logic.{⊎_elim}
use mathlib.Core.Bool.{Bool, true, false≢true}
use mathlib.Core.List.{List, [], ◌∷◌, map}
use native.Mathlib.Omega.{arith}
use lib.ListN.{length, take}
use borrow.Author.Tests.{ltb-true, ltb-false}
use Rattle.fit.specs.Lists.{Each}
use Rattle.fit.proofs.Lists.{each_of, each_all}
use Rattle.timing.specs.declared.Task.{Task}
use Rattle.timing.specs.Tasks.{pending, with_job, released, finished, used, older}
use Rattle.timing.specs.Calls.{Call, release, finish, tick, release_answer, finish_answer, modify, next_by}
use Rattle.timing.specs.Serving.{nth}
use Rattle.timing.proofs.Rate.{sum_of, rate, due, due_older, due_released, due_le_rate}
use Rattle.timing.proofs.Lists.{zero_or_pos, each_map, each_level, pending_place, nth_le_sum, sum_le, sum_map}
use Rattle.timing.proofs.Steps.{released_cases, finished_cases, Changed, nowhere, here, later, changed_named, changed_tick, Pends, each_changed, sum_changed, sum_same, sum_less}
use Rattle.timing.proofs.Demand.{rate_next}

-- the ticks left of all jobs of a level
abbrev pub work : List Task → ℕ
work s = sum_of (λ t. t.left) s

-- a job that is pending is at most b ticks old
abbrev pub Young : ℕ → Task → Type 0
Young b t = 0 < t.left → t.age ≤ b

-- A level s that became busy b ticks ago. w is its bound, B a blocking term and r what is still held against it from below (both 0 where
-- every tick goes to the first pending task).
pub record Busy (w B r b : ℕ) (s : List Task) : Type 0 where
  -- the ticks since then and the work left come from releases since then, or from blocking
  pub paid : b + work s + r ≤ B + sum_of (due b) s
  -- no pending job is older
  pub young : Each (Young b) s
  -- together they fit in the bound
  pub fits : b + work s + r ≤ w

-- a level with work left has been busy for some time
unfoldable pub Level : (w B r : ℕ) (s : List Task) → Type 0
Level w B r s = 0 < work s → (b : ℕ) × Busy w B r b s

-- with nothing pending there is no work
work_idle : (s : List Task) → Each (λ t. t.left ≡ 0) s → work s ≡ 0
unfolding sum_of Each
work_idle [] h = refl
work_idle (t ∷ s) h = omega (arith, h.0, work_idle s h.1)

-- a level with no pending job is good
pub level_idle : (w B r : ℕ) (s : List Task) → Each (λ t. t.left ≡ 0) s → Level w B r s
unfolding Level
level_idle w B r s h p = absurd (omega (arith, work_idle s h))

-- so is one without work
pub level_none : (w B r : ℕ) (s : List Task) → work s ≡ 0 → Level w B r s
unfolding Level
level_none w B r s z p = absurd (omega arith)

-- the tick of the first pending task takes one from the work
pub work_used : {A : Type 0} {f : Task → A} {d a : A} {s s' : List Task} → 0 < work s → Changed pending used f d s s' a → work s' + 1 ≡ work s
unfolding sum_of pending used with_job
work_used h nowhere = absurd (omega arith)
work_used h (here {t} e) = omega (arith, ltb-true 0 t.left e)
work_used h (later {t} {s} e c) =
    let z : t.left ≤ 0 = ltb-false 0 t.left e in
    omega (arith, work_used {s = s} (omega arith) c)

-- and so does the tick of any pending task of the list
pub work_hit : {A : Type 0} {q : Task → Bool} {f : Task → A} {d a : A} {s s' : List Task} → Pends q → (i : ℕ) → i < length s → q (nth s i) ≡ true → Changed q used f d s s' a → work s' + 1 ≡ work s
unfolding sum_of used with_job
work_hit w i lt h nowhere = absurd (omega arith)
work_hit w i lt h (here {t} e) = omega (arith, w t e)
work_hit w zero lt h (later e c) = absurd (false≢true (sym e ∙ h))
work_hit w (suc i) lt h (later e c) = omega (arith, work_hit w i (omega arith) h c)

pub work_older : (s : List Task) → work (map older s) ≡ work s
unfolding older with_job
work_older s = sum_map (λ t. t.left) older s

-- the tick of a pending task of the level counts as held until it has passed
busy_used : (w B r b : ℕ) (q : Task → Bool) (s : List Task) → work (modify q used s) + 1 ≡ work s → Busy w B r b s → Busy w B (r + 1) b (modify q used s)
unfolding due used with_job
busy_used w B r b q s x h =
    let c = changed_tick q used s in
    let y = sum_same (due b) (λ t. refl) c in
    record {
      paid = omega arith;
      young = each_changed (Young b) (λ t k p. k (omega arith)) c h.young;
      fits = omega arith;
    }

-- a tick that is held against the level passes, and all ages rise
pub busy_older : (w B r b : ℕ) (s : List Task) → Busy w B (r + 1) b s → Busy w B r (b + 1) (map older s)
unfolding older with_job
busy_older w B r b s h =
    let x = work_older s in
    let y : sum_of (due b) s ≤ sum_of (due (b + 1)) (map older s) = rw sum_map (sum_le (due b) (λ t. due (b + 1) (older t)) s (each_all _ s (due_older b))) in
    record {
      paid = omega arith;
      young = each_map (Young b) (Young (b + 1)) older s (λ t k p. omega (arith, k p)) h.young;
      fits = omega arith;
    }

-- a finish and a tick add no work
work_finish : (q : Task → Bool) (j : ℕ) (s : List Task) → work (next_by q (finish j) s) ≤ work s
unfolding next_by with_job
work_finish q j s = sum_less (λ t. t.left) (λ t. finished_cases (λ u. u.left ≤ t.left) t (omega arith) (λ p. omega arith)) (changed_named j finished finish_answer s)

pub work_tick : (q : Task → Bool) (s : List Task) → work (next_by q tick s) ≤ work s
unfolding next_by used with_job
work_tick q s = rw work_older (sum_less (λ t. t.left) (λ t. omega arith) (changed_tick q used s))

-- a finish keeps a level busy as it was, with less work
busy_finish : (w B r b j : ℕ) (q : Task → Bool) (s : List Task) → Busy w B r b s → Busy w B r b (next_by q (finish j) s)
unfolding next_by due with_job
busy_finish w B r b j q s h =
    let c = changed_named j finished finish_answer s in
    let x = work_finish q j s in
    let y = sum_same (due b) (λ t. finished_cases (λ u. due b u ≡ due b t) t refl (λ p. refl)) c in
    record {
      paid = omega arith;
      young = each_changed (Young b) (λ t k. finished_cases (Young b) t k (λ p q. k p)) c h.young;
      fits = omega arith;
    }

-- a release within the window: what is due is still within the demand of the window
busy_release : (w B r b j : ℕ) (q : Task → Bool) (s : List Task) → B + sum_of (rate w) s ≤ w → Each (λ t. 0 < t.period) s → b ≤ w - 1 → Busy w B r b s → Busy w B r b (next_by q (release j) s)
unfolding next_by with_job
busy_release w B r b j q s room pos lt h =
    let c = changed_named j released release_answer s in
    let x = sum_changed (λ t. t.left) (due b) c (each_of s (λ t p. released_cases (λ u. u.left + due b t ≤ t.left + due b u) t (omega arith) (λ old z. omega (arith, due_released b t.budget t p old))) pos) in
    let y = sum_le (due b) (rate w) (next_by q (release j) s) (each_of _ (λ t p. due_le_rate w b t p lt) (each_changed (λ t. 0 < t.period) (λ t p. released_cases (λ u. 0 < u.period) t p (λ old z. p)) c pos)) in
    let z = rate_next w q (release j) s in
    record {
      paid = omega arith;
      young = each_changed (Young b) (λ t k. released_cases (Young b) t k (λ old z p. omega arith)) c h.young;
      fits = omega arith;
    }

-- a level without work: as if it became busy just now
busy_idle : (w B r : ℕ) (s : List Task) → B + sum_of (rate w) s ≤ w → r ≤ B → work s ≡ 0 → Busy w B r 0 s
unfolding sum_of Each
busy_idle w B r s room held z = record {
  paid = omega arith;
  young = go s z;
  fits = omega arith;
}
  where
    go : (l : List Task) → work l ≡ 0 → Each (Young 0) l
    go [] e = tt
    go (t ∷ l) e = ((λ p. absurd (omega arith)), go l (omega arith))

-- what is held against a level may fall
busy_less : (w B r r' b : ℕ) (s : List Task) → r' ≤ r → Busy w B r b s → Busy w B r' b s
busy_less w B r r' b s h k = record { paid = omega (arith, k.paid); young = k.young; fits = omega (arith, k.fits) }

pub level_less : (w B r r' : ℕ) (s : List Task) → r' ≤ r → Level w B r s → Level w B r' s
unfolding Level
level_less w B r r' s h k p = ((k p).0, busy_less w B r r' (k p).0 s h (k p).1)

-- a release keeps a level whose demand in w ticks fits in w ticks
pub level_release : (j w B r : ℕ) (q : Task → Bool) (s : List Task) → B + sum_of (rate w) s ≤ w → r ≤ B → Each (λ t. 0 < t.period) s → Level w B r s → Level w B r (next_by q (release j) s)
unfolding Level
level_release j w B r q s room held pos h p = ⊎_elim (λ z. (0, busy_release w B r 0 j q s room pos (omega arith) (busy_idle w B r s room held z))) (λ x. ((h x).0, busy_release w B r (h x).0 j q s room pos (omega (arith, (h x).1.fits)) (h x).1)) (zero_or_pos (work s))

-- and so does a finish
pub level_finish : (j w B r : ℕ) (q : Task → Bool) (s : List Task) → Level w B r s → Level w B r (next_by q (finish j) s)
unfolding Level
level_finish j w B r q s h p =
    let x : 0 < work s = omega (arith, work_finish q j s) in
    ((h x).0, busy_finish w B r (h x).0 j q s (h x).1)

-- a tick that goes to a task of the level
pub level_served : (w B r : ℕ) (q : Task → Bool) (s : List Task) → (0 < work s → work (modify q used s) + 1 ≡ work s) → Level w B r s → Level w B r (next_by q tick s)
unfolding Level next_by
level_served w B r q s one h p =
    let x : 0 < work s = omega (arith, work_tick q s) in
    ((h x).0 + 1, busy_older w B r (h x).0 (modify q used s) (busy_used w B r (h x).0 q s (one x) (h x).1))

-- a tick that is held against the level goes to none of its tasks
pub level_held : (w B r : ℕ) (s : List Task) → Level w B (suc r) s → Level w B r (map older s)
unfolding Level
level_held w B r s h p =
    let x : 0 < work s = omega (arith, work_older s) in
    ((h x).0 + 1, busy_older w B r (h x).0 s (busy_less w B (suc r) (r + 1) (h x).0 s (omega arith) (h x).1))

-- every call keeps a level where a tick goes to the first pending task
pub level_kept : (c : Call) (w B r : ℕ) (s : List Task) → B + sum_of (rate w) s ≤ w → r ≤ B → Each (λ t. 0 < t.period) s → Level w B r s → Level w B r (next_by pending c s)
level_kept (release j) w B r s room held pos h = level_release j w B r pending s room held pos h
level_kept (finish j) w B r s room held pos h = level_finish j w B r pending s h
level_kept tick w B r s room held pos h = level_served w B r pending s (λ x. work_used x (changed_tick pending used s)) h

busy_timely : (w B r b : ℕ) (s : List Task) (i : ℕ) → 0 < (nth s i).left → Busy w B r b (take (suc i) s) → (nth s i).age + (nth s i).left ≤ w
busy_timely w B r b s i p h =
    let lt = pending_place s i p in
    omega (arith, each_level _ s i lt h.young p, nth_le_sum (λ t. t.left) s i lt)

-- a pending job still fits before the bound of its level
pub level_timely : (w B r : ℕ) (s : List Task) (i : ℕ) → 0 < (nth s i).left → Level w B r (take (suc i) s) → (nth s i).age + (nth s i).left ≤ w
unfolding Level
level_timely w B r s i p h =
    let x = h (omega (arith, nth_le_sum (λ t. t.left) s i (pending_place s i p))) in
    busy_timely w B r x.0 s i p x.1
