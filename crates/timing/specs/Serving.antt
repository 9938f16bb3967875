-- Ticks, ages and ticks left over whole states and logs (docs/SHEET.md, section 6): the tick goes to the first pending task by priority,
-- the age of a task counts the ticks since its last accepted release, and its ticks left those that its job has still to get.
use Rattle.std.specs.Prelude.{ℕ, ◌+◌, ◌≤◌, ◌<◌, min, ◌≡◌, ◌⊎◌, Bool, false, ◌&&◌, List, ◌∷◌, ◌++◌, eqb, length, get_or}
use Rattle.fit.specs.Lists.{Each}
use Rattle.timing.specs.declared.Task.{Task}
use Rattle.timing.specs.Calls.{Call, release, finish, tick, Answer, accepted, refused, Entry, entry}
use Rattle.timing.specs.Form.{Above}
use Rattle.timing.specs.OnTime.{count, is_tick, is_run, is_finish, is_accepted}

-- what stands at a place without a task: zeros
abbrev pub no_task : Task
no_task = record { period = 0; budget = 0; age = 0; left = 0; number = 0; stroke = 0 }

-- the task at place i, from 0 in priority order
abbrev pub nth : List Task → ℕ → Task
nth s i = get_or s i no_task

-- the task at place i is pending, and has priority over every other pending task
pub record Foremost (s : List Task) (i : ℕ) : Type 0 where
  pub place : i < length s
  pub waits : 0 < (nth s i).left
  pub others : Each (λ u. 0 < u.left → (u ≡ nth s i) ⊎ Above (nth s i) u) s

-- a call that releases j
unfoldable pub to_release : ℕ → Call → Bool
to_release j (release i) = eqb i j
to_release j (finish i) = false
to_release j tick = false

-- a release of j that was accepted
unfoldable pub is_release : ℕ → Entry → Bool
is_release j (entry c a) = to_release j c && is_accepted a

-- the ages of a state s after a log l that began with a fresh state
pub record AgeCounts (l : List Entry) (s : List Task) : Type 0 where
  -- after the last accepted release of j: the ticks since then, up to the period
  pub since : (before xs : List Entry) (j : ℕ) → l ≡ before ++ entry (release j) accepted ∷ xs → count (is_release j) xs ≡ 0 → Each (λ t. t.number ≡ j → t.age ≡ min (count is_tick xs) t.period) s
  -- with no accepted release of j: the period
  pub unreleased : (j : ℕ) → count (is_release j) l ≡ 0 → Each (λ t. t.number ≡ j → t.age ≡ t.period) s

-- the ticks left in a state s after a log l that began with a fresh state
pub record LeftCounts (l : List Entry) (s : List Task) : Type 0 where
  -- after the last accepted release of j, with no accepted finish of j since: with the ticks answered with j since then they make the
  -- budget
  pub since : (before xs : List Entry) (j : ℕ) → l ≡ before ++ entry (release j) accepted ∷ xs → count (is_release j) xs ≡ 0 → count (is_finish j) xs ≡ 0 → Each (λ t. t.number ≡ j → t.left + count (is_run j) xs ≡ t.budget) s
  -- after an accepted finish of j, with no accepted release of j since: 0
  pub ended : (before xs : List Entry) (j : ℕ) → l ≡ before ++ entry (finish j) accepted ∷ xs → count (is_release j) xs ≡ 0 → Each (λ t. t.number ≡ j → t.left ≡ 0) s
  -- with no accepted release of j: 0
  pub unreleased : (j : ℕ) → count (is_release j) l ≡ 0 → Each (λ t. t.number ≡ j → t.left ≡ 0) s

-- an answer a to a release of task j with period p after a log l, by the ticks since the last accepted release alone
pub record ByHistory (p j : ℕ) (l : List Entry) (a : Answer) : Type 0 where
  -- fewer than p of them: 18 Early
  pub early : (before xs : List Entry) → l ≡ before ++ entry (release j) accepted ∷ xs → count (is_release j) xs ≡ 0 → count is_tick xs < p → a ≡ refused 18 j
  -- p or more: accepted
  pub due : (before xs : List Entry) → l ≡ before ++ entry (release j) accepted ∷ xs → count (is_release j) xs ≡ 0 → p ≤ count is_tick xs → a ≡ accepted
  -- and so the first release
  pub first : count (is_release j) l ≡ 0 → a ≡ accepted
