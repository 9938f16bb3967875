-- The demand test: what the tasks of each level may ask for in w ticks, and a blocking term, fit in w ticks.
-- Assumes nothing.
use Prim.Native.Nat.{ℕ, suc, ◌+◌, ◌*◌, ◌-◌, ◌/◌, ◌≤◌, ◌<◌}
use mathlib.Core.Path.{◌≡◌, sym, ap, ◌∙◌}
use mathlib.Core.Bool.{Bool}
use mathlib.Core.List.{List}
use native.Mathlib.Nat.{mul-le-mul_left, le-div_iff_mul-le}
use native.Mathlib.Omega.{arith}
use lib.ListN.{length, take, drop}
use Rattle.fit.specs.Lists.{Each}
use Rattle.fit.proofs.Lists.{each_of}
use Rattle.timing.specs.declared.Task.{Task}
use Rattle.timing.specs.Tasks.{with_job}
use Rattle.timing.specs.Calls.{Call, next_by}
use Rattle.timing.specs.Serving.{nth}
use Rattle.timing.proofs.Rate.{sum_of, rate}
use Rattle.timing.proofs.Lists.{sum_le, sum_map, drop_map}
use Rattle.timing.proofs.Steps.{bare, bare_next, bare_nth, length_next, take_next}
use Rattle.timing.proofs.Form.{each_of_map, figures_kept}

-- w is the bound by task number and B the blocking term by place; the level of a place is the list up to it
pub record Demand (B w : ℕ → ℕ) (s : List Task) : Type 0 where
  pub room : (k : ℕ) → k < length s → B k + sum_of (rate (w (nth s k).number)) (take (suc k) s) ≤ w (nth s k).number
  pub within : (k : ℕ) → k < length s → w (nth s k).number ≤ (nth s k).period
  -- no task below a place has a stroke of more ticks than the blocking term and one
  pub blocked : (k : ℕ) → k < length s → Each (λ t. t.stroke ≤ B k + 1) (drop (suc k) s)

-- From the load of a sheet: where k t bounds the releases of t in w = Q * M / D ticks, and the budgets of so many, with B, fit in Q * M /
-- D, the level has room.
pub room_of_load : (B Q D M : ℕ) (k : Task → ℕ) (s : List Task) → 0 < D → Each (λ t. (Q * M / D - 1) / t.period + 1 ≤ k t) s → (B + sum_of (λ t. t.budget * k t) s) * D ≤ Q * M → B + sum_of (rate (Q * M / D)) s ≤ Q * M / D
unfolding rate
room_of_load B Q D M k s hD most load = omega (arith, sum_le (rate (Q * M / D)) (λ t. t.budget * k t) s (each_of s (λ t h. mul-le-mul_left t.budget h) most), (le-div_iff_mul-le {k = D} {x = B + sum_of (λ t. t.budget * k t) s} {y = Q * M} hD).1 load)

-- a call changes the demand of no level
pub rate_next : (v : ℕ) (q : Task → Bool) (c : Call) (s : List Task) → sum_of (rate v) (next_by q c s) ≡ sum_of (rate v) s
unfolding rate bare with_job
rate_next v q c s = sym (sum_map (rate v) bare (next_by q c s)) ∙ ap (sum_of (rate v)) (bare_next q c s) ∙ sum_map (rate v) bare s

-- nor the number at a place
pub number_next : (q : Task → Bool) (c : Call) (s : List Task) (k : ℕ) → (nth (next_by q c s) k).number ≡ (nth s k).number
unfolding bare with_job
number_next q c s k = ap (λ t. t.number) (bare_nth q c s k)

-- nor the strokes of the tasks from a place on
strokes_kept : (b n : ℕ) (q : Task → Bool) (c : Call) (s : List Task) → Each (λ t. t.stroke ≤ b) (drop n s) → Each (λ t. t.stroke ≤ b) (drop n (next_by q c s))
unfolding bare with_job
strokes_kept b n q c s h = figures_kept (λ l. Each (λ t. t.stroke ≤ b) (drop n l)) (λ l. ap (Each (λ t. t.stroke ≤ b)) (drop_map bare n l) ∙ each_of_map (λ t. t.stroke ≤ b) bare (drop n l)) q c s h

-- so the demand test is passed after every call
pub demand_kept : (B w : ℕ → ℕ) (q : Task → Bool) (c : Call) (s : List Task) → Demand B w s → Demand B w (next_by q c s)
unfolding bare with_job
demand_kept B w q c s h = record {
  room = λ k lt. rw (number_next q c s k, take_next q c (suc k) s, rate_next (w (nth s k).number) q c (take (suc k) s)) (h.room k (omega (arith, length_next q c s)));
  within = λ k lt. rw (number_next q c s k) (omega (arith, h.within k (omega (arith, length_next q c s)), ap (λ t. t.period) (bare_nth q c s k)));
  blocked = λ k lt. strokes_kept (B k + 1) (suc k) q c s (h.blocked k (omega (arith, length_next q c s)));
}
