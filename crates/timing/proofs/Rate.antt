-- The demand of one task, as plain arithmetic: what it may ask for in a window of w ticks, and what it may have asked for since a level
-- became busy. Assumes nothing.
use Prim.Native.Nat.{ℕ, zero, suc, ◌+◌, ◌*◌, ◌-◌, ◌/◌, ◌≤◌, ◌<◌}
use mathlib.Core.Path.{◌≡◌, ap}
use mathlib.Core.List.{List, [], ◌∷◌}
use native.Mathlib.Nat.{div-zero, div-mul-le_self, le-div_iff_mul-le, div-lt_iff_lt-mul, add-div_right, mul-le-mul_left, mul-le-mul_right, le_of_mul-le-mul_right}
use native.Mathlib.Omega.{arith}
use Rattle.timing.specs.declared.Task.{Task}
use Rattle.timing.specs.Tasks.{with_job, older}

-- the sum of a figure over a list of tasks
unfoldable pub sum_of : (Task → ℕ) → List Task → ℕ
sum_of f [] = 0
sum_of f (t ∷ s) = f t + sum_of f s

-- the demand of a task in w ticks: its budget for each release that they can hold
unfoldable pub rate : ℕ → Task → ℕ
rate w t = t.budget * ((w - 1) / t.period + 1)

-- the most that a task of this age can have been given by its releases of the last b ticks: the latest is as old as its age, each one
-- before it a period older
unfoldable pub due : ℕ → Task → ℕ
due b t = t.budget * ((b + (t.period - t.age)) / t.period)

-- From the figures of a sheet: where the accelerated period Q * Mj / D is at most p, a window of Q * Mi / D ticks holds at most Mi / Mj
-- releases.
pub rate_le : (Q D Mi Mj p k : ℕ) → 0 < D → 0 < p → Q * Mj ≤ p * D → Mi ≡ Mj * k → 1 ≤ Q * Mi / D → (Q * Mi / D - 1) / p + 1 ≤ k
rate_le Q D Mi Mj p k hD hp h e h1 =
    let whole : Q * Mi / D * D ≤ k * p * D = omega (arith, div-mul-le_self (Q * Mi) D, ap (λ (m : ℕ). Q * m) e, mul-le-mul_right k h) in
    let most : Q * Mi / D ≤ k * p = le_of_mul-le-mul_right whole hD in
    omega (arith, (div-lt_iff_lt-mul {k = p} {x = Q * Mi / D - 1} {y = k} hp).1 (omega arith))

-- division keeps the order
div_mono : (p x y : ℕ) → x ≤ y → x / p ≤ y / p
div_mono zero x y h = omega (arith, div-zero x)
div_mono (suc p) x y h = (le-div_iff_mul-le {k = suc p} (omega arith)).1 (omega (arith, div-mul-le_self x (suc p)))

-- one tick more and one tick older: no less is due
pub due_older : (b : ℕ) (t : Task) → due b t ≤ due (b + 1) (older t)
unfolding due older with_job
due_older b t = mul-le-mul_left t.budget (div_mono t.period _ _ (omega arith))

-- a release that is not early: one budget more is due
pub due_released : (b l : ℕ) (t : Task) → 0 < t.period → t.period ≤ t.age → due b (with_job t 0 l) ≡ due b t + t.budget
unfolding due with_job
due_released b l t h old =
    let now : b + (t.period - 0) ≡ b + t.period = omega arith in
    let then : b + (t.period - t.age) ≡ b = omega arith in
    rw (now, then, add-div_right b {k = t.period} h) (omega arith)

-- within the window no more is due than the demand
pub due_le_rate : (w b : ℕ) (t : Task) → 0 < t.period → b ≤ w - 1 → due b t ≤ rate w t
unfolding due rate
due_le_rate w b t h hb = mul-le-mul_left t.budget (omega (arith, div_mono t.period (b + (t.period - t.age)) (w - 1 + t.period) (omega arith), add-div_right (w - 1) {k = t.period} h))
