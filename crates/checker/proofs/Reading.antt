-- What the code reads of a record that it has cut out of the sheet.
-- Assumes nothing.
use Prim.Native.Nat.{ℕ, ◌+◌, ◌-◌, ◌*◌, ◌≤◌, ◌<◌}
use mathlib.Core.Path.{◌≡◌, ap, ◌∙◌}
use mathlib.Core.Bool.{Bool, false, not, ◌||◌, or-true}
use mathlib.Core.List.{List}
use native.Mathlib.Omega.{arith}
use borrow.Author.Tests.{le-leb, lt-leb}
use lib.ListN.{take, drop}
use Rattle.sheet.specs.Ranges.{out_of, bad_period, bad_budget, bad_stroke}
use Rattle.sheet.specs.Records.{period_at, budget_at, factor_at, pivot_at, divisor_at, figures_with}
use Rattle.sheet.specs.Views.{stroke_of_position}
use Rattle.sheet.proofs.Parts.{period_part, budget_part, stroke_part, factor_part, pivot_part, divisor_part}
use Rattle.fit.specs.Lists.{at}
use Rattle.fit.specs.Fits.{stretched}
use Rattle.checker.specs.Tests.{bad_core, bad_factor, stretched_at}
use Rattle.checker.specs.Steps.{sound_at}

-- the record of task t, which begins at byte a
module _ (tasks : List ℕ) (t a : ℕ) (e : a ≡ 10 * t) where
  whole : a + 10 - a ≡ 10
  whole = omega arith

  pub period_read : period_at (take (a + 10 - a) (drop a tasks)) 0 ≡ period_at tasks t
  period_read = rw (whole, e) (period_part tasks t 10 (omega arith))

  pub budget_read : budget_at (take (a + 10 - a) (drop a tasks)) 0 ≡ budget_at tasks t
  budget_read = rw (whole, e) (budget_part tasks t 10 (omega arith))

  pub stroke_read : (stroked : Bool) → stroke_of_position stroked (take (a + 10 - a) (drop a tasks)) 0 ≡ stroke_of_position stroked tasks t
  stroke_read stroked = rw (whole, e) (stroke_part tasks t 10 stroked (omega arith))

  pub factor_read : factor_at (take (a + 10 - a) (drop a tasks)) 0 ≡ factor_at tasks t
  factor_read = rw (whole, e) (factor_part tasks t 10 (omega arith))

-- the same where the records are held under another name
module _ (held tasks : List ℕ) (t a x : ℕ) (h : held ≡ tasks) (e : a ≡ 10 * t) where
  pub factor_held : x ≡ factor_at (take (a + 10 - a) (drop a held)) 0 → x ≡ factor_at tasks t
  factor_held r = r ∙ rw h (factor_read tasks t a e)

  pub budget_held : x ≡ budget_at (take (a + 10 - a) (drop a held)) 0 → x ≡ budget_at tasks t
  budget_held r = r ∙ rw h (budget_read tasks t a e)

  pub stroke_held : (stroked : Bool) → x ≡ stroke_of_position stroked (take (a + 10 - a) (drop a held)) 0 → x ≡ stroke_of_position stroked tasks t
  stroke_held stroked r = r ∙ rw h (stroke_read tasks t a e stroked)

-- the record of core k
module _ (cores : List ℕ) (k a : ℕ) (e : a ≡ 8 * k) where
  core_whole : a + 8 - a ≡ 8
  core_whole = omega arith

  pivot_read : pivot_at (take (a + 8 - a) (drop a cores)) 0 ≡ pivot_at cores k
  pivot_read = rw (core_whole, e) (pivot_part cores k 8 (omega arith))

  divisor_read : divisor_at (take (a + 8 - a) (drop a cores)) 0 ≡ divisor_at cores k
  divisor_read = rw (core_whole, e) (divisor_part cores k 8 (omega arith))

-- whether a task keeps its rules: on a core that is there, by the tests of its record and its core's, cut out
module _ (stroked : Bool) (tasks cores on : List ℕ) (n c i k : ℕ) (ek : k ≡ at on i) where
  pub sound_none : c ≤ k → false ≡ sound_at (figures_with (at on) (stroke_of_position stroked tasks) n c tasks cores) i
  unfolding sound_at bad_core
  sound_none h = rw (← ek, le-leb c k h, or-true)

  module _ (a b : ℕ) (period budget stroke factor stretch : Bool) where
    abbrev task : List ℕ
    task = take (a + 10 - a) (drop a tasks)

    abbrev core : List ℕ
    core = take (b + 8 - b) (drop b cores)

    pub sound_read : k < c → a ≡ 10 * i → b ≡ 8 * k → budget ≡ out_of (period_at task 0) (budget_at task 0) → stroke ≡ out_of (budget_at task 0) (stroke_of_position stroked task 0) → period ≡ out_of 60000 (period_at task 0) → factor ≡ out_of 120000 (factor_at task 0) → stretch ≡ stretched (pivot_at core 0) (divisor_at core 0) (period_at task 0) (factor_at task 0) → not ((period || (budget || stroke)) || factor || stretch) ≡ sound_at (figures_with (at on) (stroke_of_position stroked tasks) n c tasks cores) i
    unfolding sound_at bad_core bad_period bad_budget bad_stroke bad_factor stretched_at
    sound_read h ea eb e2 e3 e1 e4 e5 =
        let P : period_at task 0 ≡ period_at tasks i = period_read tasks i a ea in
        let E : budget_at task 0 ≡ budget_at tasks i = budget_read tasks i a ea in
        let M : factor_at task 0 ≡ factor_at tasks i = factor_read tasks i a ea in
        let x1 : period ≡ out_of 60000 (period_at tasks i) = e1 ∙ ap (out_of 60000) P in
        let x2 : budget ≡ out_of (period_at tasks i) (budget_at tasks i) = e2 ∙ rw (P, E) in
        let x3 : stroke ≡ out_of (budget_at tasks i) (stroke_of_position stroked tasks i) = e3 ∙ rw (E, stroke_read tasks i a ea stroked) in
        let x4 : factor ≡ out_of 120000 (factor_at tasks i) = e4 ∙ ap (out_of 120000) M in
        let x5 : stretch ≡ stretched (pivot_at cores k) (divisor_at cores k) (period_at tasks i) (factor_at tasks i) = e5 ∙ rw (P, M, pivot_read cores k b eb, divisor_read cores k b eb) in
        rw (← ek, lt-leb c k h, ← x1, ← x2, ← x3, ← x4, ← x5)
