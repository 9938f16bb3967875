-- The law with p - 1 for p is false: a job of 2 ticks every 2 has margin 0, and has not ended after 1 tick.
-- Assumes nothing.
use Prim.Native.Nat.{ℕ, zero, suc, ◌-◌}
use mathlib.Core.Path.{◌≡◌, refl, subst}
use mathlib.Core.Logic.{⊎_elim}
use mathlib.Core.List.{List, [], ◌∷◌}
use native.Mathlib.Omega.{arith}
use lib.IntN.{pos}
use lib.Signed.{◌≤ℤ◌, ≤ℤ_refl}
use borrow.Author.Tests.{le-ltb}
use Rattle.jobs.specs.Jobs.{job_period, job_budget}
use Rattle.timing.specs.Calls.{Call, release, tick, served}
use Rattle.timing.specs.OnTime.{EndsBy}
use Rattle.margin.specs.Answers.{ticks, refused, margin_answer}
use Rattle.margin.specs.Exact.{NoneBelowZero, bench_log}
use Rattle.sheet.specs.Numbers as sheet-numbers
use Rattle.sheet.specs.Table as sheet-table
use Rattle.sheet.specs.Ranges as sheet-ranges
use Rattle.fit.specs.Lists as fit-lists
use Rattle.fit.specs.Rounding as fit-rounding
use Rattle.fit.specs.Priority as fit-priority
use Rattle.fit.specs.Ring as fit-ring
use Rattle.jobs.specs.Jobs as jobs-jobs
use Rattle.timing.specs.Tasks as timing-tasks
use Rattle.timing.specs.Calls as timing-calls
use Rattle.timing.specs.OnTime as timing-on-time
use Rattle.state.specs.State as core-state
use Rattle.state.specs.Operations as core-operations
use Rattle.dispatcher.specs.Starts as dispatcher-starts
use Rattle.margin.specs.Margin as margin-margin
use Rattle.margin.specs.Answers as margin-answers
use Rattle.margin.specs.Exact as margin-exact

abbrev full : List ℕ
full = 2 ∷ 0 ∷ 2 ∷ 0 ∷ []

full_zero : margin_answer full 0 ≡ ticks (pos 0)
unfolding sheet-numbers.word sheet-table.scan sheet-table.whole sheet-ranges.out_of sheet-ranges.bad_period sheet-ranges.bad_budget fit-lists.numbers fit-lists.find fit-lists.sum fit-lists.select fit-rounding.ceiling fit-priority.above jobs-jobs.job_count jobs-jobs.list_rows margin-margin.tasks_above margin-margin.request margin-margin.demand margin-margin.met margin-margin.smallest margin-margin.margin_from margin-margin.margin margin-answers.answer_from margin-answers.margin_answer
full_zero = refl

full_unlisted : (j : ℕ) → margin_answer full (suc j) ≡ refused 17 0
unfolding sheet-numbers.word sheet-table.scan sheet-table.whole sheet-ranges.out_of sheet-ranges.bad_period sheet-ranges.bad_budget fit-lists.numbers fit-lists.find jobs-jobs.job_count jobs-jobs.list_rows margin-answers.answer_from margin-answers.margin_answer
full_unlisted j = rw (le-ltb (suc j) 1 (omega arith))

full_none_below : NoneBelowZero full
unfolding margin-exact.NoneBelowZero
full_none_below zero m a =
    let z : pos 0 ≡ m = cc (a, full_zero) in
    subst (λ k. pos 0 ≤ℤ k) z (≤ℤ_refl (pos 0))
full_none_below (suc j) m a = absurd (let z : ◌≡◌ {A = ℕ} 0 1 = cc (a, full_unlisted j) in omega arith)

pub sooner_false : ((l : List ℕ) → NoneBelowZero l → (cs : List Call) (j : ℕ) → EndsBy (job_period l j - 1) (job_budget l j) j (bench_log l cs)) → ⊥
unfolding sheet-numbers.word sheet-table.scan sheet-table.whole sheet-ranges.out_of sheet-ranges.bad_period sheet-ranges.bad_budget fit-lists.numbers fit-lists.find fit-priority.above fit-priority.insert fit-priority.is_on fit-priority.enter fit-priority.order fit-ring.order_by jobs-jobs.job_count jobs-jobs.list_rows timing-tasks.pending timing-tasks.early timing-tasks.named timing-tasks.with_job timing-tasks.released timing-tasks.used timing-tasks.older timing-calls.release_answer timing-calls.of_first timing-calls.modify timing-calls.answer_by timing-calls.next_by timing-calls.next_stroke timing-calls.answer timing-calls.next timing-calls.log timing-on-time.count timing-on-time.to_tick timing-on-time.to_finish timing-on-time.served_to timing-on-time.is_accepted timing-on-time.is_tick timing-on-time.is_run timing-on-time.is_finish timing-on-time.Ended core-state.with_state core-state.distinct core-state.above core-state.each core-state.each_pair core-state.stroke_sound core-state.foreign core-operations.ask core-operations.step dispatcher-starts.fresh_tasks dispatcher-starts.state_of dispatcher-starts.list_state
sooner_false law = ⊎_elim (λ x. omega arith) (λ x. omega arith) (law full full_none_below (release 0 ∷ tick ∷ []) 0 [] [] [] (served 0) refl refl)
