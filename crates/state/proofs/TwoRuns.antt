-- The law of two runs from any state in form, as timing's state has it.
-- Assumes nothing.
use mathlib.Core.Path.{◌≡◌, sym, ap, ◌∙◌}
use lib.ListN.{length}
use Rattle.timing.specs.TwoRuns.{up_to, concerns, view}
use Rattle.timing.proofs.TwoRuns.{below_apart}
use Rattle.state.specs.declared.Core.{Core}
use Rattle.state.specs.State.{tasks_of, state_in, InForm}
use Rattle.state.specs.TwoRuns.{Apart}
use Rattle.state.proofs.Logs.{log_form}

pub apart : (s : Core) → length s.tasks ≡ 64 → InForm s → Apart s
apart s places f = record {
  below = λ o i.
      let see = view (concerns (up_to (tasks_of s) i)) (up_to (tasks_of s) i) in
      record { same = λ cs ds e. ap see (log_form cs s places f) ∙ (below_apart (state_in s) f.form o i).same cs ds e ∙ sym (ap see (log_form ds s places f)) };
}
