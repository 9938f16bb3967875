-- Accepted sheets whose figures by task number agree start alike: the same answer and the same state of every core.
-- Assumes nothing.
use Prim.Native.Nat.{ℕ}
use mathlib.Core.Path.{◌≡◌}
use mathlib.Core.List.{List}
use Rattle.sheet.specs.Views.{figures}
use Rattle.views.specs.Renamed.{Agree}
use Rattle.views.proofs.Renamed.{agree_renamed}
use Rattle.checker.specs.Verdict.{accepted, verdict}
use Rattle.dispatcher.specs.Starts.{fresh_tasks, sheet_answer, sheet_tasks, sheet_state}
use Rattle.dispatcher.specs.Steps.{fresh_by}
use Rattle.dispatcher.proofs.Starting.{fresh_renamed}

-- figures that agree have the same fresh tasks on each core
agree_tasks : (s t : List ℕ) → Agree (figures s) (figures t) → (k : ℕ) → sheet_tasks t k ≡ sheet_tasks s k
unfolding sheet_tasks fresh_tasks fresh_by
agree_tasks s t h k = fresh_renamed (figures s) (figures t) (λ i. i) (agree_renamed (figures s) (figures t) h) k

module _ (s t : List ℕ) (n c : ℕ) (a : verdict s ≡ accepted n c) (b : verdict t ≡ accepted n c) where
  pub agree_answer : (k : ℕ) → sheet_answer (verdict t) k ≡ sheet_answer (verdict s) k
  agree_answer k = rw (a, b)

  pub agree_state : Agree (figures s) (figures t) → (k : ℕ) → sheet_state (verdict t) t k ≡ sheet_state (verdict s) s k
  unfolding sheet_state
  agree_state h k = rw (a, b, agree_tasks s t h k)
