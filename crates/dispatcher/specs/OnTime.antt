-- The on_time rule (docs/SHEET.md, sections 7 and 14) for a core that is started from a sheet.
use Rattle.std.specs.Prelude.{ℕ, ◌≤◌, ◌≡◌, List}
use Rattle.sheet.specs.Views.{figures}
use Rattle.fit.specs.Lists.{Each}
use Rattle.fit.specs.Cores.{order_on, within_on}
use Rattle.timing.specs.Calls.{Call, Entry, accepted, log}
use Rattle.timing.specs.OnTime.{count, is_refused, OnTime}
use Rattle.timing.specs.Strokes.{Unbroken, GoesOn, FreeAgain}
use Rattle.state.specs.declared.Core.{Core}
use Rattle.state.specs.declared.Step.{Step}
use Rattle.state.specs.Operations.{answer_of, ask, step}

-- What holds of a log l of core k of sheet s: the on_time rule with w and e of the sheet, so also with p and e, no stroke is broken, each
-- goes on while its job is pending, between strokes a tick goes by priority, and no call is refused as Foreign (21). Beside it, e ≤ w ≤ p
-- for every task of the core.
pub record KeptOn (s : List ℕ) (k : ℕ) (l : List Entry) : Type 0 where
  pub rule : OnTime (within_on (figures s) k) (figures s).budget l
  pub by_period : OnTime (figures s).period (figures s).budget l
  pub unbroken : Unbroken (figures s).stroke l
  pub goes_on : GoesOn (figures s).budget (figures s).stroke l
  pub free_again : FreeAgain (figures s).period (figures s).budget (figures s).stroke l
  pub never_foreign : count (is_refused 21) l ≡ 0
  pub bounds : Each (λ i. ((figures s).budget i ≤ within_on (figures s) k i) × (within_on (figures s) k i ≤ (figures s).period i)) (order_on (figures s) k)

-- The same of the log of calls cs from state `start`.
abbrev pub Kept : (s : List ℕ) (k : ℕ) (start : Core) (cs : List Call) → Type 0
Kept s k start cs = KeptOn s k (log ask step start cs)

-- The promise of a start from sheet s and core k with result r: if it is accepted, all this holds for every list of calls.
pub record Timely (s : List ℕ) (k : ℕ) (r : Step) : Type 0 where
  pub on_time : answer_of r.answer ≡ accepted → (cs : List Call) → Kept s k r.core cs
