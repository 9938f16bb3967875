-- What the code's own steps give; no public contract speaks of it.
use Rattle.std.specs.Prelude.{ℕ, List, map}
use Rattle.timing.specs.declared.Task.{Task}
use Rattle.dispatcher.specs.Starts.{fresh_task}

-- the tasks at the listed positions, fresh, with p, e, q and number by position
unfoldable pub fresh_by : (p e q number : ℕ → ℕ) → List ℕ → List Task
fresh_by p e q number l = map (λ j. fresh_task (p j) (e j) (q j) (number j)) l
