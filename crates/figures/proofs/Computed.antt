-- Trials and figures of some periods, computed.
-- Assumes nothing.
use mathlib.Core.Path.{◌≡◌, refl}
use Rattle.std.specs.Prelude.{Some}
use mathlib.Core.List.{[], ◌∷◌, map}
use Rattle.fit.specs.Lists.{numbers, sum, select}
use Rattle.fit.specs.Rounding.{ceiling}
use Rattle.fit.specs.Fits.{last_factor, load, overloaded}
use Rattle.figures.specs.Constructions.{least, least_power, largest, largest_power, sr, down, downs, up, ups, dct}
use Rattle.figures.specs.Passing.{passes, first, each_pivot, at_most, in_range, trials, sorted_periods, task_set, first_passing}

-- the factors by Sr on 2 with each pivot, by Sr on 3 with each, and by DCT with each
pub trials_computed :
    map (λ a. a.factors) (trials (2 ∷ 20 ∷ 55 ∷ []))
    ≡ (1 ∷ 8 ∷ 16 ∷ []) ∷ (1 ∷ 16 ∷ 32 ∷ []) ∷ (1 ∷ 8 ∷ 32 ∷ [])
    ∷ (1 ∷ 9 ∷ 27 ∷ []) ∷ (1 ∷ 27 ∷ 27 ∷ []) ∷ (1 ∷ 27 ∷ 81 ∷ [])
    ∷ (1 ∷ 10 ∷ 20 ∷ []) ∷ (1 ∷ 10 ∷ 20 ∷ []) ∷ (1 ∷ 10 ∷ 30 ∷ [])
    ∷ []
unfolding numbers select ceiling least least_power largest largest_power sr down downs up ups dct each_pivot at_most in_range trials
trials_computed = refl

-- With a budget of 0 the skip shows: these pass by DCT with the first pivot. Sr on 3 with the second, factors 1, 59,049 and 177,147, would
-- pass before it.
pub skip_seen : first_passing (1 ∷ 20000 ∷ 60000 ∷ []) (0 ∷ 10000 ∷ 30000 ∷ []) ≡ Some (record { Q = 1; D = 1; factors = 1 ∷ 20000 ∷ 60000 ∷ [] })
unfolding numbers sum select ceiling last_factor load overloaded least least_power largest largest_power sr down downs up ups dct passes first each_pivot at_most in_range trials sorted_periods task_set first_passing
skip_seen = refl
