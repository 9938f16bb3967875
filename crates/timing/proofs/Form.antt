-- Every call, accepted or refused, keeps the state's own form.
-- Assumes nothing.
use Prim.Native.Nat.{ℕ}
use mathlib.Core.Path.{◌≡◌, refl, sym, ap, ◌∙◌, subst}
use mathlib.Core.Bool.{Bool}
use mathlib.Core.List.{List, [], ◌∷◌, map}
use native.Mathlib.Omega.{arith}
use lib.ListN.{take, length-take}
use Rattle.fit.specs.Lists.{Each, EachPair}
use Rattle.fit.proofs.Lists.{each_take, pairs_take}
use Rattle.timing.specs.declared.Task.{Task}
use Rattle.timing.specs.Tasks.{with_job, released, finished, used, older}
use Rattle.timing.specs.Calls.{Call, release, finish, tick, release_answer, finish_answer, modify, next_by, State, next, run}
use Rattle.timing.specs.Form.{Sound, Distinct, Above, Form}
use Rattle.timing.proofs.Lists.{each_map}
use Rattle.timing.proofs.Runs.{run_kept}
use Rattle.timing.proofs.Steps.{released_cases, finished_cases, changed_named, changed_tick, each_changed, bare, bare_next, length_next}

-- a property of each changed task is the property, at the change, of each task
pub each_of_map : (P : Task → Type 0) (g : Task → Task) (s : List Task) → Each P (map g s) ≡ Each (λ t. P (g t)) s
unfolding Each
each_of_map P g [] = refl
each_of_map P g (t ∷ s) = ap (λ X. P (g t) × X) (each_of_map P g s)

-- and so for pairs
pair_of_map : (R : Task → Task → Type 0) (g : Task → Task) (s : List Task) → EachPair R (map g s) ≡ EachPair (λ t u. R (g t) (g u)) s
unfolding EachPair
pair_of_map R g [] = refl
pair_of_map R g (t ∷ s) = λ i. each_of_map (R (g t)) g s i × pair_of_map R g s i

-- a property of a list that reads the figures of its tasks alone is kept by every call
pub figures_kept : (P : List Task → Type 0) → ((s : List Task) → P (map bare s) ≡ P s) → (q : Task → Bool) (c : Call) (s : List Task) → P s → P (next_by q c s)
figures_kept P e q c s h = subst (λ X. X) (sym (e s) ∙ ap P (sym (bare_next q c s)) ∙ e (next_by q c s)) h

-- a call keeps each task sound
sound_next : (q : Task → Bool) (c : Call) (s : List Task) → Each Sound s → Each Sound (next_by q c s)
unfolding next_by used older with_job
sound_next q (release j) s h = each_changed Sound (λ t k. released_cases Sound t k (λ x y. omega arith)) (changed_named j released release_answer s) h
sound_next q (finish j) s h = each_changed Sound (λ t k. finished_cases Sound t k (λ x. omega arith)) (changed_named j finished finish_answer s) h
sound_next q tick s h = each_map Sound Sound older (modify q used s) (λ t k. omega arith) (each_changed Sound (λ t k. omega arith) (changed_tick q used s) h)

-- each call hands back a state in form
pub form_kept : (q : Task → Bool) (c : Call) (s : List Task) → Form s → Form (next_by q c s)
unfolding Distinct Above bare with_job
form_kept q c s h = record {
  count = omega (arith, length_next q c s);
  sound = sound_next q c s h.sound;
  distinct = figures_kept (EachPair Distinct) (pair_of_map Distinct bare) q c s h.distinct;
  ordered = figures_kept (EachPair Above) (pair_of_map Above bare) q c s h.ordered;
}

-- a list of calls hands back a state in form
pub form_run : (cs : List Call) (s : State) → Form s.tasks → Form (run next s cs).tasks
unfolding next
form_run cs s h = run_kept next (λ x. Form x.tasks) (λ c x. form_kept _ c x.tasks) cs s h

-- the first tasks of a state in form are in form
pub form_take : (k : ℕ) (s : List Task) → Form s → Form (take k s)
form_take k s f = record {
  count = omega (arith, f.count, length-take k s);
  sound = each_take Sound k s f.sound;
  distinct = pairs_take Distinct k s f.distinct;
  ordered = pairs_take Above k s f.ordered;
}
