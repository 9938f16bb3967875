-- Rules 13 and 14 at one core: what the code finds of its tasks in priority order is what the rules say.
-- Assumes nothing.
use Prim.Native.Nat.{ℕ, ◌+◌, ◌-◌, ◌*◌, ◌≤◌, ◌<◌, min}
use mathlib.Core.Path.{◌≡◌, refl, sym, ap, subst, ◌∙◌}
use mathlib.Core.Bool.{Bool, true, false, cond}
use Rattle.std.specs.Prelude.{Option, None, Some, Result, Ok, Err}
use Rattle.std.specs.Option.{option_or}
use Rattle.std.specs.Bool.{then_some}
use Rattle.std.specs.Result.{IsErrAnd}
use mathlib.Core.List.{List, [], ◌∷◌}
use native.Mathlib.Omega.{arith}
use native.Mathlib.Nat.{sub-zero}
use lib.ListN.{length, get_or, take, drop}
use Rattle.sheet.specs.Records.{Figures}
use Rattle.fit.specs.declared.Break.{Break}
use Rattle.sheet.specs.declared.Refusal.TheVariants.{Chain}
use Rattle.sheet.specs.declared.Rejection.{Rejection}
use Rattle.sheet.specs.Table.{Row, refused_by, refusal_of, scan, core, ◌at◌}
use Rattle.sheet.proofs.Scans.{scan_hit, scan_skip}
use Rattle.fit.specs.Lists.{numbers, find, find_some, padded, Each}
use Rattle.fit.specs.Priority.{order}
use Rattle.fit.specs.Fits.{chain_break, last_factor, level_overloaded}
use Rattle.fit.specs.Answers.{Column, chain_answer, chained}
use Rattle.fit.proofs.Lists.{each_of}
use Rattle.fit.proofs.Finds.{front}
use Rattle.fit.proofs.Priority.{order_members}
use Rattle.order.specs.Cores.{on_cores, ByCore, end_on}
use Rattle.order.proofs.Cutting.{standing_by_core, by_core_size, by_core_ext, cut_end, cut_part, cut_rises, cut_inside}
use Rattle.fit.specs.Cores.{order_on}
use Rattle.checker.specs.Tests.{chain_break_on, overloaded_on}
use Rattle.checker.specs.Steps.{judged, Sorted, InRange}
use Rattle.checker.proofs.Tables.{handed}

-- tasks that stand core by core are taken as they stand, others by a column of their periods
pub order_standing : (f : Figures) (list : List ℕ) → InRange f → Sorted f → list ≡ padded (numbers 0 (min f.tasks 64)) → ByCore f.period f.core (min f.tasks 64) list
order_standing f list r s e = standing_by_core f.period f.core (min f.tasks 64) (λ i j h q. s.cores i j h (omega arith)) (λ i j h q. s.above i j h (omega arith)) (λ i h. r.cores i (omega arith)) list e

pub order_ranked : (p core : ℕ → ℕ) (n : ℕ) (periods list : List ℕ) → Column p n periods → ByCore (λ i. get_or periods i 0) core n list → ByCore p core n list
order_ranked p core n periods list c b = by_core_ext (λ i. get_or periods i 0) p core n list c.below b

-- The part of core k in the list is its tasks in priority order.
module _ (f : Figures) (k from : ℕ) (list : List ℕ) (r : InRange f) (h : k < 256) (b : ByCore f.period f.core (min f.tasks 64) list) (start : from ≡ length (on_cores f.period f.core k (min f.tasks 64))) where
  pub part_rises : (to : ℕ) → to ≡ end_on f.core k list from (min f.tasks 64) → (from ≤ to) × (to ≤ length list) × (to ≤ 64)
  part_rises to e =
      let inside : to ≤ 64 = rw e (omega (arith, cut_inside f.period f.core (min f.tasks 64) k from list (omega arith) h b start)) in
      (rw e (cut_rises f.period f.core (min f.tasks 64) k from list (omega arith) h b start), omega (arith, by_core_size f.period f.core (min f.tasks 64) list (omega arith) b), inside)

  pub part_next : (to : ℕ) → to ≡ end_on f.core k list from (min f.tasks 64) → to ≡ length (on_cores f.period f.core (k + 1) (min f.tasks 64))
  part_next to e = e ∙ cut_end f.period f.core (min f.tasks 64) k from list (omega arith) h b start

  part_order : (to : ℕ) → to ≡ end_on f.core k list from (min f.tasks 64) → take (to - from) (drop from list) ≡ order_on f k
  unfolding order_on
  part_order to e =
      let n : min f.tasks 64 ≡ f.tasks = omega (arith, r.count) in
      rw e (cut_part f.period f.core (min f.tasks 64) k from list (omega arith) h b start) ∙ ap (order f.period f.core k) n

  pub part_members : (to : ℕ) → to ≡ end_on f.core k list from (min f.tasks 64) → Each (λ i. i < f.tasks) (take (to - from) (drop from list))
  unfolding order_on
  part_members to e = subst (Each _) (sym (part_order to e)) (each_of {P = λ i. (i < f.tasks) × (f.core i ≡ k)} _ (λ i m. m.0) (order_members f.period f.core k f.tasks))

  -- their records are there, and their factors are above 0
  pub part_held : (records : List ℕ) → 10 * f.tasks ≤ length records → (to : ℕ) → to ≡ end_on f.core k list from (min f.tasks 64) → Each (λ i. (10 * i + 10 ≤ length records) × (0 < f.factor i)) (take (to - from) (drop from list))
  part_held records long to e = each_of {P = λ i. i < f.tasks} _ (λ i m. (omega (arith, long, m), r.factors i m)) (part_members to e)

  pub part_judged : (to Q D : ℕ) (x : Result Bool (Rejection ℕ)) → to ≡ end_on f.core k list from (min f.tasks 64) → Q ≡ f.pivot k → D ≡ f.divisor k → x ≡ judged (chain_break f.factor 1 (take (to - from) (drop from list))) (level_overloaded f.budget f.stroke f.factor Q D (take (to - from) (drop from list))) → x ≡ judged (chain_break_on f k) (overloaded_on f k)
  unfolding chain_break_on overloaded_on
  part_judged to Q D x e eq ed t = t ∙ rw (part_order to e, eq, ed)

-- what is said of a core that is over
pub over_broken : (M : ℕ → ℕ) (l : List ℕ) (x : Result ℕ Break) (b : Break) → x ≡ chained M l → x ≡ Err b → Err (record { word = Chain; place = b.task }) ≡ judged (chain_break M 1 l) true
unfolding chained chain_answer judged
over_broken M l x b e q = by (chain_break M 1 l) (rw q at e)
  where
    by : (o : Option ℕ) → Err b ≡ chain_answer o (last_factor M 1 l) → Err (record { word = Chain; place = b.task }) ≡ judged o true
    by None t = cc
    by (Some i) t = cc

pub over_whole : (M : ℕ → ℕ) (l : List ℕ) (x : Result ℕ Break) (m : ℕ) → x ≡ chained M l → x ≡ Ok m → Ok true ≡ judged (chain_break M 1 l) true
unfolding chained chain_answer judged
over_whole M l x m e q = by (chain_break M 1 l) (rw q at e)
  where
    by : (o : Option ℕ) → Ok m ≡ chain_answer o (last_factor M 1 l) → Ok true ≡ judged o true
    by None t = refl
    by (Some i) t = cc

judged_broken : (o : Option ℕ) (b : Bool) (r : Rejection ℕ) → Err r ≡ judged o b → (o ≡ Some r.place) × (refused_by r ≡ record { number = 13; place = r.place })
unfolding judged
judged_broken None b r e = cc
judged_broken (Some j) b r e = (cc, cc)

judged_whole : (o : Option ℕ) (b x : Bool) → Ok x ≡ judged o b → (o ≡ None) × (x ≡ b)
unfolding judged
judged_whole None b x e = (refl, cc)
judged_whole (Some j) b x e = cc

-- the loop over the cores: no chain is broken below k, and the first that is over there is kept
pub record Passed (f : Figures) (c k : ℕ) (found : Option ℕ) : Type 0 where
  pub chains : find_some (chain_break_on f) (numbers 0 c) ≡ find_some (chain_break_on f) (numbers k (c - k))
  pub loads : find (overloaded_on f) (numbers 0 c) ≡ option_or found (find (overloaded_on f) (numbers k (c - k)))

pub fit_start : (f : Figures) (c : ℕ) → Passed f c 0 None
fit_start f c = record { chains = rw (sub-zero c); loads = rw (sub-zero c) }

module _ (f : Figures) (c k : ℕ) (found : Option ℕ) (r : Result Bool (Rejection ℕ)) (h : k < c) (p : Passed f c k found) (e : r ≡ judged (chain_break_on f k) (overloaded_on f k)) where
  pub fit_broken : {A : Type 0} (g : Result A (Rejection ℕ)) (w : Rejection ℕ) → IsErrAnd g (λ e. e ≡ w) → r ≡ Err w → (rows : List Row) → refusal_of g ≡ scan (13 at find_some (chain_break_on f) (numbers 0 c) ∷ rows)
  unfolding find_some
  fit_broken g w i q rows =
      let b : (chain_break_on f k ≡ Some w.place) × (refused_by w ≡ record { number = 13; place = w.place }) = judged_broken _ (overloaded_on f k) w (sym q ∙ e) in
      handed g w _ i (ap Some b.1 ∙ scan_hit 13 w.place _ rows (sym (p.chains ∙ rw (front c k h, b.0))))

  pub fit_turn : (found' : Option ℕ) (b : Bool) → r ≡ Ok b → found' ≡ option_or found (then_some b k) → Passed f c (k + 1) found'
  unfolding find_some find
  fit_turn found' b q t =
      let w : (chain_break_on f k ≡ None) × (b ≡ overloaded_on f k) = judged_whole _ _ b (sym q ∙ e) in
      record { chains = p.chains ∙ rw (front c k h, w.0); loads = p.loads ∙ rw (front c k h, ← w.1, t) (loaded found b) }
    where
      rest : Option ℕ
      rest = find (overloaded_on f) (numbers (k + 1) (c - (k + 1)))

      loaded : (o : Option ℕ) (b : Bool) → option_or o (cond b (Some k) rest) ≡ option_or (option_or o (then_some b k)) rest
      loaded None true = refl
      loaded None false = refl
      loaded (Some i) b = refl

-- the end: no chain is broken, and the first core that is over is known
pub fit_end : {A : Type 0} (f : Figures) (c k : ℕ) (found : Option ℕ) (r : Result A (Rejection ℕ)) → c ≤ k → Passed f c k found → refusal_of r ≡ scan (14 at core found ∷ []) → refusal_of r ≡ scan (13 at find_some (chain_break_on f) (numbers 0 c) ∷ 14 at core (find (overloaded_on f) (numbers 0 c)) ∷ [])
unfolding find_some find numbers
fit_end f c k found r h p e =
    let z : c - k ≡ 0 = omega arith in
    scan_skip 13 _ _ _ (sym (p.chains ∙ rw z)) (rw (p.loads, z) (e ∙ same found))
  where
    same : (o : Option ℕ) → scan (14 at core o ∷ []) ≡ scan (14 at core (option_or o None) ∷ [])
    same None = refl
    same (Some i) = refl
