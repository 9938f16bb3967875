-- The checker accepts the sheet of a plan.
-- Assumes nothing.
use Prim.Native.Nat.{ℕ, ◌+◌, ◌*◌, ◌≤◌, ◌<◌}
use mathlib.Core.Path.{◌≡◌, refl, sym, ap, subst, ◌∙◌}
use mathlib.Core.Logic.{inl}
use mathlib.Core.Bool.{true, false, false≢true}
use Rattle.std.specs.Prelude.{Option, None, Some}
use mathlib.Core.List.{List, [], ◌∷◌, ◌++◌, map, append-nil}
use native.Mathlib.Nat.{le_refl, le_trans}
use native.Mathlib.Omega.{arith}
use borrow.Author.Tests.{ltb-false, eq-eqb, ne_eqb}
use lib.ListN.{length, drop, get_or, length-append, length-map}
use lib.Seq.{drop_at, get_or-append-add}
use lib.Dec.{eqb}
use Rattle.sheet.specs.Numbers.{word, long}
use Rattle.sheet.specs.Records.{Figures}
use Rattle.sheet.specs.Views.{positioned_in, figures}
use Rattle.fit.specs.Lists.{numbers, occurs, Each, EachPair, at, place_of, joined}
use Rattle.fit.specs.Fits.{stretched, overloaded}
use Rattle.fit.proofs.Lists.{each_of, each_both, each_occurs}
use Rattle.fit.proofs.Priority.{order_members, order_rising, order_holds, order_ext}
use Rattle.fit.proofs.Selecting.{order_core_ext, rising_differ}
use Rattle.fit.proofs.Laying.{records_length, record_at, record_word, record_long}
use Rattle.figures.specs.Constructions.{Acceleration}
use Rattle.figures.specs.Passing.{first_passing}
use Rattle.figures.proofs.Sound.{factors_length}
use Rattle.figures.proofs.Passing.{Accepted, passing_sound, passing_accepted}
use Rattle.fit.specs.Cores.{order_on}
use Rattle.checker.specs.Accepted.{Fitting, OrderKept, Acceptable}
use Rattle.checker.specs.Verdict.{verdict, accepted}
use Rattle.checker.proofs.Acceptance.{accepted_exactly}
use Rattle.checker.proofs.Unstroked.{unstroked_load}
use Rattle.planner.specs.declared.Assignment.{Assignment}
use Rattle.planner.specs.FirstFit.{core_set, core_figures, is_some}
use Rattle.planner.specs.Sheet.{two, four, header, task_record, core_record, or_zeros, figures_for, factor_for, sheet_of}
use Rattle.planner.proofs.Settling.{Settled}
use Rattle.planner.proofs.Decoding.{task_period, task_budget, task_factor, core_pivot, core_divisor}

-- two functions that agree on a list
map_ext : (f g : ℕ → ℕ) (l : List ℕ) → Each (λ i. f i ≡ g i) l → map f l ≡ map g l
unfolding Each
map_ext f g [] h = refl
map_ext f g (i ∷ l) h = rw (h.0, map_ext f g l h.1)

-- fs looked up at the place of each task of l is fs again, where no task stands in l twice
map_places : (fs l : List ℕ) → EachPair (λ i j. i ≡ j → ⊥) l → length fs ≡ length l → map (λ i. at fs (place_of (λ z. eqb z i) l)) l ≡ fs
unfolding place_of EachPair
map_places [] [] d e = refl
map_places (y ∷ fs) [] d e = absurd (omega arith)
map_places [] (x ∷ l) d e = absurd (omega arith)
map_places (y ∷ fs) (x ∷ l) d e =
    rw (eq-eqb x x refl)
    (ap (λ (t : List ℕ). y ∷ t) (map_ext _ (λ i. at fs (place_of (λ z. eqb z i) l)) l (each_of l (λ i q. rw (ne_eqb x i q)) d.0) ∙ map_places fs l d.1 (omega arith)))

-- the figures, where there are some
some_of : (x : Option Acceleration) → is_some x ≡ true → (a : Acceleration) × (x ≡ Some a)
unfolding is_some
some_of None h = absurd (false≢true h)
some_of (Some a) h = (a, refl)

module _ (p e : ℕ → ℕ) (n limit : ℕ) (a : Assignment) (small : limit ≤ 8) (many : n ≤ 64) (period : (i : ℕ) → i < n → (1 ≤ p i) × (p i ≤ 60000)) (budget : (i : ℕ) → i < n → (1 ≤ e i) × (e i ≤ p i)) (settled : Settled p e n limit a) (placed : (i : ℕ) → i < n → at a.core i < a.cores) where
  M : ℕ → ℕ
  M i = factor_for p e n a i

  Q : ℕ → ℕ
  Q k = (figures_for p e n a k).Q

  D : ℕ → ℕ
  D k = (figures_for p e n a k).D

  -- the tasks of core k
  on : ℕ → List ℕ
  on k = core_set p n a.core k

  on_members : (k : ℕ) → Each (λ i. (i < n) × (at a.core i ≡ k)) (on k)
  unfolding on core_set
  on_members k = order_members p (at a.core) k n

  on_holds : (i : ℕ) → i < n → 1 ≤ occurs i (on (at a.core i))
  unfolding on core_set
  on_holds i h = order_holds p (at a.core) (at a.core i) n i h refl

  -- any functions that agree with the plan's on the tasks of core k are accepted there
  module _ (k : ℕ) (h : k < a.cores) where
    own : (acc : Acceleration) × (core_figures p e n a.core k ≡ Some acc)
    own = some_of _ (settled.passes k h)

    own_figures : figures_for p e n a k ≡ own.0
    unfolding figures_for or_zeros
    own_figures = rw own.1

    own_passing : first_passing (map p (on k)) (map e (on k)) ≡ Some own.0
    unfolding on core_figures
    own_passing = own.1

    own_factors : map M (on k) ≡ own.0.factors
    unfolding M factor_for on core_set
    own_factors =
        map_ext _ (λ i. at own.0.factors (place_of (λ z. eqb z i) (on k))) (on k) (each_of (on k) (λ i m. rw (m.1, own_figures)) (on_members k))
        ∙ map_places own.0.factors (on k) once size
      where
        once : EachPair (λ i j. i ≡ j → ⊥) (core_set p n a.core k)
        once = rising_differ p (core_set p n a.core k) (order_rising p (at a.core) k n)

        size : length own.0.factors ≡ length (core_set p n a.core k)
        size = factors_length _ _ 1 (map p (on k)) _ (passing_sound (map p (on k)) (map e (on k)) own.0 own_passing).1.factors ∙ length-map (on k) p

    fits : (p' e' M' : ℕ → ℕ) → Each (λ i. (p' i ≡ p i) × (e' i ≡ e i) × (M' i ≡ M i)) (on k) → Accepted p' e' M' (Q k) (D k) (on k)
    unfolding Q D
    fits p' e' M' same =
        let passing : first_passing (map p' (on k)) (map e' (on k)) ≡ Some own.0 = rw (map_ext p' p (on k) (each_of (on k) (λ i m. m.0) same), map_ext e' e (on k) (each_of (on k) (λ i m. m.1) same)) own_passing in
        let factors : map M' (on k) ≡ own.0.factors = map_ext M' M (on k) (each_of (on k) (λ i m. m.2) same) ∙ own_factors in
        subst (λ (x : Acceleration). Accepted p' e' M' x.Q x.D (on k)) (sym own_figures) (passing_accepted p' e' M' (on k) own.0 passing factors)

    fits_plain : Accepted p e M (Q k) (D k) (on k)
    fits_plain = fits p e M (each_of (on k) (λ i m. (refl, refl, refl)) (on_members k))

  -- every factor is in range
  factor_range : (i : ℕ) → i < n → (1 ≤ M i) × (M i ≤ 120000)
  factor_range i h = each_occurs (λ i. (1 ≤ M i) × (M i ≤ 120000)) i (on (at a.core i)) (on_holds i h) (fits_plain (at a.core i) (placed i h)).factors

  -- the sheet and its parts
  task : ℕ → List ℕ
  task i = task_record (p i) (e i) (at a.core i) (M i)

  core : ℕ → List ℕ
  core k = core_record (Q k) (D k)

  tasks : List ℕ
  tasks = joined task (numbers 0 n)

  cores : List ℕ
  cores = joined core (numbers 0 a.cores)

  sheet : List ℕ
  sheet = header n a.cores ++ (tasks ++ cores)

  task_size : (i : ℕ) → length (task i) ≡ 10
  unfolding task task_record two four
  task_size i = refl

  core_size : (k : ℕ) → length (core k) ≡ 8
  unfolding core core_record two four
  core_size k = refl

  tasks_size : length tasks ≡ 10 * n
  unfolding tasks
  tasks_size = records_length task 10 task_size 0 n

  cores_size : length cores ≡ 8 * a.cores
  unfolding cores
  cores_size = records_length core 8 core_size 0 a.cores

  f : Figures
  f = positioned_in false false n a.cores (tasks ++ cores)

  -- its fields, by task and by core
  f_period : (i : ℕ) → i < n → f.period i ≡ p i
  unfolding f tasks task
  f_period i h = record_word task 10 task_size cores n i h (10 * i) 0 (omega arith) (omega arith) ∙ task_period (p i) (e i) (at a.core i) (M i) (omega (arith, (period i h).1))

  f_budget : (i : ℕ) → i < n → f.budget i ≡ e i
  unfolding f tasks task
  f_budget i h = record_word task 10 task_size cores n i h (10 * i + 2) 2 refl (omega arith) ∙ task_budget (p i) (e i) (at a.core i) (M i) (omega (arith, (period i h).1, (budget i h).1))

  f_core : (i : ℕ) → i < n → f.core i ≡ at a.core i
  unfolding f tasks task task_record two four
  f_core i h = record_at task 10 task_size cores n i h (10 * i + 4) 4 refl (omega arith)

  f_spare : (i : ℕ) → i < n → get_or (drop 8 sheet) (10 * i + 5) 0 ≡ 0
  unfolding sheet header tasks task task_record two four
  f_spare i h = record_at task 10 task_size cores n i h (10 * i + 5) 5 refl (omega arith)

  f_factor : (i : ℕ) → i < n → f.factor i ≡ M i
  unfolding f tasks task
  f_factor i h = record_long task 10 task_size cores n i h (10 * i + 6) 6 refl (omega arith) ∙ task_factor (p i) (e i) (at a.core i) (M i) (factor_range i h).1

  after : drop (10 * n) (tasks ++ cores) ≡ cores ++ []
  after = drop_at tasks cores (10 * n) tasks_size ∙ sym (append-nil cores)

  f_pivot : (k : ℕ) → k < a.cores → f.pivot k ≡ Q k
  unfolding f cores core
  f_pivot k h = ap (λ (l : List ℕ). word l (8 * k)) after ∙ record_word core 8 core_size [] a.cores k h (8 * k) 0 (omega arith) (omega arith) ∙ core_pivot (Q k) (D k) (omega (arith, (fits_plain k h).pivot.1))

  f_divisor : (k : ℕ) → k < a.cores → f.divisor k ≡ D k
  unfolding f cores core
  f_divisor k h = ap (λ (l : List ℕ). long l (8 * k + 4)) after ∙ record_long core 8 core_size [] a.cores k h (8 * k + 4) 4 refl (omega arith) ∙ core_divisor (Q k) (D k) (fits_plain k h).divisor.1

  f_spares : (k : ℕ) → k < a.cores → (get_or (drop 8 sheet) (10 * n + 8 * k + 2) 0 ≡ 0) × (get_or (drop 8 sheet) (10 * n + 8 * k + 3) 0 ≡ 0)
  unfolding sheet header cores core core_record two four
  f_spares k h = (spare 2 (omega arith) refl, spare 3 (omega arith) refl)
    where
      spare : (j : ℕ) → j < 8 → get_or (core k) j 0 ≡ 0 → get_or (tasks ++ cores) (10 * n + 8 * k + j) 0 ≡ 0
      spare j b z =
          let place : 10 * n + 8 * k + j ≡ length tasks + (8 * k + j) = omega (arith, tasks_size) in
          ap (λ (x : ℕ). get_or (tasks ++ cores) x 0) place ∙ get_or-append-add tasks cores (8 * k + j) 0
          ∙ ap (λ (l : List ℕ). get_or l (8 * k + j) 0) (sym (append-nil cores)) ∙ record_at core 8 core_size [] a.cores k h (8 * k + j) j refl b ∙ z

  f_order : (k : ℕ) → order_on f k ≡ on k
  unfolding f order_on on core_set
  f_order k = order_ext f.period p f.core k n f_period ∙ order_core_ext p f.core (at a.core) k k n (λ i h. rw (f_core i h))

  f_fits : (k : ℕ) → k < a.cores → Accepted f.period f.budget f.factor (Q k) (D k) (on k)
  f_fits k h = fits k h f.period f.budget f.factor (each_of (on k) (λ i m. (f_period i m.0, f_budget i m.0, f_factor i m.0)) (on_members k))

  -- the figures fit
  fitting : Fitting f
  unfolding f overloaded stretched
  fitting =
      record {
        tasks =
            record {
              period = λ i h. rw (f_period i h) (period i h);
              budget = λ i h. rw (f_period i h, f_budget i h) (budget i h);
              stroke = λ i h. (le_refl 1, rw (f_budget i h) (budget i h).0);
              core = λ i h. rw (f_core i h) (placed i h);
            };
        cores =
            record {
              not_bare = λ k h. let (i, b, c) = settled.not_bare k h in (i, b, f_core i b ∙ c);
              factor = λ i h. rw (f_factor i h) (factor_range i h);
              pivot = λ k h. rw (f_pivot k h) (fits_plain k h).pivot;
              divisor = λ k h. rw (f_divisor k h) (fits_plain k h).divisor;
              accelerated = λ i h. fast i h;
            };
        fits =
            record {
              simply_periodic = λ k h. rw (f_order k) (f_fits k h).chained;
              load = λ k h. (unstroked_load f k (λ i q. refl) (λ i q. rw (f_factor i q) (factor_range i q).0) (rw (f_order k) (f_fits k h).chained)).1 (rw (f_order k, f_pivot k h, f_divisor k h) (ltb-false _ _ (f_fits k h).loaded));
            };
      }
    where
      accelerated_there : (i : ℕ) → i < n → Each (λ j. stretched (Q (at a.core j)) (D (at a.core j)) (f.period j) (f.factor j) ≡ false) (on (at a.core i))
      accelerated_there i h = each_both (on (at a.core i)) (λ j x m. rw m.1 x) (f_fits (at a.core i) (placed i h)).accelerated (on_members (at a.core i))

      fast : (i : ℕ) → i < n → f.pivot (f.core i) * f.factor i ≤ f.period i * f.divisor (f.core i)
      fast i h =
          rw (f_core i h, f_pivot (at a.core i) (placed i h), f_divisor (at a.core i) (placed i h))
          (ltb-false _ _ (each_occurs (λ i. stretched (Q (at a.core i)) (D (at a.core i)) (f.period i) (f.factor i) ≡ false) i (on (at a.core i)) (on_holds i h) (accelerated_there i h)))

  -- so the sheet's periods and budgets are those of the tasks
  pub sheet_period : (i : ℕ) → i < n → (figures (sheet_of p e n a)).period i ≡ p i
  unfolding sheet_of sheet header tasks cores task core M Q D word f
  sheet_period = f_period

  pub sheet_budget : (i : ℕ) → i < n → (figures (sheet_of p e n a)).budget i ≡ e i
  unfolding sheet_of sheet header tasks cores task core M Q D word f
  sheet_budget = f_budget

  pub sheet_accepted : verdict (sheet_of p e n a) ≡ accepted n a.cores
  unfolding sheet_of sheet header tasks cores task core M Q D word f OrderKept
  sheet_accepted = (accepted_exactly sheet n a.cores).1 (acceptable, refl, refl)
    where
      acceptable : Acceptable sheet
      acceptable =
          record {
            frame =
                record {
                  mark = (refl, refl, refl);
                  version = inl refl;
                  tasks = many;
                  cores = le_trans settled.few small;
                  size = simp length-append (omega (arith, tasks_size, cores_size));
                };
            spares = record { header = refl; tasks = λ u. f_spare; cores = λ k h. (λ g. (f_spares k h).0, (f_spares k h).1) };
            order = λ g. absurd (false≢true g);
            fitting = fitting;
          }
