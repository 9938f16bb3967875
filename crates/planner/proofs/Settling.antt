-- What first fit comes to: every task on one open core, every open core with tasks, and the tasks of each core pass.
-- Assumes nothing.
use Prim.Native.Nat.{ℕ, ◌+◌, ◌≤◌, ◌<◌}
use mathlib.Core.Path.{◌≡◌, refl, sym, ap, subst, ◌∙◌}
use mathlib.Core.Logic.{◌⊎◌, inl, inr, ⊎_elim}
use mathlib.Core.Bool.{true}
use Rattle.std.specs.Prelude.{Option, None, Some}
use mathlib.Core.List.{List, [], ◌∷◌, ◌++◌, map}
use native.Mathlib.Decide.{ℕ_discrete}
use native.Mathlib.Omega.{arith}
use borrow.Author.Tests.{lt-ltb, le-ltb, eq-eqb, ne_eqb}
use lib.ListN.{length, take, drop, set, length-set, length-replicate, get_or-replicate, take-append-drop}
use lib.Seq.{get_or-set_same, get_or-set_other}
use lib.Arith.{lt_of_le-ne}
use lib.Dec.{eqb}
use Rattle.fit.specs.declared.By.TheVariants.{Ring}
use Rattle.fit.specs.Lists.{Each, EachPair, at}
use Rattle.fit.specs.Ring.{key_of, order_by}
use Rattle.fit.proofs.Lists.{each_of, each_both, each_all, each_append, each_halves, each_occurs, pairs_append}
use Rattle.fit.proofs.Priority.{order_members, order_rising, order_holds}
use Rattle.fit.proofs.Selecting.{order_core_ext, order_alone, rising_differ}
use Rattle.jobs.specs.Jobs.{job_count, job_period, job_budget, Listed}
use Rattle.figures.specs.Passing.{first_passing}
use Rattle.figures.proofs.Passing.{alone}
use Rattle.planner.specs.declared.Assignment.{Assignment}
use Rattle.planner.specs.FirstFit.{rotate, unassigned, core_set, core_figures, is_some, takes, core_for, assign, placed, onward, first_fit}
use Rattle.planner.specs.Plan.{fit_of}
use Rattle.planner.specs.Steps.{Assigned}
use Rattle.planner.proofs.Fitting.{core_choice}

-- at each step of the walk: a task is on an open core or on none, the tasks of each open core pass, and it has some
pub record Settled (p e : ℕ → ℕ) (n limit : ℕ) (a : Assignment) : Type 0 where
  pub size : length a.core ≡ 64
  pub few : a.cores ≤ limit
  pub core : (j : ℕ) → j < n → (at a.core j < a.cores) ⊎ (at a.core j ≡ 255)
  pub passes : (k : ℕ) → k < a.cores → is_some (core_figures p e n a.core k) ≡ true
  pub not_bare : (k : ℕ) → k < a.cores → (i : ℕ) × (i < n) × (at a.core i ≡ k)

-- the tasks of a walk from an assignment: each has no core yet, and none is walked twice
pub record Fresh (n : ℕ) (l : List ℕ) (a : Assignment) : Type 0 where
  pub free : Each (λ i. (i < n) × (at a.core i ≡ 255)) l
  pub once : EachPair (λ i j. i ≡ j → ⊥) l

-- where a task is put, only its own core's tasks change
module _ (p : ℕ → ℕ) (n i k : ℕ) (core : List ℕ) (inside : i < length core) where
  set_here : at (set core i k) i ≡ k
  set_here = get_or-set_same core i k 0 inside

  set_there : (j : ℕ) → (j ≡ i → ⊥) → at (set core i k) j ≡ at core j
  set_there j h = get_or-set_other core i j k 0 h

  elsewhere : (m : ℕ) → (k ≡ m → ⊥) → (at core i ≡ m → ⊥) → core_set p n (set core i k) m ≡ core_set p n core m
  unfolding core_set
  elsewhere m a b = order_core_ext p (at (set core i k)) (at core) m m n (λ j h. by j (ℕ_discrete j i))
    where
      by : (j : ℕ) → Dec (j ≡ i) → eqb (at (set core i k) j) m ≡ eqb (at core j) m
      by j (yes q) = rw (q, set_here, ne_eqb k m a, ne_eqb (at core i) m b)
      by j (no q) = rw (set_there j q)

  on_its_own : i < n → ((j : ℕ) → j < n → at core j ≡ k → ⊥) → core_set p n (set core i k) k ≡ i ∷ []
  unfolding core_set
  on_its_own h free = order_core_ext p (at (set core i k)) (λ j. j) k i n (λ j q. by j q (ℕ_discrete j i)) ∙ order_alone p i n h
    where
      by : (j : ℕ) → j < n → Dec (j ≡ i) → eqb (at (set core i k) j) k ≡ eqb j i
      by j q (yes z) = rw (z, set_here, eq-eqb k k refl, eq-eqb i i refl)
      by j q (no z) = rw (set_there j z, ne_eqb (at core j) k (free j q), ne_eqb j i z)

module _ (p e : ℕ → ℕ) (n limit : ℕ) (small : limit ≤ 8) (many : n ≤ 64) (period : (i : ℕ) → i < n → (1 ≤ p i) × (p i ≤ 60000)) (budget : (i : ℕ) → i < n → e i ≤ p i) where
  begin : Settled p e n limit unassigned
  unfolding unassigned
  begin =
      record {
        size = length-replicate {A = ℕ} 64 255;
        few = omega arith;
        core = λ j h. inr (get_or-replicate 64 j 255 0 (omega arith));
        passes = λ k h. absurd (omega arith);
        not_bare = λ k h. absurd (omega arith);
      }

  module _ (a : Assignment) (s : Settled p e n limit a) (i k : ℕ) (h : i < n) (free : at a.core i ≡ 255) where
    inside : i < length a.core
    inside = omega (arith, s.size)

    -- a task on core k, which passes, with the cores below `cores` open
    settle : (cores : ℕ) → a.cores ≤ cores → k < cores → cores ≤ limit → ((m : ℕ) → m < cores → (m ≡ k → ⊥) → m < a.cores) → is_some (core_figures p e n (set a.core i k) k) ≡ true → Settled p e n limit (record { core = set a.core i k; cores = cores })
    unfolding core_figures
    settle cores more low high old pass =
        record {
          size = length-set a.core i k ∙ s.size;
          few = high;
          core = λ j q. on j q (ℕ_discrete j i);
          passes = λ m q. passing m q (ℕ_discrete m k);
          not_bare = λ m q. found m q (ℕ_discrete m k);
        }
      where
        on : (j : ℕ) → j < n → Dec (j ≡ i) → (at (set a.core i k) j < cores) ⊎ (at (set a.core i k) j ≡ 255)
        on j q (yes z) = inl (rw (z, set_here p n i k a.core inside) low)
        on j q (no z) = rw (set_there p n i k a.core inside j z) (⊎_elim (λ x. inl (omega arith)) (λ x. inr x) (s.core j q))

        away : (m : ℕ) → m < cores → at a.core i ≡ m → ⊥
        away m q z = omega arith

        passing : (m : ℕ) → m < cores → Dec (m ≡ k) → is_some (first_passing (map p (core_set p n (set a.core i k) m)) (map e (core_set p n (set a.core i k) m))) ≡ true
        passing m q (yes z) = rw z pass
        passing m q (no z) = rw (elsewhere p n i k a.core inside m (λ x. z (sym x)) (away m q)) (s.passes m (old m q z))

        found : (m : ℕ) → m < cores → Dec (m ≡ k) → (j : ℕ) × (j < n) × (at (set a.core i k) j ≡ m)
        found m q (yes z) = (i, h, set_here p n i k a.core inside ∙ sym z)
        found m q (no z) =
            let (j, b, c) = s.not_bare m (old m q z) in
            let other : j ≡ i → ⊥ = λ x. away m q (sym (ap (at a.core) x) ∙ c) in
            (j, b, set_there p n i k a.core inside j other ∙ c)

    -- a new core takes any task
    takes_alone : k ≡ a.cores → a.cores < limit → is_some (core_figures p e n (set a.core i k) k) ≡ true
    unfolding core_figures is_some
    takes_alone z q = rw (on_its_own p n i k a.core inside h none_there, alone (p i) (e i) (period i h).0 (period i h).1 (budget i h))
      where
        none_there : (j : ℕ) → j < n → at a.core j ≡ k → ⊥
        none_there j b c = ⊎_elim (λ x. omega arith) (λ x. omega arith) (s.core j b)

    step : Some k ≡ core_for p e n limit i a → Settled p e n limit (assign i k a) × (k < (assign i k a).cores) × (a.cores ≤ (assign i k a).cores) × ((assign i k a).core ≡ set a.core i k)
    unfolding takes assign
    step q = by (core_choice p e n limit i k a q)
      where
        by : ((k < a.cores) × (is_some (core_figures p e n (set a.core i k) k) ≡ true)) ⊎ ((k ≡ a.cores) × (a.cores < limit)) → Settled p e n limit (assign i k a) × (k < (assign i k a).cores) × (a.cores ≤ (assign i k a).cores) × (set a.core i k ≡ set a.core i k)
        by (inl x) = rw (lt-ltb k a.cores x.0) (settle a.cores (omega arith) x.0 s.few (λ m b c. b) x.1, x.0, omega arith, refl)
        by (inr x) =
            rw (le-ltb k a.cores (omega (arith, x.0)))
            (settle (a.cores + 1) (omega arith) (omega (arith, x.0)) (omega (arith, x.1)) (λ m b c. lt_of_le-ne (omega arith) (λ z. c (z ∙ sym x.0))) (takes_alone x.0 x.1), omega (arith, x.0), omega arith, refl)

  -- what a walk leaves: it is settled, its tasks have open cores, and every task that had one still has one
  walked : (l : List ℕ) (a b : Assignment) → Settled p e n limit a → Fresh n l a → first_fit p e n limit l a ≡ placed b → Settled p e n limit b × Each (λ i. at b.core i < b.cores) l × ((j : ℕ) → at a.core j < a.cores → at b.core j < b.cores)
  unfolding first_fit onward Each EachPair
  walked [] a b s f q = let same : a ≡ b = cc in (subst (Settled p e n limit) same s, tt, λ j h. subst (λ (c : Assignment). at c.core j < c.cores) same h)
  walked (i ∷ l) a b s f q = by (core_for p e n limit i a) refl q (λ k. walked l (assign i k a) b)
    where
      by : (o : Option ℕ) → core_for p e n limit i a ≡ o → onward i (λ k. first_fit p e n limit l (assign i k a)) o ≡ placed b → ((k : ℕ) → Settled p e n limit (assign i k a) → Fresh n l (assign i k a) → first_fit p e n limit l (assign i k a) ≡ placed b → Settled p e n limit b × Each (λ i. at b.core i < b.cores) l × ((j : ℕ) → at (assign i k a).core j < (assign i k a).cores → at b.core j < b.cores)) → Settled p e n limit b × ((at b.core i < b.cores) × Each (λ i. at b.core i < b.cores) l) × ((j : ℕ) → at a.core j < a.cores → at b.core j < b.cores)
      by None t z r = let no_fit_lem : ◌≡◌ {A = ℕ} 0 1 = cc in absurd (omega arith)
      by (Some k) t z r =
          let free : (i < n) × (at a.core i ≡ 255) = f.free.0 in
          let (s', low, more, core) = step a s i k free.0 free.1 (sym t) in
          let room : i < length a.core = omega (arith, s.size, free.0) in
          let other : (j : ℕ) → (j ≡ i → ⊥) → at (assign i k a).core j ≡ at a.core j = λ j x. ap (λ (c : List ℕ). at c j) core ∙ set_there p n i k a.core room j x in
          let here : at (assign i k a).core i ≡ k = ap (λ (c : List ℕ). at c i) core ∙ set_here p n i k a.core room in
          let fresh : Fresh n l (assign i k a) = record { free = each_both l (λ j x y. (x.0, other j (λ w. y (sym w)) ∙ x.1)) f.free.1 f.once.0; once = f.once.1 } in
          let (done, each, keep) = r k s' fresh z in
          (done, (keep i (omega arith), each), λ j x. keep j (kept j x (ℕ_discrete j i) here other low more))
        where
          kept : (j : ℕ) → at a.core j < a.cores → Dec (j ≡ i) → at (assign i k a).core i ≡ k → ((j : ℕ) → (j ≡ i → ⊥) → at (assign i k a).core j ≡ at a.core j) → k < (assign i k a).cores → a.cores ≤ (assign i k a).cores → at (assign i k a).core j < (assign i k a).cores
          kept j x (yes w) here other low more = rw w (omega (arith, here, low))
          kept j x (no w) here other low more = omega (arith, other j w, more, x)

-- the pairs of two lists together are those of each and those across; and those across, the other way round
pairs_halves : (R : ℕ → ℕ → Type 0) (xs ys : List ℕ) → EachPair R (xs ++ ys) → EachPair R xs × EachPair R ys × Each (λ x. Each (R x) ys) xs
unfolding Each EachPair
pairs_halves R [] ys h = (tt, h, tt)
pairs_halves R (x ∷ xs) ys h =
    let (a, b) = each_halves (R x) xs ys h.0 in
    let (c, d, e) = pairs_halves R xs ys h.1 in
    ((a, c), d, (b, e))

each_swap : (R : ℕ → ℕ → Type 0) (xs ys : List ℕ) → Each (λ x. Each (R x) ys) xs → Each (λ y. Each (λ x. R x y) xs) ys
unfolding Each
each_swap R [] ys h = each_all (λ y. Unit {0}) ys (λ y. tt)
each_swap R (x ∷ xs) ys h = each_both ys (λ y a b. (a, b)) h.0 (each_swap R xs ys h.1)

-- a list that is walked round from a start has the same in it, and nothing twice if the list has nothing twice
module _ (start : ℕ) (l : List ℕ) where
  rotate_each : (P : ℕ → Type 0) → Each P l → Each P (rotate start l)
  unfolding rotate
  rotate_each P h =
      let w = each_halves P (take start l) (drop start l) (rw take-append-drop h) in
      each_append P (drop start l) (take start l) w.1 w.0

  each_rotate : (P : ℕ → Type 0) → Each P (rotate start l) → Each P l
  unfolding rotate
  each_rotate P h =
      let w = each_halves P (drop start l) (take start l) h in
      subst (Each P) (take-append-drop start l) (each_append P (take start l) (drop start l) w.1 w.0)

  rotate_once : EachPair (λ i j. i ≡ j → ⊥) l → EachPair (λ i j. i ≡ j → ⊥) (rotate start l)
  unfolding rotate
  rotate_once h =
      let (a, b, c) = pairs_halves (λ i j. i ≡ j → ⊥) (take start l) (drop start l) (rw take-append-drop h) in
      pairs_append (λ i j. i ≡ j → ⊥) (drop start l) (take start l) b a (each_of (drop start l) (λ y x. each_of (take start l) (λ z q w. q (sym w)) x) (each_swap (λ i j. i ≡ j → ⊥) (take start l) (drop start l) c))

-- first fit over the ring of a list without faults
pub fit_settled : (l : List ℕ) (limit start : ℕ) (b : Assignment) → Listed limit l → fit_of l limit start ≡ placed b → Settled (job_period l) (job_budget l) (job_count l) limit b × Assigned l b
unfolding fit_of order_by unassigned
fit_settled l limit start b f q =
    let fresh : Fresh (job_count l) (rotate start ring) unassigned = record { free = rotate_each start ring _ (each_of ring (λ i m. (m.0, get_or-replicate 64 i 255 0 (omega (arith, m.0, f.count)))) (order_members key (λ i. 0) 0 (job_count l))); once = rotate_once start ring (rising_differ key ring (order_rising key (λ i. 0) 0 (job_count l))) } in
    let (s, each, keep) = walked (job_period l) (job_budget l) (job_count l) limit f.limit_max f.count f.period (λ i h. (f.budget i h).1) (rotate start ring) unassigned b (start_settled) fresh q in
    (s, record { few = omega (arith, s.few, f.limit_max); core = λ i h. each_occurs _ i ring (order_holds key (λ i. 0) 0 (job_count l) i h refl) (each_rotate start ring _ each) })
  where
    key : ℕ → ℕ
    key = key_of Ring (job_period l)

    ring : List ℕ
    ring = order_by Ring (job_period l) (job_count l)

    start_settled : Settled (job_period l) (job_budget l) (job_count l) limit unassigned
    start_settled = begin (job_period l) (job_budget l) (job_count l) limit f.limit_max f.count f.period (λ i h. (f.budget i h).1)
