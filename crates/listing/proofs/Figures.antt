-- The figures of an accepted sheet as the listing shows them: within and load fit, and the code finds the load that the definition says.
-- Assumes nothing.
use Prim.Native.Nat.{ℕ, ◌+◌, ◌-◌, ◌*◌, ◌/◌, ◌≤◌, ◌<◌, min}
use mathlib.Core.Path.{◌≡◌, ap, ◌∙◌}
use mathlib.Core.List.{List}
use native.Mathlib.Omega.{arith}
use native.Mathlib.Nat.{le_trans, mul-le-mul, mul-pos, div-le_of_le-mul}
use borrow.Author.Tests.{le-leb}
use lib.ListN.{length, take, drop}
use mir.Syntax.{w8, w32}
use mir.Val.{Fits}
use Rattle.sheet.specs.Records.{Figures}
use Rattle.fit.specs.declared.Break.{Break}
use Rattle.std.specs.Prelude.{Result, Ok, Err}
use Rattle.fit.specs.Lists.{Each, at}
use Rattle.fit.specs.Priority.{order}
use Rattle.fit.specs.Fits.{last_factor, load, within}
use Rattle.fit.specs.Answers.{Column, chain_answer, chained, load_in_range}
use Rattle.fit.proofs.Lists.{each_of, padded_length}
use Rattle.fit.proofs.Priority.{order_members, order_count, order_ext}
use Rattle.fit.proofs.Levels.{multiples_chain, load_last, last_positive, within_period}
use Rattle.fit.proofs.Blocking.{levels_full}
use Rattle.fit.specs.Cores.{order_on}
use Rattle.order.specs.Cores.{on_cores, ByCore, end_on}
use Rattle.order.proofs.Cutting.{cut_start, cut_end, cut_part, cut_rises, cut_inside}
use Rattle.checker.specs.Accepted.{Fitting, LoadAtMostOne}
use Rattle.listing.specs.Listing.{thousandths, load_of}

-- within is at most the period
module _ (f : Figures) (i k : ℕ) (g : Fitting f) (h : i < f.tasks) (e : k ≡ f.core i) where
  pub within_divisor : (d : ℕ) → d ≡ f.divisor k → 0 < d
  within_divisor d t = rw (t, e) (g.cores.divisor (f.core i) (g.tasks.core i h)).0

  pub within_small : (q m d : ℕ) → q ≡ f.pivot k → m ≡ f.factor i → d ≡ f.divisor k → within q d m ≤ 60000
  within_small q m d eq em ed =
      rw (ed, eq, em, e)
      (le_trans (within_period (f.pivot (f.core i)) (f.divisor (f.core i)) (f.factor i) (f.period i) (g.cores.accelerated i h)) (g.tasks.period i h).1)

pub within_found : (q m d x : ℕ) → x ≡ q * m → x / d ≡ within q d m
unfolding within
within_found q m d x e = rw e

pub within_cast : (q m d x : ℕ) → x ≡ q * m → within q d m ≤ 60000 → Fits w32 (x / d)
within_cast q m d x e h = record { fits = omega (arith, within_found q m d x e) }

-- a quotient of at most 1001 fits
pub quotient_cast : (x full : ℕ) → x ≤ full * 1001 → Fits w32 (x / full)
quotient_cast x full h = record { fits = omega (arith, div-le_of_le-mul full h) }

-- the factors of a core's tasks are positive, and the last one is in range
module _ (f : Figures) (k : ℕ) (g : Fitting f) where
  pub factors_above : Each (λ i. 0 < f.factor i) (order_on f k)
  unfolding order_on
  factors_above = each_of _ (λ i m. (g.cores.factor i m.0).0) (order_members f.period f.core k f.tasks)

  last_small : last_factor f.factor 1 (order_on f k) ≤ 120000
  unfolding order_on
  last_small = load_last f.factor 120000 1 _ (omega arith) (each_of _ (λ i m. (g.cores.factor i m.0).1) (order_members f.period f.core k f.tasks))

  pub last_above : 0 < last_factor f.factor 1 (order_on f k)
  last_above = last_positive f.factor 1 _ (omega arith) factors_above

-- the part of core k begins at place a of the list of all cores, which is made by a column of the periods
pub record Begins (f : Figures) (periods list : List ℕ) (k a : ℕ) : Type 0 where
  pub size : length list ≡ 64
  pub all : ByCore (at periods) f.core (min f.tasks 64) list
  pub start : a ≡ length (on_cores (at periods) f.core k (min f.tasks 64))

pub begins_first : (f : Figures) (periods list : List ℕ) → ByCore (at periods) f.core (min f.tasks 64) list → Begins f periods list 0 0
begins_first f periods list b = record { size = rw b.same (padded_length _ (omega (arith, b.whole))); all = b; start = cut_start (at periods) f.core (min f.tasks 64) }

module _ (f : Figures) (periods list : List ℕ) (k a end : ℕ) (b : Begins f periods list k a) (e : end ≡ end_on f.core k list a (min f.tasks 64)) (q : k < f.cores) (m : Fits w8 f.cores) where
  h : k < 256
  h = omega (arith, m.fits)

  pub part_rises : a ≤ end
  part_rises = rw e (cut_rises (at periods) f.core (min f.tasks 64) k a list (omega arith) h b.all b.start)

  pub part_inside : end ≤ length list
  part_inside = rw (b.size, e) (le_trans (cut_inside (at periods) f.core (min f.tasks 64) k a list (omega arith) h b.all b.start) (omega arith))

  pub begins_next : Begins f periods list (k + 1) end
  begins_next = record { size = b.size; all = b.all; start = e ∙ cut_end (at periods) f.core (min f.tasks 64) k a list (omega arith) h b.all b.start }

  pub part_order : f.tasks ≤ 64 → Column f.period (min f.tasks 64) periods → take (end - a) (drop a list) ≡ order_on f k
  unfolding order_on
  part_order few p =
      let all : min f.tasks 64 ≡ f.tasks = omega arith in
      ap (λ x. take (x - a) (drop a list)) e ∙ cut_part (at periods) f.core (min f.tasks 64) k a list (omega arith) h b.all b.start
      ∙ order_ext (at periods) f.period f.core k _ p.below ∙ ap (order f.period f.core k) all

-- the order of a core
module _ (f : Figures) (k : ℕ) (list : List ℕ) (chain : Result ℕ Break) (g : Fitting f) (n : f.tasks ≤ 64) (h : k < f.cores) (s : list ≡ order_on f k) (e : chain ≡ chained f.factor list) where
  whole : chain ≡ Ok (last_factor f.factor 1 (order_on f k))
  unfolding chained chain_answer
  whole = e ∙ rw (s, multiples_chain f.factor 1 (order_on f k) (g.fits.simply_periodic k h))

  short : length (order_on f k) ≤ 64
  unfolding order_on
  short = le_trans (order_count f.period f.core k f.tasks) n

  -- no chain of factors is broken
  pub no_break : (b : Break) → chain ≡ Err b → ⊥
  no_break b q = cc whole

  module _ (last : ℕ) (w : chain ≡ Ok last) where
    is_last : last ≡ last_factor f.factor 1 (order_on f k)
    is_last = cc whole

    module _ (d r : ℕ) (ed : d ≡ f.divisor k) (t : r ≡ load_in_range f.budget f.factor d last list) where
      found : r ≡ load f.budget f.factor (f.divisor k) (last_factor f.factor 1 (order_on f k)) (order_on f k)
      unfolding load_in_range
      found =
          t ∙ rw (ed, s, is_last, le-leb (f.divisor k) 120000 (g.cores.divisor k h).1, le-leb _ 120000 (last_small f k g), le-leb _ 64 short)

      -- the load is at most full, and full is in range
      module _ (q full : ℕ) (eq : q ≡ f.pivot k) (ef : full ≡ q * last) where
        pub full_positive : 0 < full
        full_positive =
            let a : 0 < q = rw eq (g.cores.pivot k h).0 in
            rw (ef, is_last) (mul-pos a (last_above f k g))

        pub load_full : r ≤ full
        unfolding LoadAtMostOne
        load_full = rw (ef, eq, is_last, found) (levels_full _ _ _ _ _ _ (g.fits.load k h))

        pub full_range : full ≤ 7200000000
        full_range =
            let b : q ≤ 60000 = rw eq (g.cores.pivot k h).1 in
            let l : last ≤ 120000 = rw is_last (last_small f k g) in
            let c : q * last ≤ 60000 * 120000 = mul-le-mul b l in
            rw ef c

        pub load_found : (x : ℕ) → x ≡ thousandths r full → x ≡ load_of f k
        unfolding load_of
        load_found x ex = ex ∙ rw (ef, eq, found, is_last)
