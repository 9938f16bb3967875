-- The checker accepts the sheet of the other version of an accepted one; and a version 2 sheet is accepted exactly when it is in order and
-- its version 1 sheet is accepted.
-- Assumes nothing.
use Prim.Native.Nat.{ℕ, ◌+◌, ◌*◌, ◌<◌}
use mathlib.Core.Path.{◌≡◌, refl, sym, ap, ◌∙◌}
use mathlib.Core.Logic.{◌↔◌, ◌⊎◌, inl, inr}
use mathlib.Core.Bool.{true, false, true≢false}
use mathlib.Core.List.{List}
use native.Mathlib.Omega.{arith}
use lib.ListN.{get_or, drop}
use lib.Seq.{get_or-drop}
use Rattle.sheet.specs.Records.{number_at, task_count, core_count}
use Rattle.sheet.specs.Views.{version, is_grouped, is_stroked, position_of, position_of_number, by_position, figures}
use Rattle.views.specs.Order.{EachOnce}
use Rattle.views.specs.Renamed.{Agree}
use Rattle.views.proofs.ByNumber.{position_number}
use Rattle.checker.specs.Verdict.{accepted, verdict}
use Rattle.checker.specs.Accepted.{Framed, SparesZero, Fitting, OrderKept, Acceptable}
use Rattle.checker.proofs.Acceptance.{accepted_exactly}
use Rattle.checker.proofs.Views.{agree_fits, position_in, views_fit}
use Rattle.mover.specs.Moved.{Layout, laid_out, layout1, layout2, version1, version2}
use Rattle.mover.proofs.Fields.{laid_mark, laid_version, laid_tasks, laid_cores, laid_spare, laid_length, laid_task_spare, laid_count, laid_core_spare}
use Rattle.mover.proofs.Agreeing.{version1_ungrouped, version1_unstroked, version1_agree, grouped_unstroked, ungrouped_figures, version2_order, version2_agree, grouping_below}

-- the frame of a sheet that is laid out anew
laid_framed : (y : Layout) (s : List ℕ) → (y.version ≡ 1) ⊎ (y.version ≡ 2) → Framed s → Framed (laid_out y s)
laid_framed y s v h = record {
  mark = let (a, b, c) = laid_mark y s in (a ∙ h.mark.0, b ∙ h.mark.1, c ∙ h.mark.2);
  version = by v;
  tasks = rw (laid_tasks y s) h.tasks;
  cores = rw (laid_cores y s) h.cores;
  size = rw (laid_tasks y s, laid_cores y s) (laid_length y s);
}
  where
    by : (y.version ≡ 1) ⊎ (y.version ≡ 2) → (version (laid_out y s) ≡ 1) ⊎ ((version (laid_out y s) ≡ 2) ⊎ (version (laid_out y s) ≡ 3))
    by (inl e) = inl (laid_version y s ∙ e)
    by (inr e) = inr (inl (laid_version y s ∙ e))

-- a byte of a core record, in the part from byte 8 and in the part after the last task
pub core_part : (s : List ℕ) (k b : ℕ) → get_or (drop 8 s) (10 * task_count s + 8 * k + b) 0 ≡ get_or (drop (10 * task_count s) (drop 8 s)) (8 * k + b) 0
core_part s k b =
    let z : 10 * task_count s + 8 * k + b ≡ 10 * task_count s + (8 * k + b) = omega arith in
    rw z (sym (get_or-drop (10 * task_count s) (drop 8 s) (8 * k + b) 0))

-- its spare bytes are zero where those of the sheet are
module _ (y : Layout) (s : List ℕ) where
  core_same : (k : ℕ) → k < core_count s → get_or (drop 8 (laid_out y s)) (10 * task_count (laid_out y s) + 8 * k + 3) 0 ≡ get_or (drop 8 s) (10 * task_count s + 8 * k + 3) 0
  core_same k h = core_part (laid_out y s) k 3 ∙ rw (laid_tasks y s) (laid_core_spare y s k h) ∙ sym (core_part s k 3)

  laid_spares : is_stroked s ≡ false → ((i : ℕ) → i < task_count s → y.from i < task_count s) → (is_grouped (laid_out y s) ≡ false → (k : ℕ) → y.count k ≡ 0) → SparesZero s → SparesZero (laid_out y s)
  laid_spares u inside zeros h = record {
    header = laid_spare y s ∙ h.header;
    tasks = λ e i b. let q : i < task_count s = rw (laid_tasks y s) at b in laid_task_spare y s i q ∙ h.tasks u (y.from i) (inside i q);
    cores = λ k b. let q : k < core_count s = rw (laid_cores y s) at b in (
      (λ g. core_part (laid_out y s) k 2 ∙ rw (laid_tasks y s) (laid_count y s k q) ∙ zeros g k),
      core_same k q ∙ (h.cores k q).1,
    );
  }

-- from version 2 to version 1
module _ (s : List ℕ) (g : is_grouped s ≡ true) (o : OrderKept (is_grouped s) (is_stroked s) (task_count s) (core_count s) (drop 8 s)) where
  numbers_once : EachOnce (number_at (drop 8 s)) (task_count s)
  unfolding OrderKept
  numbers_once = (o g).numbers

  positions : position_of_number (is_grouped s) (task_count s) (drop 8 s) ≡ position_of (number_at (drop 8 s)) (task_count s)
  positions = ap (λ b. position_of_number b (task_count s) (drop 8 s)) g

  pub inside : (i : ℕ) → i < task_count s → position_of_number (is_grouped s) (task_count s) (drop 8 s) i < task_count s
  inside = position_in (is_grouped s) (is_stroked s) (task_count s) (core_count s) (drop 8 s) o

  pub own : (j : ℕ) → j < task_count s → position_of_number (is_grouped s) (task_count s) (drop 8 s) (number_at (drop 8 s) j) ≡ j
  own j h = ap (λ (q : ℕ → ℕ). q (number_at (drop 8 s) j)) positions ∙ position_number (number_at (drop 8 s)) (task_count s) numbers_once j h

  spares_to : SparesZero s → SparesZero (version1 s)
  unfolding version1
  spares_to h = laid_spares (layout1 s) s (grouped_unstroked s g) inside (λ e k. refl) h

  spares_back : SparesZero (version1 s) → SparesZero s
  unfolding version1
  spares_back h = record {
    header = sym (laid_spare (layout1 s) s) ∙ h.header;
    tasks = λ u j b. let i : ℕ = number_at (drop 8 s) j in let q : i < task_count s = numbers_once.below j b in
        ap (λ x. get_or (drop 8 s) (10 * x + 5) 0) (sym (own j b)) ∙ sym (laid_task_spare (layout1 s) s i q) ∙ h.tasks (version1_unstroked s) i (rw (laid_tasks (layout1 s) s) q);
    cores = λ k b. (
      (λ e. absurd (true≢false (sym g ∙ e))),
      sym (core_same (layout1 s) s k b) ∙ (h.cores k (rw (laid_cores (layout1 s) s) b)).1,
    );
  }

  fits_to : Fitting (by_position s) ↔ Fitting (by_position (version1 s))
  fits_to =
      let a = views_fit s o in
      let b = agree_fits (figures s) (by_position (version1 s)) (version1_agree s (grouped_unstroked s g)) in
      ((λ t. b.0 (a.0 t)), (λ t. a.1 (b.1 t)))

  pub to_version1 : Acceptable s → Acceptable (version1 s)
  unfolding version1 OrderKept
  to_version1 h = record {
    frame = laid_framed (layout1 s) s (inl refl) h.frame;
    spares = spares_to h.spares;
    order = λ e. absurd (true≢false (sym e ∙ version1_ungrouped s));
    fitting = fits_to.0 h.fitting;
  }

  from_version1 : Framed s → Acceptable (version1 s) → Acceptable s
  from_version1 f h = record { frame = f; spares = spares_back h.spares; order = o; fitting = fits_to.1 h.fitting }

pub version1_counts : (s : List ℕ) → (task_count (version1 s) ≡ task_count s) × (core_count (version1 s) ≡ core_count s)
unfolding version1
version1_counts s = (laid_tasks (layout1 s) s, laid_cores (layout1 s) s)

-- A version 2 sheet is accepted exactly when it has its frame, is in order, and the version 1 sheet with the same tasks, cores and spare
-- bytes is accepted.
pub grouped_exactly : (s : List ℕ) (n c : ℕ) → is_grouped s ≡ true → (verdict s ≡ accepted n c) ↔ (Framed s × OrderKept (is_grouped s) (is_stroked s) (task_count s) (core_count s) (drop 8 s) × (verdict (version1 s) ≡ accepted n c))
grouped_exactly s n c g = (to, back)
  where
    to : verdict s ≡ accepted n c → Framed s × OrderKept (is_grouped s) (is_stroked s) (task_count s) (core_count s) (drop 8 s) × (verdict (version1 s) ≡ accepted n c)
    to v =
        let (a, en, ec) = (accepted_exactly s n c).0 v in
        (a.frame, a.order, (accepted_exactly (version1 s) n c).1 (to_version1 s g a.order a, en ∙ sym (version1_counts s).0, ec ∙ sym (version1_counts s).1))

    back : Framed s × OrderKept (is_grouped s) (is_stroked s) (task_count s) (core_count s) (drop 8 s) × (verdict (version1 s) ≡ accepted n c) → verdict s ≡ accepted n c
    back t =
        let (a, en, ec) = (accepted_exactly (version1 s) n c).0 t.2 in
        (accepted_exactly s n c).1 (from_version1 s g t.1 t.0 a, en ∙ (version1_counts s).0, ec ∙ (version1_counts s).1)

-- The same of any sheet t of version 1 with the counts and figures of s, whose spare bytes are zero where those of s are.
pub alike_exactly : (s t : List ℕ) (n c : ℕ) → is_grouped s ≡ true → is_grouped t ≡ false → Framed s → Framed t → Agree (figures s) (figures t) → SparesZero s ↔ SparesZero t → (verdict s ≡ accepted n c) ↔ (OrderKept (is_grouped s) (is_stroked s) (task_count s) (core_count s) (drop 8 s) × (verdict t ≡ accepted n c))
unfolding OrderKept
alike_exactly s t n c g u f h a p = (to, back)
  where
    fits : OrderKept (is_grouped s) (is_stroked s) (task_count s) (core_count s) (drop 8 s) → Fitting (by_position s) ↔ Fitting (by_position t)
    fits o =
        let x = views_fit s o in
        let y = agree_fits (figures s) (figures t) a in
        let z : figures t ≡ by_position t = ungrouped_figures t u in
        ((λ q. rw z at (y.0 (x.0 q))), (λ q. x.1 (y.1 (rw z q))))

    to : verdict s ≡ accepted n c → OrderKept (is_grouped s) (is_stroked s) (task_count s) (core_count s) (drop 8 s) × (verdict t ≡ accepted n c)
    to v =
        let (q, en, ec) = (accepted_exactly s n c).0 v in
        (q.order, (accepted_exactly t n c).1 (record { frame = h; spares = p.0 q.spares; order = λ e. absurd (true≢false (sym e ∙ u)); fitting = (fits q.order).0 q.fitting }, en ∙ sym a.tasks, ec ∙ sym a.cores))

    back : OrderKept (is_grouped s) (is_stroked s) (task_count s) (core_count s) (drop 8 s) × (verdict t ≡ accepted n c) → verdict s ≡ accepted n c
    back w =
        let (q, en, ec) = (accepted_exactly t n c).0 w.1 in
        (accepted_exactly s n c).1 (record { frame = f; spares = p.1 q.spares; order = w.0; fitting = (fits w.0).1 q.fitting }, en ∙ a.tasks, ec ∙ a.cores)

-- from version 1 to version 2
module _ (s : List ℕ) (ungrouped : is_grouped s ≡ false) (unstroked : is_stroked s ≡ false) (h : Acceptable s) where
  pub to_version2 : Acceptable (version2 s)
  unfolding version2
  to_version2 = record {
    frame = laid_framed (layout2 s) s (inr refl) h.frame;
    spares = laid_spares (layout2 s) s unstroked (grouping_below s ungrouped h.fitting.tasks.core) (λ e k. absurd (true≢false (sym (rw (laid_version (layout2 s) s) refl) ∙ e))) h.spares;
    order = version2_order s ungrouped h.fitting.tasks.core;
    fitting = fitting;
  }
    where
      fitting : Fitting (by_position (laid_out (layout2 s) s))
      fitting = (views_fit (version2 s) (version2_order s ungrouped h.fitting.tasks.core)).1 ((agree_fits (figures s) (figures (version2 s)) (version2_agree s ungrouped h.fitting.tasks.core unstroked)).0 (rw (ungrouped_figures s ungrouped) h.fitting))
