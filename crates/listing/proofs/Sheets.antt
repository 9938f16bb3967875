-- The text of any bytes, as the code writes it: the parts of an accepted sheet hold its figures, and each way out gives the answer.
-- Assumes nothing.
use Prim.Native.Nat.{ℕ, ◌+◌, ◌-◌, ◌*◌, ◌≤◌, ◌<◌, min}
use mathlib.Core.Path.{◌≡◌, refl, sym, ap, ap₂, subst, ◌∙◌}
use mathlib.Core.Bool.{Bool}
use mathlib.Core.List.{List, ◌++◌}
use native.Mathlib.Omega.{arith}
use native.Mathlib.Nat.{zero-add}
use borrow.Author.Tests.{lt-ltb, le-ltb}
use lib.ListN.{length, take, drop, length-drop}
use Rattle.sheet.specs.Refusals.{number_of}
use Rattle.sheet.specs.Numbers.{word}
use Rattle.sheet.specs.Records.{Figures, figures_with, task_count, core_count}
use Rattle.sheet.specs.Views.{is_grouped, is_stroked, core_of_position, stroke_of_position, position_of_number, number_of_position, renumbered, by_position, figures}
use Rattle.fit.specs.Lists.{numbers, at, joined, over}
use Rattle.fit.specs.Answers.{Column}
use Rattle.views.specs.Renamed.{Agree}
use Rattle.views.proofs.Renamed.{agree_renamed}
use Rattle.std.specs.Prelude.{Result, Ok, Err}
use Rattle.sheet.specs.declared.Rejection.{Rejection}
use Rattle.checker.specs.declared.Counts.{Counts}
use Rattle.checker.specs.Accepted.{Acceptable, Fitting}
use Rattle.checker.specs.Verdict.{accepted, verdict, outcome_of}
use Rattle.checker.proofs.Acceptance.{accepted_exactly}
use Rattle.checker.proofs.Views.{agree_fits, position_in, sheet_renamed, views_fit}
use Rattle.fit.proofs.Lists.{part}
use Rattle.listing.specs.Listing.{header_line, task_line, core_line, sheet_text, refused_line, text_of, listing_of}
use Rattle.listing.specs.Steps.{Put, Capped}
use Rattle.listing.specs.Answers.{written, refused, listed, holding}
use Rattle.listing.proofs.Writing.{put_join}
use Rattle.listing.proofs.Agree.{cores_renamed, tasks_agree}

-- the text of an accepted sheet
pub accepted_text : (s : List ℕ) (n c : ℕ) → verdict s ≡ accepted n c → listing_of s ≡ sheet_text (word s 3) (figures s)
unfolding listing_of text_of
accepted_text s n c e = rw e

module _ (s : List ℕ) (n c : ℕ) (v : verdict s ≡ accepted n c) where
  good : Acceptable s
  good = ((accepted_exactly s n c).0 v).0

  tasks_same : n ≡ task_count s
  tasks_same = ((accepted_exactly s n c).0 v).1

  cores_same : c ≡ core_count s
  cores_same = ((accepted_exactly s n c).0 v).2

  pub tasks_few : n ≤ 64
  tasks_few = rw tasks_same good.frame.tasks

  cores_few : c ≤ 8
  cores_few = rw cores_same good.frame.cores

  pub sheet_long : 8 ≤ length s
  sheet_long = omega (arith, good.frame.size)

  -- the parts of the sheet that hold its records
  abbrev tasks : List ℕ
  tasks = take (length s - 8) (drop 8 s)

  task_part : tasks ≡ drop 8 s
  task_part = part s 8

  abbrev cores : ℕ → List ℕ
  cores m = take (length tasks - 10 * m) (drop (10 * m) tasks)

  pub tasks_long : (m : ℕ) → m ≡ n → 10 * m ≤ length tasks
  tasks_long m e = rw (task_part, length-drop 8 s, e, tasks_same) (omega (arith, good.frame.size))

  -- with the cores by position and the positions by task number they hold its figures
  module _ (grouped stroked : Bool) (m : ℕ) (on positions : List ℕ) (version-same : grouped ≡ is_grouped s) (strokes-same : stroked ≡ is_stroked s) (size-same : m ≡ n) (cs : Column (core_of_position grouped c tasks (cores m)) (min n 64) on) (ps : Column (position_of_number grouped (min n 64) tasks) (min n 64) positions) where
    abbrev f : Figures
    f = figures_with (at on) (stroke_of_position stroked tasks) n c tasks (cores m)

    core_part : cores m ≡ drop (10 * task_count s) (drop 8 s)
    core_part = part tasks (10 * m) ∙ rw (task_part, size-same, tasks_same)

    positioned : Agree (by_position s) f
    positioned =
        record {
          tasks = tasks_same;
          cores = cores_same;
          period = λ i h. rw task_part;
          budget = λ i h. rw task_part;
          core = λ i h. cs.below i (omega (arith, tasks_same, tasks_few)) ∙ rw (core_part, task_part, version-same, cores_same);
          stroke = λ i h. rw (strokes-same, task_part);
          factor = λ i h. rw task_part;
          pivot = λ k h. rw core_part;
          divisor = λ k h. rw core_part;
        }

    position_same : (i : ℕ) → i < task_count s → at positions i ≡ position_of_number (is_grouped s) (task_count s) (drop 8 s) i
    position_same i h =
        let m : min n 64 ≡ task_count s = omega (arith, tasks_same, tasks_few) in
        ps.below i (omega arith) ∙ rw (m, version-same, task_part)

    position_inside : (i : ℕ) → i < task_count s → at positions i < task_count s
    position_inside i h = rw (position_same i h) (position_in (is_grouped s) (is_stroked s) (task_count s) (core_count s) (drop 8 s) good.order i h)

    numbered : Agree (figures s) (renumbered (at positions) f)
    numbered =
        record {
          tasks = tasks_same;
          cores = cores_same;
          period = λ i h. positioned.period (at positions i) (position_inside i h) ∙ ap (by_position s).period (position_same i h);
          budget = λ i h. positioned.budget (at positions i) (position_inside i h) ∙ ap (by_position s).budget (position_same i h);
          core = λ i h. positioned.core (at positions i) (position_inside i h) ∙ ap (by_position s).core (position_same i h);
          stroke = λ i h. positioned.stroke (at positions i) (position_inside i h) ∙ ap (by_position s).stroke (position_same i h);
          factor = λ i h. positioned.factor (at positions i) (position_inside i h) ∙ ap (by_position s).factor (position_same i h);
          pivot = positioned.pivot;
          divisor = positioned.divisor;
        }

    pub sheet_fitting : Fitting f
    sheet_fitting = (agree_fits (by_position s) f positioned).0 good.fitting

    pub sheet_positions : (i : ℕ) → i < n → at positions i < n
    sheet_positions i h = rw tasks_same (position_inside i (rw tasks_same at h))

    tasks_text : joined (task_line (renumbered (at positions) f)) (numbers 0 n) ≡ joined (task_line (figures s)) (numbers 0 (task_count s))
    tasks_text = tasks_agree (figures s) (renumbered (at positions) f) numbered ((views_fit s good.order).0 good.fitting).tasks

    cores_text : joined (core_line f) (numbers 0 c) ≡ joined (core_line (figures s)) (numbers 0 (core_count s))
    cores_text =
        cores_renamed (by_position s) f (λ i. i) (agree_renamed (by_position s) f positioned)
        ∙ sym (cores_renamed (by_position s) (figures s) (number_of_position (is_grouped s) (drop 8 s)) (sheet_renamed s good.order))

    -- the text is the header, the tasks and the cores
    pub sheet_put : (version : ℕ) (out mid mid₂ new : List ℕ) (next next₂ after : ℕ) → version ≡ word s 3
        → Capped (76 * c) mid₂ next₂ (joined (core_line f) (numbers 0 c)) new after
        → Capped (114 * n) mid next (joined (task_line (renumbered (at positions) f)) (numbers 0 n)) mid₂ next₂
        → Capped 57 out 0 (header_line version n c) mid next
        → Capped 8192 out 0 (sheet_text (word s 3) (figures s)) new after
    unfolding sheet_text
    sheet_put version out mid mid₂ new next next₂ after ev r q p =
        let w : Put out 0 (header_line version n c ++ joined (task_line (renumbered (at positions) f)) (numbers 0 n) ++ joined (core_line f) (numbers 0 c)) new after = put_join r.put (put_join q.put p.put) in
        let header : header_line version n c ≡ header_line (word s 3) (task_count s) (core_count s) = rw (ev, tasks_same, cores_same) in
        record { put = subst (λ (t : List ℕ). Put out 0 t new after) (ap₂ ◌++◌ (ap₂ ◌++◌ header tasks_text) cores_text) w; cap = omega (arith, tasks_few, cores_few, p.cap, q.cap, r.cap) }

  -- there is room for the tasks behind the header, and for the cores behind the tasks
  module _ (out mid t : List ℕ) (next : ℕ) (room : 8192 ≤ length out) (k : length mid ≡ length out) (p : Capped 57 out 0 t mid next) where
    pub tasks_room : next + 114 * n ≤ length mid
    tasks_room = omega (arith, tasks_few, p.cap)

    pub cores_room : (mid₂ t₂ : List ℕ) (next₂ : ℕ) → length mid₂ ≡ length mid → Capped (114 * n) mid next t₂ mid₂ next₂ → next₂ + 76 * c ≤ length mid₂
    cores_room mid₂ t₂ next₂ k₂ q = omega (arith, tasks_few, cores_few, p.cap, q.cap)

-- the ways out: an output that is too short, and a text that is written
pub tight_out : (s out : List ℕ) → length out < 8192 → (refused 16 0 ≡ listed s out) × (out ≡ holding s out)
unfolding listed holding
tight_out s out h = (rw (lt-ltb (length out) 8192 h), rw (lt-ltb (length out) 8192 h))

module _ (s out new : List ℕ) (f : Result Counts (Rejection ℕ)) (after : ℕ) (h : 8192 ≤ length out) (v : outcome_of f ≡ verdict s) where
  written_out : (text : List ℕ) → listing_of s ≡ text → Put out 0 text new after → (written after ≡ listed s out) × (new ≡ holding s out)
  unfolding listed holding over
  written_out text e p =
      let l : after ≡ length text = p.next ∙ zero-add (length text) in
      (rw (le-ltb (length out) 8192 h, e) (ap written l), rw (le-ltb (length out) 8192 h, e) (rw l at p.bytes))

  pub refused_out : (r : Rejection ℕ) (number : ℕ) → f ≡ Err r → number ≡ number_of r.word → Capped 38 out 0 (refused_line number r.place) new after → (written after ≡ listed s out) × (new ≡ holding s out)
  unfolding listing_of text_of
  refused_out r number q k p = written_out (refused_line number r.place) (rw (← v, q, ← k) refl) p.put

  module _ (counts : Counts) (q : f ≡ Ok counts) where
    pub is_accepted_lem : verdict s ≡ accepted counts.tasks counts.cores
    is_accepted_lem = sym v ∙ ap outcome_of q

    pub accepted_out : Capped 8192 out 0 (sheet_text (word s 3) (figures s)) new after → (written after ≡ listed s out) × (new ≡ holding s out)
    accepted_out p = written_out _ (accepted_text s counts.tasks counts.cores is_accepted_lem) p.put
