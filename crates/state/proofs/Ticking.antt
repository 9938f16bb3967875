-- The pass of a tick over a state's tasks, which tests its form, sets the pending marks and makes each task older; and what the tick answers.
-- Assumes nothing.
use Prim.Native.Nat.{ℕ, ◌+◌, ◌-◌, ◌≤◌, ◌<◌}
use mathlib.Core.Path.{◌≡◌, refl, sym, ap, ◌∙◌}
use mathlib.Core.Bool.{Bool, true, false}
use mathlib.Core.List.{List, ◌++◌, map}
use native.Mathlib.Omega.{arith}
use lib.ListN.{length, take, drop, set, replicate, length-replicate, length-map}
use lib.Seq.{get_or-take}
use Rattle.std.proofs.lemmas.List.{drop-replicate}
use Rattle.std.specs.Prelude.{Ok}
use Rattle.fit.specs.Lists.{place_of, padded}
use Rattle.fit.proofs.Overwriting.{overwritten, over_at, over_turn, over_end}
use Rattle.timing.specs.declared.Task.{Task}
use Rattle.timing.specs.Tasks.{used, older}
use Rattle.timing.specs.Calls.{tick, turn, stroke_ticked}
use Rattle.timing.specs.Serving.{no_task, nth}
use Rattle.timing.proofs.First.{turn_free}
use Rattle.marks.specs.Words.{mark, marked, marks_of}
use Rattle.marks.proofs.Gathering.{marks_place}
use Rattle.state.specs.declared.Core.{Core}
use Rattle.state.specs.declared.Reply.TheVariants.{Served, Idle}
use Rattle.state.specs.declared.form.Pass.{Pass}
use Rattle.state.specs.State.{tasks_of, stroke_in, with_state, foreign}
use Rattle.state.specs.Operations.{Operation}
use Rattle.state.specs.Steps.{breaks, begun, after, ends_foreign, changed, with_stroke}
use Rattle.state.proofs.Pass.{PassedIn, passed_begun, pass_turn, pass_breaks, pass_told, pass_place}
use Rattle.state.proofs.Outcomes.{aged_state, tick_in_form, tick_idles, aged_left, serve_ticks}

-- a state with the first i of its tasks older
abbrev pub aged_to : Core → ℕ → Core
aged_to s i = record { count = s.count; tasks = overwritten older (tasks_of s) s.tasks i; stroke_task = s.stroke_task; stroke_left = s.stroke_left }

-- after i tasks: the first i are older, none of them broke the form, and their marks are set
pub record Ticking (s : Core) (i : ℕ) (next : Core) (marks : List ℕ) (p : Pass) : Type 0 where
  pub room : length s.tasks ≡ 64
  pub passed : PassedIn s (tasks_of s) i p
  pub aged : next ≡ aged_to s i
  pub filled : marks ≡ overwritten mark (tasks_of s) (replicate 64 0) i

pub ticking_start : (s : Core) (p : Pass) → length s.tasks ≡ 64 → s.count ≤ 64 → p ≡ begun s.stroke_task s.stroke_left → Ticking s 0 s (replicate 64 0) p
ticking_start s p room h e = record { room = room; passed = passed_begun s (tasks_of s) p room (omega arith) refl e; aged = refl; filled = refl }

module _ (s : Core) (i : ℕ) (next : Core) (marks : List ℕ) (p : Pass) (h : i < s.count) (b : Ticking s i next marks p) (r : Bool) (e : r ≡ breaks p.last (nth next.tasks i)) where
  within : i < length (tasks_of s)
  within = omega (arith, b.passed.many)

  space : i < length s.tasks
  space = omega (arith, b.room, b.passed.few)

  -- the task at place i is not changed yet
  same : nth next.tasks i ≡ nth (tasks_of s) i
  same = ap (λ u. nth u.tasks i) b.aged ∙ over_at older (tasks_of s) s.tasks i no_task within space ∙ sym (get_or-take s.count s.tasks i no_task h)

  told : r ≡ breaks p.last (nth (tasks_of s) i)
  told = e ∙ ap (breaks p.last) same

  pub ticking_breaks : r ≡ true → true ≡ foreign s
  ticking_breaks x = pass_breaks s (tasks_of s) i p within b.passed r told x

  pub ticking_turn : (q : Pass) (m : ℕ) (u : Task) → r ≡ false → q ≡ after i p (nth next.tasks i) → m ≡ mark (nth next.tasks i) → u ≡ older (nth next.tasks i) → Ticking s (i + 1) (changed next i u) (set marks i m) q
  ticking_turn q m u x y z w = record {
    room = b.room;
    passed = pass_turn s (tasks_of s) i p within b.passed r told q x (y ∙ ap (after i p) same);
    aged = rw (w, same, b.aged) (ap (λ t. record { count = s.count; tasks = t; stroke_task = s.stroke_task; stroke_left = s.stroke_left }) (over_turn older (tasks_of s) s.tasks i no_task within space));
    filled = rw (z, same, b.filled) (over_turn mark (tasks_of s) (replicate 64 0) i no_task within (simp length-replicate (omega (arith, b.passed.few))));
  }

-- the place of the task that has the tick, as the code comes by it: that of the stroke's task where a stroke lasts, else from the marks
pub data Chosen (s : Core) (marks : List ℕ) (p : Pass) (f : ℕ) : Type 0 where
  inside : 0 < s.stroke_left → f ≡ p.place → Chosen s marks p f
  outside : s.stroke_left ≤ 0 → f ≡ place_of marked (take s.count marks) → Chosen s marks p f

-- after all tasks
module _ (s : Core) (i : ℕ) (next : Core) (marks : List ℕ) (p : Pass) (h : i ≤ s.count) (k : s.count ≤ i) (b : Ticking s i next marks p) where
  many : length (tasks_of s) ≡ s.count
  many = b.passed.many

  all : i ≡ length (tasks_of s)
  all = omega (arith, many)

  -- the array holds the marks of the state's tasks
  pub all_marks : marks ≡ marks_of (tasks_of s)
  unfolding marks_of padded
  all_marks = b.filled ∙ over_end mark (tasks_of s) (replicate 64 0) i all ∙ ap (λ t. map mark (tasks_of s) ++ t) (drop-replicate (length (tasks_of s)) 64 0) ∙ ap (λ n. map mark (tasks_of s) ++ replicate (64 - n) 0) (sym (length-map (tasks_of s) mark))

  older_state : next ≡ aged_state s
  unfolding with_state
  older_state = b.aged ∙ ap (λ t. record { count = s.count; tasks = t; stroke_task = s.stroke_task; stroke_left = s.stroke_left }) (over_end older (tasks_of s) s.tasks i all ∙ ap (λ n. map older (tasks_of s) ++ drop n s.tasks) many)

  -- the test of the form at the end
  module _ (v : Bool) (e : v ≡ ends_foreign p s.count) where
    told_foreign : v ≡ foreign s
    told_foreign = pass_told s (tasks_of s) i p (omega (arith, many)) b.passed v e

    pub ticking_foreign : v ≡ true → true ≡ foreign s
    ticking_foreign x = sym x ∙ told_foreign

    -- in form, and the place that was chosen
    module _ (x : v ≡ false) (f : ℕ) (d : Chosen s marks p f) where
      in_form : foreign s ≡ false
      in_form = sym told_foreign ∙ x

      place : f ≡ place_of (turn (stroke_in s)) (tasks_of s)
      place = go d
        where
          go : Chosen s marks p f → f ≡ place_of (turn (stroke_in s)) (tasks_of s)
          go (inside m y) = y ∙ pass_place s (tasks_of s) i p (omega (arith, many)) b.passed in_form m
          go (outside m y) =
              let none : s.stroke_left ≡ 0 = omega (arith, m) in
              y ∙ ap (λ m. place_of marked (take s.count m)) all_marks ∙ marks_place (tasks_of s) s.count many ∙ ap (λ q. place_of q (tasks_of s)) (sym (turn_free (stroke_in s) none))

      pub ticking_idles : s.count ≤ f → Operation tick s (record { answer = Ok Idle; core = next })
      ticking_idles g = tick_in_form s in_form _ (tick_idles s b.passed.few b.room f place next older_state g)

      module _ (g : f < s.count) where
        pub ticking_left : 1 ≤ (nth next.tasks f).left
        ticking_left = aged_left s b.passed.few b.room f place next older_state g

        pub ticking_serves : (n : ℕ) (w : Core) → n ≡ (nth next.tasks f).number → w ≡ with_stroke (changed next f (used (nth next.tasks f))) (stroke_ticked (stroke_in next) (nth next.tasks f)) → Operation tick s (record { answer = Ok (Served n); core = w })
        ticking_serves n w y z = tick_in_form s in_form _ (serve_ticks s b.passed.few b.room f place next older_state g n w y z)
