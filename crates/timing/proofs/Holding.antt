-- What a tick does to one level, the first tasks by priority, and to what is held against it: inside a stroke it goes to the stroke's task, in
-- the level or below it, outside to the first pending task. Assumes nothing.
use Prim.Native.Nat.{ℕ, zero, suc, ◌+◌, ◌-◌, ◌≤◌, ◌<◌}
use mathlib.Core.Path.{◌≡◌, refl, sym, ap, subst, ◌∙◌}
use mathlib.Core.Logic.{◌⊎◌, inl, inr, ⊎_elim}
use mathlib.Core.Bool.{Bool, true, false, cond, false≢true}
use mathlib.Core.List.{List, [], ◌∷◌}
use native.Mathlib.Omega.{arith}
use lib.ListN.{length, take, drop, length-take}
use borrow.Author.Tests.{lt-ltb}
use Rattle.fit.specs.Lists.{Each}
use Rattle.fit.proofs.Lists.{each_of, each_take, each_at}
use Rattle.timing.specs.declared.Task.{Task}
use Rattle.timing.specs.Tasks.{pending, used}
use Rattle.timing.specs.Calls.{tick, modify, of_first, next_by, Stroke, no_stroke, turn, stroke_ticks, stroke_ticked, State, next_stroke}
use Rattle.timing.specs.Serving.{no_task, nth}
use Rattle.timing.specs.Strokes.{StrokeIs, StateForm}
use Rattle.timing.proofs.Rate.{sum_of}
use Rattle.timing.proofs.Lists.{zero_or_pos}
use Rattle.timing.proofs.Steps.{changed_tick, turn_pends}
use Rattle.timing.proofs.First.{turn_free}
use Rattle.timing.proofs.Level.{Level, work, work_used, work_hit, work_tick, level_none, level_less, level_served, level_held}
use Rattle.timing.proofs.Strokes.{lasting, ticked_cases, turn_named, turn_is, turn_other, ticks_lasting, ticks_most, task_of, held_by, held_most, held_inside, held_outside, named_or_not}

-- a level of a list, and work in it
front_nth : (n : ℕ) (s : List Task) (i : ℕ) → i < length (take n s) → nth (take n s) i ≡ nth s i
front_nth zero s i lt = absurd (omega arith)
front_nth (suc n) [] i lt = refl
front_nth (suc n) (t ∷ s) zero lt = refl
front_nth (suc n) (t ∷ s) (suc i) lt = front_nth n s i (omega arith)

work_place : (s : List Task) → 0 < work s → (i : ℕ) × (i < length s) × (0 < (nth s i).left)
unfolding sum_of
work_place [] p = absurd (omega arith)
work_place (t ∷ s) p = ⊎_elim (λ z. let r = work_place s (omega arith) in (suc r.0, omega (arith, r.1), r.2)) (λ h. (zero, omega arith, h)) (zero_or_pos t.left)

-- where a task of the level passes, the first of the whole list that passes stands in the level
front_first : {A : Type 0} (q : Task → Bool) (f : Task → A) (d : A) (n : ℕ) (s : List Task) (i : ℕ) → i < length (take n s) → q (nth (take n s) i) ≡ true → (m : ℕ) × (m < length (take n s)) × (of_first q f d s ≡ f (nth (take n s) m))
unfolding of_first
front_first q f d zero s i lt h = absurd (omega arith)
front_first q f d (suc n) [] i lt h = absurd (omega arith)
front_first q f d (suc n) (t ∷ s) i lt h = go (q t) refl i lt h (λ j. front_first q f d n s j)
  where
    go : (b : Bool) → q t ≡ b → (i : ℕ) → i < suc (length (take n s)) → q (nth (t ∷ take n s) i) ≡ true → ((j : ℕ) → j < length (take n s) → q (nth (take n s) j) ≡ true → (m : ℕ) × (m < length (take n s)) × (of_first q f d s ≡ f (nth (take n s) m))) → (m : ℕ) × (m < suc (length (take n s))) × (cond b (f t) (of_first q f d s) ≡ f (nth (t ∷ take n s) m))
    go true e i lt h r = (zero, omega arith, refl)
    go false e zero lt h r = absurd (false≢true (sym e ∙ h))
    go false e (suc i) lt h r = let x = r i (omega arith) h in (suc x.0, omega (arith, x.1), x.2)

-- a place of the list is one of the level, or behind it
in_front : (n : ℕ) (s : List Task) (i : ℕ) → i < length s → i < n → i < length (take n s)
in_front n s i lt h = omega (arith, length-take n s)

front_or_not : (i n : ℕ) → (i < n) ⊎ (n ≤ i)
front_or_not i n = ⊎_elim (λ z. inr (omega arith)) (λ p. inl (omega arith)) (zero_or_pos (n - i))

behind : (P : Task → Type 0) (n : ℕ) (s : List Task) (i : ℕ) → i < length s → n ≤ i → Each P (drop n s) → P (nth s i)
unfolding Each
behind P n [] i lt le h = absurd (omega arith)
behind P zero (t ∷ s) i lt le h = each_at P no_task (t ∷ s) i lt h
behind P (suc n) (t ∷ s) zero lt le h = absurd (omega arith)
behind P (suc n) (t ∷ s) (suc i) lt le h = behind P n s i (omega arith) (omega arith) h

-- where none passes nothing changes
modify_none : (q : Task → Bool) (g : Task → Task) (s : List Task) → Each (λ t. q t ≡ false) s → modify q g s ≡ s
unfolding modify Each
modify_none q g [] h = refl
modify_none q g (t ∷ s) h = rw h.0 (ap (λ l. t ∷ l) (modify_none q g s h.1))

-- What a tick does to one level: L is the first tasks of s, with bound v and blocking term b.
module _ (s : State) (f : StateForm s) (n v b : ℕ) where
  abbrev L : List Task
  L = take n s.tasks

  abbrev k' : Stroke
  k' = next_stroke tick s

  -- a stroke whose task stands in the level holds nothing against it
  no_more : (m : ℕ) → m < length L → (0 < k'.left → k'.task ≡ (nth L m).number) → held_by k' L ≤ 0
  no_more m lt e = ⊎_elim (λ z. omega (arith, held_most k' L, z)) (λ p. omega (arith, held_inside k' L m lt (sym (e p)))) (zero_or_pos k'.left)

  -- inside a stroke
  inside_left : 0 < s.stroke.left → (k'.left + 1 ≤ s.stroke.left) × (0 < k'.left → k'.task ≡ s.stroke.task)
  inside_left p = ticked_cases (λ k. (k.left + 1 ≤ s.stroke.left) × (0 < k.left → k.task ≡ s.stroke.task)) s f (omega arith, (λ h. absurd (omega arith))) (λ i lt e c m. (omega (arith, ticks_lasting s.stroke.left (nth s.tasks i) p), (λ h. turn_named s.stroke (nth s.tasks i) p e)))

  -- whose task stands in the level
  own_tick : 0 < s.stroke.left → (i : ℕ) → i < length L → (nth L i).number ≡ s.stroke.task → (held_by k' L ≤ held_by s.stroke L) × (Level v b (held_by s.stroke L) L → Level v b (held_by k' L) (next_by (turn s.stroke) tick L))
  own_tick p i lt e =
      let less : held_by k' L ≤ held_by s.stroke L = omega (arith, no_more i lt (λ h. (inside_left p).1 h ∙ sym e)) in
      let is : StrokeIs s.stroke (nth L i) = each_at _ no_task L i lt (each_take _ n s.tasks (lasting s f p)) e in
      let passes : turn s.stroke (nth L i) ≡ true = turn_is s.stroke (nth L i) p is in
      (less, (λ l. level_less v b _ _ _ less (level_served v b _ (turn s.stroke) L (λ x. work_hit (turn_pends s.stroke) i lt passes (changed_tick (turn s.stroke) used L)) l)))

  -- or below it
  other_tick : 0 < s.stroke.left → Each (λ t. t.number ≡ s.stroke.task → ⊥) L → (held_by k' L ≤ held_by s.stroke L) × (Level v b (held_by s.stroke L) L → Level v b (held_by k' L) (next_by (turn s.stroke) tick L))
  unfolding next_by
  other_tick p h =
      let out = held_outside s.stroke L h in
      let fewer : held_by k' L + 1 ≤ s.stroke.left = omega (arith, held_most k' L, (inside_left p).0) in
      let same : modify (turn s.stroke) used L ≡ L = modify_none (turn s.stroke) used L (each_of L (λ t x. turn_other s.stroke t p x) h) in
      (omega (arith, out, fewer), (λ l. rw same (level_held v b (held_by k' L) L (level_less v b (held_by s.stroke L) (suc (held_by k' L)) L (omega (arith, out, fewer)) l))))

  -- outside a stroke the level has work, and the tick goes to it, or it has none
  free_tick : s.stroke.left ≡ 0 → 0 < work L → held_by k' L ≤ 0
  unfolding pending next_stroke
  free_tick z p =
      let w = work_place L p in
      let x = front_first (turn s.stroke) (stroke_ticked s.stroke) s.stroke n s.tasks w.0 w.1 (subst (λ q. q (nth L w.0) ≡ true) (sym (turn_free s.stroke z)) (lt-ltb 0 _ w.2)) in
      no_more x.0 x.1 (λ h. task_of (nth L x.0).number (stroke_ticks s.stroke.left (nth L x.0) - 1) x.2 h)

  idle_tick : s.stroke.left ≡ 0 → Level v b (held_by s.stroke L) L → Level v b (held_by k' L) (next_by (turn s.stroke) tick L)
  idle_tick z l = ⊎_elim (λ e. level_none v b _ _ (omega (arith, work_tick (turn s.stroke) L))) (λ p. level_less v b _ _ _ (omega (arith, free_tick z p)) (level_served v b _ (turn s.stroke) L (λ x. subst (λ q. work (modify q used L) + 1 ≡ work L) (sym (turn_free s.stroke z)) (work_used x (changed_tick pending used L))) l)) (zero_or_pos (work L))

  -- a stroke that begins below the level holds no more than the blocking term
  begun_tick : s.stroke.left ≡ 0 → Each (λ t. t.stroke ≤ b + 1) (drop n s.tasks) → held_by k' L ≤ b
  begun_tick z h = ticked_cases (λ k. held_by k L ≤ b) s f (omega (arith, held_most no_stroke L)) (λ i lt e c m. ⊎_elim (λ y. omega (arith, held_inside (record { task = (nth s.tasks i).number; left = stroke_ticks s.stroke.left (nth s.tasks i) - 1 }) L i (in_front n s.tasks i lt y) (ap (λ t. t.number) (front_nth n s.tasks i (in_front n s.tasks i lt y))))) (λ y. omega (arith, held_most (record { task = (nth s.tasks i).number; left = stroke_ticks s.stroke.left (nth s.tasks i) - 1 }) L, (ticks_most s f i lt e).0, behind (λ t. t.stroke ≤ b + 1) n s.tasks i lt y h)) (front_or_not i n))

  -- so what is held stays within the blocking term, and the level good
  pub tick_held : Each (λ t. t.stroke ≤ b + 1) (drop n s.tasks) → held_by s.stroke L ≤ b → held_by k' L ≤ b
  tick_held h m = ⊎_elim (λ z. begun_tick z h) (λ p. ⊎_elim (λ x. omega (arith, (own_tick p x.0 x.1 x.2).0)) (λ x. omega (arith, (other_tick p x).0)) (named_or_not s.stroke.task L)) (zero_or_pos s.stroke.left)

  pub tick_level : Level v b (held_by s.stroke L) L → Level v b (held_by k' L) (next_by (turn s.stroke) tick L)
  tick_level l = ⊎_elim (λ z. idle_tick z l) (λ p. ⊎_elim (λ x. (own_tick p x.0 x.1 x.2).1 l) (λ x. (other_tick p x).1 l) (named_or_not s.stroke.task L)) (zero_or_pos s.stroke.left)
