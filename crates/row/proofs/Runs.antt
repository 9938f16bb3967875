-- A core over lists of calls on it by itself and of ticks of rows in which it stands.
-- Assumes nothing.
use Prim.Native.Nat.{ℕ, zero, suc, ◌≤◌, ◌<◌}
use mathlib.Core.Path.{◌≡◌, refl, sym, ap, subst, ◌∙◌}
use mathlib.Core.Bool.{Bool, true, false, cond, true≢false}
use mathlib.Core.List.{List, [], ◌∷◌, ◌++◌, map, append-nil}
use native.Mathlib.Decide.{dec_lt}
use native.Mathlib.Omega.{arith}
use borrow.Author.Tests.{le-ltb, lt-ltb, ltb-true, eqb-true, eqb-false, ne_eqb}
use lib.Dec.{ltb, eqb}
use lib.ListN.{length, get_or, take, drop, set, length-map, length-set, length-append}
use lib.Seq.{split_at, length-take-le, get_or-append_seam, get_or-set_same, get_or-set_other}
use Rattle.fit.specs.Lists.{Each, place_of, over}
use Rattle.fit.proofs.Finds.{place_passes, place_before}
use Rattle.fit.proofs.Lists.{each_of, each_all}
use Rattle.checker.specs.Verdict.{verdict}
use Rattle.timing.specs.declared.Task.{Task}
use Rattle.timing.specs.Calls.{Call, tick, accepted, served, idle, tick_answer, of_first, answer_by, turn, answer, entry, log, run}
use Rattle.timing.proofs.Runs.{log_append, run_both}
use Rattle.state.specs.declared.Core.{Core}
use Rattle.state.specs.State.{tasks_of, stroke_in, foreign}
use Rattle.state.specs.Operations.{ask, step}
use Rattle.row.specs.Bytes.{answer_byte}
use Rattle.dispatcher.specs.Starts.{state_of, sheet_answer, sheet_state}
use Rattle.dispatcher.specs.OnTime.{KeptOn}
use Rattle.state.proofs.Foreign.{foreign_form, form_foreign}
use Rattle.state.proofs.Logs.{ask_form, step_places, step_form}
use Rattle.dispatcher.proofs.Starts.{sheet_kept}
use Rattle.row.specs.Row.{Outcome, ticked, refused, row_outcome, row_states, written, row_bytes}
use Rattle.row.specs.OnTime.{core_at, CoreCall, single, in_row, core_next, core_run, read_byte, tick_entries, entries_of, core_log, tick_calls, calls_of, own_calls, AsAlone, Formed, CoreRuns, RowCall, tick_all, call_at, row_next, row_run, calls_to, calls_at, RowRuns}

-- element k of f of a list's elements, which another list follows
map_at : {A B : Type 0} (f : A → B) (l : List A) (r : List B) (k : ℕ) (d : A) (e : B) → k < length l → get_or (map f l ++ r) k e ≡ f (get_or l k d)
map_at f [] r k d e h = absurd (omega arith)
map_at f (x ∷ l) r zero d e h = refl
map_at f (x ∷ l) r (suc k) d e h = map_at f l r k d e (omega arith)

-- An answer byte tells the answer of tasks whose numbers are at most 63.
tells : (q : Task → Bool) (s : List Task) → Each (λ t. t.number ≤ 63) s → read_byte (answer_byte (of_first q tick_answer idle s)) ≡ of_first q tick_answer idle s
unfolding of_first Each read_byte answer_byte
tells q [] h = refl
tells q (t ∷ s) h = go (q t) (tells q s h.1)
  where
    small : read_byte t.number ≡ served t.number
    small = rw (ne_eqb t.number 255 (λ e. omega (arith, h.0, e)))

    go : (b : Bool) → read_byte (answer_byte (of_first q tick_answer idle s)) ≡ of_first q tick_answer idle s → read_byte (answer_byte (cond b (tick_answer t) (of_first q tick_answer idle s))) ≡ cond b (tick_answer t) (of_first q tick_answer idle s)
    go true r = small
    go false r = r

pub byte_tells : (s : Core) → foreign s ≡ false → read_byte (answer_byte (ask tick s)) ≡ ask tick s
unfolding answer answer_by
byte_tells s e =
    let f = foreign_form s e in
    rw (ask_form tick s f) (tells (turn (stroke_in s)) (tasks_of s) (each_of (tasks_of s) (λ t h. h.number_max) f.form.tasks.sound))

-- no state of a row that was ticked is foreign
pub ticked_form : (row : List Core) (n k : ℕ) → row_outcome row n ≡ ticked → k < length row → foreign (core_at row k) ≡ false
unfolding row_outcome
ticked_form row n k e h = go (dec_lt (place_of foreign row) (length row))
  where
    -- else the row is refused, with 24 or with 21
    never : ltb (place_of foreign row) (length row) ≡ true → (b : Bool) → ltb n (length row) ≡ b → ⊥
    never x true y = let z : ◌≡◌ {A = ℕ} 0 1 = cc (rw y at e) in omega arith
    never x false y = let z : ◌≡◌ {A = ℕ} 0 1 = cc (rw (y, x) at e) in omega arith

    go : Dec (place_of foreign row < length row) → foreign (core_at row k) ≡ false
    go (yes g) = absurd (never (lt-ltb (place_of foreign row) (length row) g) (ltb n (length row)) refl)
    go (no g) = place_before (state_of []) foreign row k (omega (arith, h, g))

-- A tick of a row: the state and the answer byte at position k are those of a tick of that state by itself.
pub all_state : (row : List Core) (k : ℕ) → k < length row → core_at (row_states ticked row) k ≡ step tick (core_at row k)
unfolding row_states
all_state row k h = ap (λ l. core_at l k) (sym (append-nil (map (step tick) row))) ∙ map_at (step tick) row [] k (state_of []) (state_of []) h

pub all_byte : (row : List Core) (bytes : List ℕ) (k : ℕ) → k < length row → get_or (row_bytes ticked row bytes) k 0 ≡ answer_byte (ask tick (core_at row k))
unfolding row_bytes written over
all_byte row bytes k h = map_at (λ s. answer_byte (ask tick s)) row _ k (state_of []) 0 h

-- A core with state s in a row stands where it stands.
module _ (s : Core) (before after : List Core) where
  abbrev row : List Core
  row = before ++ s ∷ after

  there : core_at row (length before) ≡ s
  there = get_or-append_seam before s after (state_of [])

  inside : length before < length row
  inside = omega (arith, length-append before (s ∷ after))

-- what one call is for a core
record Once (s : Core) (x : CoreCall) : Type 0 where
  pub log : entries_of x s ≡ log ask step s (calls_of x s)
  pub state : core_next x s ≡ run step s (calls_of x s)

once : (s : Core) (x : CoreCall) → Once s x
unfolding core_next entries_of calls_of row_states tick_entries tick_calls log run
once s (single c) = record { log = refl; state = refl }
once s (in_row before after bytes) = go (row_outcome (row s before after) (length bytes)) refl
  where
    go : (o : Outcome) → row_outcome (row s before after) (length bytes) ≡ o → Once s (in_row before after bytes)
    go ticked e =
        let calm : foreign s ≡ false = subst (λ c. foreign c ≡ false) (there s before after) (ticked_form (row s before after) (length bytes) (length before) e (inside s before after)) in
        let byte = all_byte (row s before after) bytes (length before) (inside s before after) ∙ ap (λ c. answer_byte (ask tick c)) (there s before after) in
        record {
          log = rw e (ap (λ a. entry tick a ∷ []) (ap read_byte byte ∙ byte_tells s calm));
          state = rw e (all_state (row s before after) (length before) (inside s before after) ∙ ap (step tick) (there s before after));
        }
    go (refused n p) e = record { log = rw e; state = rw e (there s before after) }

pub as_alone : (xs : List CoreCall) (s : Core) → AsAlone s xs
unfolding core_log core_run own_calls log run
as_alone [] s = record { log = refl; state = refl }
as_alone (x ∷ xs) s =
    let o = once s x in
    let r = as_alone xs (core_next x s) in
    let cs = calls_of x s in
    let ds = own_calls xs (core_next x s) in
    record {
      log = ap (λ l. l ++ core_log xs (core_next x s)) o.log ∙ ap (λ l. log ask step s cs ++ l) (r.log ∙ ap (λ c. log ask step c ds) o.state) ∙ sym (log_append ask step cs ds s);
      state = r.state ∙ ap (λ c. run step c ds) o.state ∙ sym (run_both ask step cs ds s);
    }

pub on_time : (s : Core) (t : List ℕ) (m : ℕ) → sheet_answer (verdict t) m ≡ accepted → s ≡ sheet_state (verdict t) t m → (xs : List CoreCall) → KeptOn t m (core_log xs s)
on_time s t m a e xs = rw ((as_alone xs s).log ∙ ap (λ c. log ask step c (own_calls xs s)) e) (sheet_kept t m a (own_calls xs s))

-- a state in form stays in form
run_formed : (cs : List Call) (s : Core) → Formed s → Formed (run step s cs)
unfolding run
run_formed [] s f = f
run_formed (c ∷ cs) s f = run_formed cs (step c s) (step_places c s f.0 f.1, step_form c s f.0 f.1)

pub stays_formed : (s : Core) → Formed s → (xs : List CoreCall) → Formed (core_run xs s)
stays_formed s f xs = subst Formed (sym (as_alone xs s).state) (run_formed (own_calls xs s) s f)

pub core_runs : (s : Core) → CoreRuns s
core_runs s = record { alone = λ xs. as_alone xs s; on_time = on_time s; formed = stays_formed s }

-- A row over a list of calls: the core at position k.
module _ (row : List Core) (k : ℕ) (h : k < length row) where
  whole : take k row ++ core_at row k ∷ drop (suc k) row ≡ row
  whole = sym (split_at row k (state_of []) h)

  first : length (take k row) ≡ k
  first = length-take-le k row (omega arith)

  one_call : (x : RowCall) → (core_at (row_next x row) k ≡ core_run (calls_to k x row) (core_at row k)) × (length (row_next x row) ≡ length row)
  unfolding row_next row_states calls_to core_run core_next
  one_call (tick_all bytes) = (
    ap (λ l. core_at (row_states (row_outcome l (length bytes)) l) k) (sym whole) ∙ ap (λ j. core_at (row_states (row_outcome (take k row ++ core_at row k ∷ drop (suc k) row) (length bytes)) (take k row ++ core_at row k ∷ drop (suc k) row)) j) (sym first),
    many (row_outcome row (length bytes)),
  )
    where
      many : (o : Outcome) → length (row_states o row) ≡ length row
      many ticked = length-map row (step tick)
      many (refused n p) = refl
  one_call (call_at m c) = (go (eqb m k) refl, length-set row m _)
    where
      go : (b : Bool) → eqb m k ≡ b → core_at (set row m (step c (core_at row m))) k ≡ core_run (cond (eqb m k) (single c ∷ []) []) (core_at row k)
      go true e =
          let z : m ≡ k = eqb-true m k e in
          rw (e, z) (get_or-set_same row k _ (state_of []) h)
      go false e = rw e (get_or-set_other row m k _ (state_of []) (λ z. eqb-false m k e (sym z)))

run_two : (xs ys : List CoreCall) (s : Core) → core_run (xs ++ ys) s ≡ core_run ys (core_run xs s)
unfolding core_run
run_two [] ys s = refl
run_two (x ∷ xs) ys s = run_two xs ys (core_next x s)

pub each_core : (xs : List RowCall) (row : List Core) (k : ℕ) → k < length row → core_at (row_run xs row) k ≡ core_run (calls_at k xs row) (core_at row k)
unfolding row_run calls_at core_run
each_core [] row k h = refl
each_core (x ∷ xs) row k h =
    let o = one_call row k h x in
    each_core xs (row_next x row) k (omega (arith, h, o.1)) ∙ ap (core_run (calls_at k xs (row_next x row))) o.0 ∙ sym (run_two (calls_to k x row) (calls_at k xs (row_next x row)) (core_at row k))

-- 21 comes at the position of a foreign state
pub never_here : (row : List Core) (n k : ℕ) → k < length row → Formed (core_at row k) → row_outcome row n ≡ refused 21 k → ⊥
unfolding row_outcome
never_here row n k h f e = go (ltb n (length row)) (ltb (place_of foreign row) (length row)) refl e
  where
    go : (b c : Bool) → ltb (place_of foreign row) (length row) ≡ c → cond b (refused 24 0) (cond c (refused 21 (place_of foreign row)) ticked) ≡ refused 21 k → ⊥
    go true c x e = let z : ◌≡◌ {A = ℕ} 24 21 = cc in omega arith
    go false true x e =
        let z : place_of foreign row ≡ k = cc in
        let hit = place_passes (state_of []) foreign row (ltb-true (place_of foreign row) (length row) x) in
        true≢false (sym hit ∙ ap (λ j. foreign (core_at row j)) z ∙ form_foreign (core_at row k) f.1)
    go false false x e = let z : ◌≡◌ {A = ℕ} 0 1 = cc in omega arith

none_foreign : (row : List Core) → Each Formed row → place_of foreign row ≡ length row
unfolding place_of Each
none_foreign [] h = refl
none_foreign (s ∷ row) h = rw (form_foreign s h.0.1) (ap suc (none_foreign row h.1))

-- a row of states in form is refused only for want of answer bytes
pub formed_ticked : (row : List Core) → Each Formed row → (n : ℕ) → length row ≤ n → row_outcome row n ≡ ticked
unfolding row_outcome
formed_ticked row h n k =
    let enough : ltb n (length row) ≡ false = le-ltb n (length row) k in
    let calm : ltb (place_of foreign row) (length row) ≡ false = le-ltb (place_of foreign row) (length row) (omega (arith, none_foreign row h)) in
    rw (enough, calm)

pub row_runs : (row : List Core) → RowRuns row
row_runs row = record { cores = each_all CoreRuns row core_runs; each = λ k h xs. each_core xs row k h; never_here = never_here row; accepted = formed_ticked row }
