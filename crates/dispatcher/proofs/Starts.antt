-- Each way out of the two starts, as the code returns it, and the on_time promise of a core that is started from a sheet. Of the checker
-- they use what acceptance promises.
-- Assumes nothing.
use Prim.Native.Nat.{ℕ, ◌-◌, ◌*◌, ◌/◌, ◌≤◌, ◌<◌}
use mathlib.Core.Path.{◌≡◌, sym, ap, subst, subst₂, ◌∙◌, refl}
use Rattle.std.specs.Prelude.{None, Option, Some, Result, Ok, Err}
use mathlib.Core.List.{List, []}
use native.Mathlib.Omega.{arith}
use lib.ListN.{length, take, drop, length-append, length-replicate, length-drop}
use lib.Seq.{take-append_seam}
use borrow.Author.Tests.{lt-ltb, le-ltb, ltb-true}
use mir.Val.{Fits}
use mir.Syntax.{w8}
use mathlib.Core.Bool.{Bool, true, false, cond}
use lib.Dec.{ltb}
use Rattle.sheet.specs.declared.Refusal.TheVariants.{Core as NoCore}
use Rattle.sheet.specs.declared.Rejection.{Rejection}
use Rattle.sheet.specs.Table.{scan, refusal_of, Refused}
use Rattle.sheet.specs.Records.{period_at, budget_at}
use Rattle.sheet.specs.Views.{is_grouped, is_stroked, stroke_of_position, number_of_position, positioned_in, by_position, figures}
use Rattle.fit.specs.declared.By.TheVariants.{Period}
use Rattle.fit.specs.Ring.{order_by}
use Rattle.fit.proofs.Priority.{order_members, order_count, order_rising}
use Rattle.fit.proofs.Lists.{part, each_of}
use Rattle.checker.specs.declared.Counts.{Counts}
use Rattle.fit.specs.Lists.{Each}
use Rattle.fit.specs.Cores.{order_on, within_on}
use Rattle.checker.specs.Verdict.{verdict, outcome_of}
use Rattle.checker.specs.Accepted.{CoreOf}
use Rattle.checker.proofs.Views.{core_of}
use Rattle.jobs.specs.Jobs.{job_count, job_period, job_budget, list_rows}
use Rattle.jobs.proofs.Laws.{listed}
use Rattle.timing.specs.declared.Task.{Task}
use Rattle.timing.specs.Calls.{Call, release, accepted, log, run, answer, next, refused, Answer}
use Rattle.timing.specs.Form.{Form}
use Rattle.timing.specs.OnTime.{OnTime}
use Rattle.timing.specs.Serving.{ByHistory}
use Rattle.state.specs.declared.Core.{Core}
use Rattle.state.specs.declared.Step.{Step}
use Rattle.state.specs.declared.Reply.TheVariants.{Accepted}
use Rattle.timing.specs.Strokes.{StateForm, Unbroken, GoesOn, FreeAgain}
use Rattle.timing.proofs.Plain.{plain, plain_form}
use Rattle.state.specs.State.{tasks_of, state_in, InForm}
use Rattle.state.specs.Operations.{refusal, ask, step}
use Rattle.dispatcher.specs.Starts.{fresh_tasks, state_of, sheet_answer, sheet_tasks, sheet_state, SheetStart, list_answer, list_state, ListStart, FreshCore}
use Rattle.dispatcher.specs.OnTime.{Kept, Timely}
use Rattle.dispatcher.specs.Steps.{fresh_by}
use Rattle.dispatcher.proofs.Starting.{fresh_renamed}
use Rattle.state.proofs.Logs.{log_form, ask_run, never_foreign}
use Rattle.dispatcher.proofs.Schedule.{schedule_form, schedule_on_time, schedule_by_period, schedule_unbroken, schedule_goes_on, schedule_free_again, schedule_by_history, all_fresh, fresh_form}
use Rattle.checker.specs.Verdict as verdict

-- the state that has these tasks: its tasks, its places and its form
pub state_tasks : (l : List Task) → tasks_of (state_of l) ≡ l
unfolding state_of
state_tasks l = take-append_seam l _

pub state_places : (l : List Task) → length l ≤ 64 → length (state_of l).tasks ≡ 64
unfolding state_of
state_places l h = simp (length-append, length-replicate) (omega arith)

pub state_form : (l : List Task) → Form l → InForm (state_of l)
unfolding state_of
state_form l f = record { count = f.count; form = subst (λ t. StateForm (plain t)) (sym (state_tasks l)) (plain_form l f) }

-- as timing has it: these tasks, and no stroke
pub state_plain : (l : List Task) → state_in (state_of l) ≡ plain l
unfolding state_of
state_plain l = ap plain (state_tasks l)

-- fresh tasks in form make a fresh state
fresh_core : (p e q : ℕ → ℕ) (l : List ℕ) → Form (fresh_tasks p e q l) → FreshCore (state_of (fresh_tasks p e q l))
unfolding state_of
fresh_core p e q l f = record {
  places = state_places (fresh_tasks p e q l) f.count;
  form = state_form (fresh_tasks p e q l) f;
  fresh = rw (state_tasks (fresh_tasks p e q l)) (all_fresh p e q l);
  free = refl;
}

-- a core that the checker accepts starts fresh
core_fresh : (s : List ℕ) (n c k : ℕ) → CoreOf s n c k → FreshCore (state_of (sheet_tasks s k))
unfolding sheet_tasks
core_fresh s n c k h = fresh_core _ _ _ _ (schedule_form _ _ _ _ _ _ _ h.schedulable)

-- the log of a core that the checker accepts is that of its fresh tasks
core_log_lem : (s : List ℕ) (n c k : ℕ) → CoreOf s n c k → (cs : List Call) → log ask step (state_of (sheet_tasks s k)) cs ≡ log answer next (plain (sheet_tasks s k)) cs
core_log_lem s n c k h cs =
    let f = core_fresh s n c k h in
    log_form cs (state_of (sheet_tasks s k)) f.places f.form ∙ ap (λ t. log answer next t cs) (state_plain (sheet_tasks s k))

-- the on_time promise of a core that the checker accepts, from its fresh state
pub core_kept : (s : List ℕ) (n c k : ℕ) → CoreOf s n c k → (cs : List Call) → Kept s k (state_of (sheet_tasks s k)) cs
unfolding sheet_tasks within_on
core_kept s n c k h cs =
    let f = core_fresh s n c k h in
    record {
      rule = subst (OnTime _ _) (sym (core_log_lem s n c k h cs)) (schedule_on_time _ _ _ _ _ _ _ h.schedulable cs);
      by_period = subst (OnTime _ _) (sym (core_log_lem s n c k h cs)) (schedule_by_period _ _ _ _ _ _ _ h.schedulable cs);
      unbroken = subst (Unbroken _) (sym (core_log_lem s n c k h cs)) (schedule_unbroken _ _ _ _ _ _ _ h.schedulable cs);
      goes_on = subst (GoesOn _ _) (sym (core_log_lem s n c k h cs)) (schedule_goes_on _ _ _ _ _ _ _ h.schedulable cs);
      free_again = subst (FreeAgain _ _ _) (sym (core_log_lem s n c k h cs)) (schedule_free_again _ _ _ _ _ _ _ h.schedulable cs);
      never_foreign = never_foreign cs (state_of (sheet_tasks s k)) f.places f.form;
      bounds = h.schedulable.bounds;
    }

-- and how its releases are answered
core_by_history : (s : List ℕ) (n c k : ℕ) → CoreOf s n c k → (cs : List Call) → Each (λ j. ByHistory ((figures s).period j) j (log ask step (state_of (sheet_tasks s k)) cs) (ask (release j) (run step (state_of (sheet_tasks s k)) cs))) (order_on (figures s) k)
unfolding sheet_tasks
core_by_history s n c k h cs =
    let z = state_of (sheet_tasks s k) in
    let f = core_fresh s n c k h in
    each_of _ (λ j x. subst₂ (ByHistory ((figures s).period j) j) (sym (core_log_lem s n c k h cs)) (sym (ask_run (release j) cs z f.places f.form ∙ ap (λ t. answer (release j) (run next t cs)) (state_plain (sheet_tasks s k)))) x) (schedule_by_history _ _ _ _ _ _ _ h.schedulable cs)

-- a refused start promises nothing on time
pub refused_timely : (s : List ℕ) (k : ℕ) (z : Core) (w : Rejection ℕ) (r : Step) → r ≡ refusal z w → Timely s k r
refused_timely s k z w r q = record { on_time = λ a. absurd (let n : ◌≡◌ {A = ℕ} 0 1 = cc in omega arith) }

module _ (s : List ℕ) (k : ℕ) (v : Result Counts (Rejection ℕ)) (e : outcome_of v ≡ verdict s) where
  -- 1 to 14, 23 and 25
  pub sheet_refused : (w : Rejection ℕ) (z : Core) (r : Step) → v ≡ Err w → z ≡ state_of [] → r ≡ refusal z w → SheetStart s k r
  unfolding sheet_answer sheet_state
  sheet_refused w z r x y q =
      let o = sym (ap outcome_of x) ∙ e in
      record { answer = rw (q, ← o); core = rw (q, ← o) y }

  module _ (a : Counts) (x : v ≡ Ok a) (m : ℕ) (j : m ≡ a.cores) where
    abbrev n : ℕ
    n = a.tasks

    abbrev c : ℕ
    c = a.cores

    passed : verdict s ≡ verdict.accepted n c
    passed = sym e ∙ ap outcome_of x

    -- 9
    pub sheet_no_core : (w : Rejection ℕ) (z : Core) (r : Step) → m ≤ k → w ≡ record { word = NoCore; place = 0 } → z ≡ state_of [] → r ≡ refusal z w → SheetStart s k r
    unfolding sheet_answer sheet_state
    sheet_no_core w z r h o y q =
        let past : ltb k c ≡ false = le-ltb k c (rw j at h) in
        record { answer = rw (q, o, passed, past); core = rw (q, passed, past) y }

    module _ (i : k < m) where
      h : k < c
      h = rw j at i

      accepted_core : CoreOf s n c k
      accepted_core = core_of s n c k passed h

      pub sheet_header : 8 ≤ length s
      sheet_header = omega (arith, accepted_core.size)

      pub sheet_few : n ≤ 64
      sheet_few = accepted_core.few

      -- the part from byte 8, which holds the records of all tasks
      abbrev records : List ℕ
      records = take (length s - 8) (drop 8 s)

      pub sheet_records : 10 * n ≤ length (take (length s - 8) (drop 8 s))
      sheet_records = rw (part s 8) (simp length-drop (omega (arith, accepted_core.size)))

      -- the fresh state of the core, as it is read from there by position
      module _ (grouped stroked : Bool) (y : Core) (g : grouped ≡ is_grouped s) (d : stroked ≡ is_stroked s) (q : y ≡ state_of (fresh_by (period_at records) (budget_at records) (stroke_of_position stroked records) (number_of_position grouped records) (order_on (positioned_in grouped stroked n c records) k))) where
        fresh : y ≡ state_of (sheet_tasks s k)
        unfolding sheet_tasks
        fresh =
            q
            ∙ rw (part s 8, g, d, accepted_core.tasks, accepted_core.cores)
            (ap state_of (sym (fresh_renamed (by_position s) (figures s) (number_of_position (is_grouped s) (drop 8 s)) accepted_core.views k)))

        pub sheet_starts : SheetStart s k (record { answer = Ok Accepted; core = y })
        unfolding sheet_answer sheet_state
        sheet_starts = record { answer = rw (passed, lt-ltb k c h); core = rw (passed, lt-ltb k c h) fresh }

        pub sheet_timely : Timely s k (record { answer = Ok Accepted; core = y })
        sheet_timely = record { on_time = λ a cs. subst (λ z. Kept s k z cs) (sym fresh) (core_kept s n c k accepted_core cs) }

module _ (l : List ℕ) (f : Result (Unit {0}) (Rejection ℕ)) (e : refusal_of f ≡ scan (list_rows 0 l)) where
  -- 5, 4, 7 and 8
  pub list_refused : (w : Rejection ℕ) (z : Core) (r : Step) → f ≡ Err w → z ≡ state_of [] → r ≡ refusal z w → ListStart l r
  unfolding list_answer list_state
  list_refused w z r x y q =
      let o = sym (ap refusal_of x) ∙ e in
      record { answer = rw (q, ← o); core = rw (q, ← o) y }

  module _ (x : f ≡ Ok tt) where
    clear : None ≡ scan (list_rows 0 l)
    clear = sym (ap refusal_of x) ∙ e

    pub list_few : length l / 4 ≤ 64
    unfolding job_count
    list_few = (listed 0 l clear).count

    pub list_fits : Fits w8 (length l / 4)
    list_fits = omega (arith, list_few)

    -- the fresh state of the list
    pub list_starts : (y : Core) → y ≡ state_of (fresh_tasks (job_period l) (job_budget l) (λ i. 1) (order_by Period (job_period l) (length l / 4))) → ListStart l (record { answer = Ok Accepted; core = y })
    unfolding list_answer list_state job_count
    list_starts y q = record { answer = rw (← clear); core = rw (← clear) q }

-- an accepted start from a sheet: the checker accepts the core, and the state has its tasks
record Started (s : List ℕ) (k : ℕ) : Type 0 where
  pub tasks : ℕ
  pub cores : ℕ
  pub core : CoreOf s tasks cores k
  pub state : sheet_state (verdict s) s k ≡ state_of (sheet_tasks s k)

started : (s : List ℕ) (k : ℕ) → sheet_answer (verdict s) k ≡ accepted → Started s k
unfolding sheet_answer sheet_state
started s k a = go (verdict s) refl a
  where
    on : (n c : ℕ) (b : Bool) → ltb k c ≡ b → verdict s ≡ verdict.accepted n c → ◌≡◌ {A = Answer} (cond b accepted (refused 9 0)) accepted → Started s k
    on n c true h e x = record { tasks = n; cores = c; core = core_of s n c k e (ltb-true k c h); state = rw (e, h) }
    on n c false h e x = absurd (let z : ◌≡◌ {A = ℕ} 0 1 = cc in omega arith)

    go : (o : verdict.Outcome) → verdict s ≡ o → sheet_answer o k ≡ accepted → Started s k
    go (verdict.accepted n c) e x = on n c (ltb k c) refl e x
    go (verdict.refused w p) e x = absurd (let z : ◌≡◌ {A = ℕ} 0 1 = cc in omega arith)

-- the state of an accepted start is fresh
pub sheet_fresh : (s : List ℕ) (k : ℕ) → sheet_answer (verdict s) k ≡ accepted → FreshCore (sheet_state (verdict s) s k)
sheet_fresh s k a =
    let h = started s k a in
    rw h.state (core_fresh s h.tasks h.cores k h.core)

-- and from it every list of calls is on time
pub sheet_kept : (s : List ℕ) (k : ℕ) → sheet_answer (verdict s) k ≡ accepted → (cs : List Call) → Kept s k (sheet_state (verdict s) s k) cs
sheet_kept s k a cs =
    let h = started s k a in
    rw h.state (core_kept s h.tasks h.cores k h.core cs)

-- after every list of calls, each release of a task of the core is answered by the ticks since the last accepted one
pub release_by_history : (s : List ℕ) (k : ℕ) → sheet_answer (verdict s) k ≡ accepted → (cs : List Call) → Each (λ j. ByHistory ((figures s).period j) j (log ask step (sheet_state (verdict s) s k) cs) (ask (release j) (run step (sheet_state (verdict s) s k) cs))) (order_on (figures s) k)
release_by_history s k a cs =
    let h = started s k a in
    rw h.state (core_by_history s h.tasks h.cores k h.core cs)

pub list_fresh : (l : List ℕ) → list_answer (scan (list_rows 0 l)) ≡ accepted → FreshCore (list_state (scan (list_rows 0 l)) l)
unfolding list_answer list_state order_by
list_fresh l a = go (scan (list_rows 0 l)) refl a
  where
    go : (o : Option Refused) → scan (list_rows 0 l) ≡ o → list_answer o ≡ accepted → FreshCore (list_state o l)
    go None e x =
        let h = listed 0 l (sym e) in
        let m = order_members (job_period l) (λ i. 0) 0 (job_count l) in
        fresh_core (job_period l) (job_budget l) (λ i. 1) _
        (fresh_form (job_period l) (job_budget l) (λ i. 1) _
        (omega (arith, order_count (job_period l) (λ i. 0) 0 (job_count l), h.count))
        (each_of _ (λ i q. omega (arith, q.0, h.count)) m)
        (each_of _ (λ i q. h.period i q.0) m)
        (each_of _ (λ i q. h.budget i q.0) m)
        (each_of _ (λ i q. (omega arith, (h.budget i q.0).0)) m)
        (order_rising (job_period l) (λ i. 0) 0 (job_count l)))
    go (Some r) e x = absurd (let z : ◌≡◌ {A = ℕ} 0 1 = cc in omega arith)
