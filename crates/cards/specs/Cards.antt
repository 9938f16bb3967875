-- The bench cards A to Z and AA to AE, small inputs each with what it must give, and the listings of B, C, P, X and AB, as one table about
-- the definitions (docs/SHEET.md, sections 4 to 8 and 11 to 14). N to Q, S to U and W to AE are in no paper; all but T were worked out by
-- hand.
use Rattle.std.specs.Prelude.{ℕ, ◌/◌, ◌%◌, ◌≡◌, true, List, [], ◌∷◌, ◌++◌, map, pos, negsuc}
use Prim.Native.String.{String}
use Rattle.sheet.specs.Table.{scan}
use Rattle.sheet.specs.Records.{Figures}
use Rattle.sheet.specs.Views.{figures}
use Rattle.fit.specs.declared.By.TheVariants.{Ring}
use Rattle.fit.specs.Lists.{numbers, at}
use Rattle.fit.specs.Ring.{order_by}
use Rattle.fit.specs.Cores.{within_on}
use Rattle.checker.specs.Verdict.{verdict}
use Rattle.checker.specs.Verdict as checker
use Rattle.mover.specs.Moved.{moved}
use Rattle.mover.specs.Answers.{move_answer, move_verdict}
use Rattle.mover.specs.Answers as mover
use Rattle.jobs.specs.Jobs.{list_rows}
use Rattle.figures.specs.Constructions.{sr, dct}
use Rattle.figures.specs.Passing.{passes, trials}
use Rattle.timing.specs.Calls.{Answer, release, finish, tick, accepted, served, idle, refused, Entry, entry, calls, log}
use Rattle.state.specs.declared.Core.{Core}
use Rattle.state.specs.Operations.{ask, step}
use Rattle.dispatcher.specs.Starts.{sheet_answer, sheet_state, list_answer, list_state}
use Rattle.planner.specs.Plan.{fit_of, sheet_for, plan_outcome}
use Rattle.planner.specs.Plan as planner
use Rattle.row.specs.Row.{row_outcome, row_bytes}
use Rattle.row.specs.Row as row
use Rattle.row.specs.OnTime.{core_at, core_log, RowCall, tick_all, call_at, row_run, calls_at}
use Rattle.margin.specs.Answers.{margin_answer, ticks}
use Rattle.margin.specs.Answers as margin
use Rattle.listing.specs.Words.{codes, line_feed}
use Rattle.listing.specs.Listing.{listing_of}

-- a header of a version, or of version 1, with n and c, and records of numbers below 256; a task is on core k, or on core 0, and a core has
-- a task count, or 0
abbrev pub header_of : (version n c : ℕ) → List ℕ
header_of version n c = 0x54 ∷ 0x53 ∷ 0x48 ∷ version ∷ 0 ∷ n ∷ c ∷ 0 ∷ []

abbrev pub header : (n c : ℕ) → List ℕ
header = header_of 1

abbrev pub task_on : (k p e M : ℕ) → List ℕ
task_on k p e M = p ∷ 0 ∷ e ∷ 0 ∷ k ∷ 0 ∷ M ∷ 0 ∷ 0 ∷ 0 ∷ []

abbrev pub task : (p e M : ℕ) → List ℕ
task = task_on 0

abbrev pub core_of : (count Q D : ℕ) → List ℕ
core_of count Q D = Q ∷ 0 ∷ count ∷ 0 ∷ D ∷ 0 ∷ 0 ∷ 0 ∷ []

abbrev pub core : (Q D : ℕ) → List ℕ
core = core_of 0

-- the sheet of card B, (3,1), (7,1) and (13,6) with pivot 3, divisor 1 and factors 1, 2 and 4, but with this last budget and last factor
abbrev pub listed : (e M : ℕ) → List ℕ
listed e M = header 3 1 ++ (task 3 1 1 ++ (task 7 1 2 ++ (task 13 e M ++ core 3 1)))

-- two tasks of which the second's factor is no multiple of the first's
abbrev pub unchained : List ℕ
unchained = header 2 1 ++ (task 5 1 2 ++ (task 6 1 1 ++ core 2 1))

-- a number of two bytes, and records in which period, budget and pivot are such
abbrev pub two : ℕ → List ℕ
two x = x % 256 ∷ x / 256 ∷ []

abbrev pub long_task : (p e M : ℕ) → List ℕ
long_task p e M = two p ++ (two e ++ (0 ∷ 0 ∷ M ∷ 0 ∷ 0 ∷ 0 ∷ []))

abbrev pub long_core : (Q D : ℕ) → List ℕ
long_core Q D = two Q ++ (0 ∷ 0 ∷ D ∷ 0 ∷ 0 ∷ 0 ∷ [])

-- a core with the load 1999/2000, which is above 999 thousandths and below one
abbrev pub nearly_full : List ℕ
nearly_full = header 1 1 ++ (long_task 2000 1999 1 ++ long_core 2000 1)

-- the same with a job of three quarters of a thousandth more: the load is 4001/4000
abbrev pub overfull : List ℕ
overfull = header 2 1 ++ (long_task 2000 1999 1 ++ (long_task 4000 3 2 ++ long_core 2000 1))

-- a version 2 sheet of two cores, with these old numbers at positions 1, 2 and 4 and this task count of core 1; where a record of version 1
-- has its core, one of version 2 has its old number
abbrev pub grouped : (a b last count : ℕ) → List ℕ
grouped a b last count =
    header_of 2 5 2
    ++ (task_on 3 4 1 1
    ++ (task_on a 8 2 2
    ++ (task_on b 8 1 2
    ++ (task_on 2 5 1 1
    ++ (task_on last 9 7 2
    ++ (core_of 3 4 1
    ++ core_of count 9 2))))))

-- the version 1 sheet of the old numbers 1, 4 and 0 and the task count 2
abbrev pub ungrouped : List ℕ
ungrouped =
    header 5 2
    ++ (task_on 1 9 7 2
    ++ (task_on 0 8 2 2
    ++ (task_on 1 5 1 1
    ++ (task_on 0 4 1 1
    ++ (task_on 0 8 1 2
    ++ (core 4 1
    ++ core 9 2))))))

-- a version 3 sheet of one core: (2,1) with stroke length q and (7,3) with stroke length r, pivot 2, divisor 1 and factors 1 and 3, whose
-- load is one
abbrev pub stroked_task : (p e q M : ℕ) → List ℕ
stroked_task p e q M = p ∷ 0 ∷ e ∷ 0 ∷ 0 ∷ q ∷ M ∷ 0 ∷ 0 ∷ 0 ∷ []

abbrev pub stroked : (q r : ℕ) → List ℕ
stroked q r = header_of 3 2 1 ++ (stroked_task 2 1 q 1 ++ (stroked_task 7 3 r 3 ++ core 2 1))

-- one of three tasks on one core: (3,1) with stroke length 1, (9,4) with q and (18,4) with r, pivot 3, divisor 1 and factors 1, 3 and 6,
-- whose load is one
abbrev pub stroked_three : (q r : ℕ) → List ℕ
stroked_three q r = header_of 3 3 1 ++ (stroked_task 3 1 1 1 ++ (stroked_task 9 4 q 3 ++ (stroked_task 18 4 r 6 ++ core 3 1)))

-- seven bytes
abbrev pub seven : List ℕ
seven = 0x54 ∷ 0x53 ∷ 0x48 ∷ 1 ∷ 0 ∷ 0 ∷ 0 ∷ []

-- an entry of a job list, and the lists of the cards
abbrev pub job : (p e : ℕ) → List ℕ
job p e = p ∷ 0 ∷ e ∷ 0 ∷ []

abbrev pub jobs_g : List ℕ
jobs_g = job 2 1 ++ (job 11 2 ++ job 17 4)

abbrev pub jobs_h : List ℕ
jobs_h = job 10 4 ++ job 15 9

abbrev pub jobs_i : List ℕ
jobs_i = job 5 1 ++ job 9 7

abbrev pub jobs_l : List ℕ
jobs_l = job 5 2 ++ job 7 4

abbrev pub jobs_n : List ℕ
jobs_n = job 3 1 ++ (job 4 1 ++ job 5 3)

abbrev pub jobs_r : List ℕ
jobs_r = job 2 1 ++ (job 20 2 ++ job 55 20)

abbrev pub jobs_s : List ℕ
jobs_s = job 2 1 ++ (job 6 2 ++ job 12 1)

abbrev pub jobs_t : List ℕ
jobs_t = job 16 2 ++ (job 5 3 ++ (job 27 7 ++ (job 23 9 ++ (job 12 8 ++ (job 9 3 ++ job 25 3)))))

abbrev pub jobs_v : List ℕ
jobs_v = job 5 2 ++ (job 7 4 ++ job 35 1)

abbrev pub jobs_w : List ℕ
jobs_w = job 4 1 ++ (job 4 2 ++ job 3 1)

-- the periods of card U
abbrev pub far_apart : List ℕ
far_apart = 1 ∷ 60000 ∷ []

-- what the planner answers with limit 1, start 0 and an output of 712 bytes, and the sheet that it makes
abbrev pub answer : List ℕ → planner.Outcome
answer l = plan_outcome l 1 0 712

abbrev pub sheet_of : List ℕ → List ℕ
sheet_of l = sheet_for l (fit_of l 1 0)

-- a plan: the answer, and of its sheet the figures of core 0 and the factor and w of every task
pub record Plan : Type 0 where
  pub answer : planner.Outcome
  pub pivot : ℕ
  pub divisor : ℕ
  pub factors : List ℕ
  pub w : List ℕ

-- the plan with this answer and these figures
abbrev pub plan_with : planner.Outcome → Figures → Plan
plan_with o f =
    record {
      answer = o;
      pivot = f.pivot 0;
      divisor = f.divisor 0;
      factors = map f.factor (numbers 0 f.tasks);
      w = map (λ i. within_on f 0 i) (numbers 0 f.tasks);
    }

-- the plan of a job list with limit 1, from a start and from 0
abbrev pub plan_from : ℕ → List ℕ → Plan
plan_from start l = plan_with (plan_outcome l 1 start 712) (figures (sheet_for l (fit_of l 1 start)))

abbrev pub plan : List ℕ → Plan
plan = plan_from 0

-- the plan of card R
abbrev pub plan_r : Plan
plan_r = record { answer = planner.written 3 1 46; pivot = 2; divisor = 1; factors = 1 ∷ 9 ∷ 27 ∷ []; w = 2 ∷ 18 ∷ 54 ∷ [] }

-- what a start answers, and the log of calls after it
pub record Run : Type 0 where
  pub start : Answer
  pub log : List Entry

-- the definitions' run of the calls that a log has, on core 0 of a sheet and on the bench
abbrev pub run_from : Answer → Core → List Entry → Run
run_from a s l = record { start = a; log = log ask step s (calls l) }

abbrev pub on_sheet : List ℕ → List Entry → Run
on_sheet s l = run_from (sheet_answer (verdict s) 0) (sheet_state (verdict s) s 0) l

abbrev pub on_bench : List ℕ → List Entry → Run
on_bench jobs l = run_from (list_answer (scan (list_rows 0 jobs))) (list_state (scan (list_rows 0 jobs)) jobs) l

-- an accepted start, and a log
abbrev pub run : List Entry → Run
run l = record { start = accepted; log = l }

-- an accepted release of j, and a tick that goes to j
abbrev pub releases : ℕ → Entry
releases j = entry (release j) accepted

abbrev pub serves : ℕ → Entry
serves j = entry tick (served j)

-- both released, ticks 0,1,1,1,1, release 0, then 0,1,1,1; after the ninth tick task 1 is not pending
abbrev pub log_j : List Entry
log_j =
    releases 0 ∷ releases 1 ∷ serves 0 ∷ serves 1 ∷ serves 1 ∷ serves 1 ∷ serves 1
    ∷ releases 0 ∷ serves 0 ∷ serves 1 ∷ serves 1 ∷ serves 1 ∷ entry (finish 1) (refused 20 1) ∷ []

-- both released, task 0 again after four ticks
abbrev pub log_k : List Entry
log_k = releases 0 ∷ releases 1 ∷ serves 0 ∷ serves 1 ∷ serves 1 ∷ serves 1 ∷ entry (release 0) (refused 18 0) ∷ []

-- both released, 0 again after five ticks, task 1 after seven
abbrev pub log_l : List Entry
log_l =
    releases 0 ∷ releases 1 ∷ serves 0 ∷ serves 0 ∷ serves 1 ∷ serves 1 ∷ serves 1
    ∷ releases 0 ∷ serves 0 ∷ serves 0 ∷ entry (release 1) (refused 19 1) ∷ []

-- core 0 of card X: its three tasks released, the lowest by priority first, and served until none is pending
abbrev pub log_x : List Entry
log_x = releases 4 ∷ releases 1 ∷ releases 3 ∷ serves 3 ∷ serves 1 ∷ serves 1 ∷ serves 4 ∷ entry tick idle ∷ []

-- a stroke of task 1 delays task 0, which is released inside it, and both end within their w, 2 and 6
abbrev pub log_aB : List Entry
log_aB =
    releases 1 ∷ serves 1 ∷ releases 0 ∷ serves 1 ∷ serves 0 ∷ releases 0 ∷ serves 0 ∷ serves 1
    ∷ entry tick idle ∷ []

-- a finish ends the stroke of its own job: the next tick goes to task 0; one of task 0 leaves the stroke of task 1
abbrev pub log_finish : List Entry
log_finish = releases 1 ∷ serves 1 ∷ releases 0 ∷ entry (finish 1) accepted ∷ serves 0 ∷ entry tick idle ∷ []

abbrev pub log_other : List Entry
log_other = releases 1 ∷ serves 1 ∷ releases 0 ∷ entry (finish 0) accepted ∷ serves 1 ∷ serves 1 ∷ entry tick idle ∷ []

-- a state of the core of that sheet, in which task 1 has stroke length q and a job with l ticks left, and a stroke of task j has r ticks left
abbrev pub in_stroke : (q l j r : ℕ) → Core
in_stroke q l j r =
    record {
      count = 2;
      tasks =
          record { period = 2; budget = 1; age = 2; left = 0; number = 0; stroke = 1 }
          ∷ record { period = 7; budget = 3; age = 1; left = l; number = 1; stroke = q }
          ∷ [];
      stroke_task = j;
      stroke_left = r;
    }

-- the periods of a list in ring order
abbrev pub ring : List ℕ → ℕ → List ℕ
ring ps n = map (at ps) (order_by Ring (at ps) n)

-- the codes of lines that each end with a line feed
abbrev pub text : List String → List ℕ
text [] = []
text (s ∷ l) = codes s ++ (line_feed ∷ text l)

-- the listing of card B
abbrev pub lines_b : List String
lines_b =
    "TSH 1 tasks 3 cores 1"
    ∷ "task 0 core 0 period 3 budget 1 factor 1 within 3"
    ∷ "task 1 core 0 period 7 budget 1 factor 2 within 6"
    ∷ "task 2 core 0 period 13 budget 6 factor 4 within 12"
    ∷ "core 0 pivot 3 divisor 1 load 1000"
    ∷ []

-- the listing of card C
abbrev pub lines_c : List String
lines_c = "refused 14 place 64" ∷ []

-- the listing of card P
abbrev pub lines_p : List String
lines_p =
    "TSH 1 tasks 1 cores 1"
    ∷ "task 0 core 0 period 2000 budget 1999 factor 1 within 2000"
    ∷ "core 0 pivot 2000 divisor 1 load 1000"
    ∷ []

-- the listing of card X
abbrev pub lines_x : List String
lines_x =
    "TSH 2 tasks 5 cores 2"
    ∷ "task 0 core 1 period 9 budget 7 factor 2 within 9"
    ∷ "task 1 core 0 period 8 budget 2 factor 2 within 8"
    ∷ "task 2 core 1 period 5 budget 1 factor 1 within 4"
    ∷ "task 3 core 0 period 4 budget 1 factor 1 within 4"
    ∷ "task 4 core 0 period 8 budget 1 factor 2 within 8"
    ∷ "core 0 pivot 4 divisor 1 load 625"
    ∷ "core 1 pivot 9 divisor 2 load 1000"
    ∷ []

-- the listing of card AB
abbrev pub lines_aB : List String
lines_aB =
    "TSH 3 tasks 2 cores 1"
    ∷ "task 0 core 0 period 2 budget 1 factor 1 within 2"
    ∷ "task 1 core 0 period 7 budget 3 factor 3 within 6"
    ∷ "core 0 pivot 2 divisor 1 load 1000"
    ∷ []

-- what is answered for each task of a list of three, and for a number that it does not have
abbrev pub margins : List ℕ → List margin.Outcome
margins l = map (margin_answer l) (numbers 0 4)

-- both cores of the sheet of card X, the releases on them, then three rows with three answer bytes
abbrev pub row_z : List Core
row_z = sheet_state (verdict (grouped 1 4 0 2)) (grouped 1 4 0 2) 0 ∷ sheet_state (verdict (grouped 1 4 0 2)) (grouped 1 4 0 2) 1 ∷ []

abbrev pub releases_z : List RowCall
releases_z = call_at 0 (release 3) ∷ call_at 0 (release 4) ∷ call_at 1 (release 2) ∷ call_at 1 (release 0) ∷ []

abbrev pub bytes_z : List ℕ
bytes_z = 0xAA ∷ 0xAA ∷ 0xAA ∷ []

abbrev pub calls_z : List RowCall
calls_z = releases_z ++ (tick_all bytes_z ∷ tick_all bytes_z ∷ tick_all bytes_z ∷ [])

-- the log of the core at position k over these calls
abbrev pub log_z : ℕ → List Entry
log_z k = core_log (calls_at k calls_z row_z) (core_at row_z k)

-- a state with more tasks than places
abbrev pub too_many : Core
too_many = record { count = 65; tasks = []; stroke_task = 0; stroke_left = 0 }

-- The cards. A to F and O to Q are verdicts, G to I, N and R to T plans, J and K runs on the sheet of I, L a run on the bench, M a ring
-- order, U trials, V and W margins, X and Y sheets of version 2, Z a row of both cores of the sheet of X, AA to AE sheets of version 3 and
-- their strokes; then the listings.
pub record Cards : Type 0 where
  pub A : verdict (header 0 0) ≡ checker.accepted 0 0
  pub B : verdict (listed 6 4) ≡ checker.accepted 3 1
  pub C : verdict (listed 7 4) ≡ checker.refused 14 64
  pub D : verdict (listed 6 5) ≡ checker.refused 12 2
  pub E : verdict (listed 6 3) ≡ checker.refused 13 2
  pub F : verdict seven ≡ checker.refused 1 0
  -- the figures are those of Sr on base 2 with the first task as pivot
  pub G :
      (plan jobs_g ≡ record { answer = planner.written 3 1 46; pivot = 2; divisor = 1; factors = 1 ∷ 4 ∷ 8 ∷ []; w = 2 ∷ 8 ∷ 16 ∷ [] })
      × (sr 2 (2 ∷ 11 ∷ 17 ∷ []) 0 ≡ record { Q = 2; D = 1; factors = 1 ∷ 4 ∷ 8 ∷ [] })
  pub H : answer jobs_h ≡ planner.refused 15 1
  pub I : plan jobs_i ≡ record { answer = planner.written 2 1 36; pivot = 9; divisor = 2; factors = 1 ∷ 2 ∷ []; w = 4 ∷ 9 ∷ [] }
  pub J : on_sheet (sheet_of jobs_i) log_j ≡ run log_j
  pub K : on_sheet (sheet_of jobs_i) log_k ≡ run log_k
  pub L : on_bench jobs_l log_l ≡ run log_l
  pub M : ring (7 ∷ 16 ∷ 21 ∷ []) 3 ≡ 16 ∷ 21 ∷ 7 ∷ []
  -- The ring is 1, 2, 0. From start 1 the walk is 2, 0, 1: tasks 2 and 0 pass together by Sr on base 2 with pivot 5, and task 1 gets a new core.
  -- From start 0 tasks 1 and 2 pass together with pivot 4, and task 0 gets a new core.
  pub N :
      (plan_outcome jobs_n 2 1 712 ≡ planner.written 3 2 54)
      × (sheet_for jobs_n (fit_of jobs_n 2 1) ≡ header 3 2 ++ (task_on 0 3 1 1 ++ (task_on 1 4 1 1 ++ (task_on 0 5 3 2 ++ (core 5 2 ++ core 4 1)))))
      × (sheet_for jobs_n (fit_of jobs_n 2 0) ≡ header 3 2 ++ (task_on 1 3 1 1 ++ (task_on 0 4 1 1 ++ (task_on 0 5 3 1 ++ (core 4 1 ++ core 3 1)))))
  pub O : verdict unchained ≡ checker.refused 13 1
  pub P : verdict nearly_full ≡ checker.accepted 1 1
  pub Q : verdict overfull ≡ checker.refused 14 64
  -- from each start the figures are those of Sr on base 3 with the first task as pivot
  pub R :
      (plan_from 0 jobs_r ≡ plan_r)
      × (plan_from 1 jobs_r ≡ plan_r)
      × (plan_from 2 jobs_r ≡ plan_r)
      × (sr 3 (2 ∷ 20 ∷ 55 ∷ []) 0 ≡ record { Q = 2; D = 1; factors = 1 ∷ 9 ∷ 27 ∷ [] })
  -- Sr on base 3 comes before DCT, which passes too, with the factors 1, 3 and 6
  pub S :
      (plan jobs_s ≡ record { answer = planner.written 3 1 46; pivot = 2; divisor = 1; factors = 1 ∷ 3 ∷ 3 ∷ []; w = 2 ∷ 6 ∷ 6 ∷ [] })
      × (dct (2 ∷ 6 ∷ 12 ∷ []) 0 ≡ record { Q = 2; D = 1; factors = 1 ∷ 3 ∷ 6 ∷ [] })
      × (passes (1 ∷ 2 ∷ 1 ∷ []) (dct (2 ∷ 6 ∷ 12 ∷ []) 0) ≡ true)
  pub T : plan_outcome jobs_t 3 5 712 ≡ planner.refused 15 4
  -- the second pivot on base 3 is skipped
  pub U :
      (sr 3 far_apart 1 ≡ record { Q = 60000; D = 177147; factors = 1 ∷ 177147 ∷ [] })
      × (trials far_apart ≡ sr 2 far_apart 0 ∷ sr 2 far_apart 1 ∷ sr 3 far_apart 0 ∷ dct far_apart 0 ∷ dct far_apart 1 ∷ [])
  pub «V» : margins jobs_v ≡ ticks (pos 3) ∷ ticks (negsuc 0) ∷ ticks (pos 0) ∷ margin.refused 17 0 ∷ []
  -- of two tasks with one period the one with the lower number is above; the last task by number is the first by priority
  pub W : margins jobs_w ≡ ticks (pos 2) ∷ ticks (negsuc 0) ∷ ticks (pos 2) ∷ margin.refused 17 0 ∷ []
  -- the checker, the mover both ways, and a run on core 0, whose tasks in priority order are 3, 1 and 4
  pub X :
      (verdict (grouped 1 4 0 2) ≡ checker.accepted 5 2)
      × (moved (grouped 1 4 0 2) ≡ ungrouped)
      × (moved ungrouped ≡ grouped 1 4 0 2)
      × (on_sheet (grouped 1 4 0 2) log_x ≡ run log_x)
  -- the old number 2 stands twice; the counts make six; of two tasks with one period the one with the higher old number stands first
  pub Y :
      (verdict (grouped 1 4 2 2) ≡ checker.refused 23 0)
      × (verdict (grouped 1 4 0 3) ≡ checker.refused 23 0)
      × (verdict (grouped 4 1 0 2) ≡ checker.refused 23 0)
  -- the log of each core, the bytes of the first row, one byte too few, and the second state foreign
  pub Z :
      (log_z 0 ≡ entry (release 3) accepted ∷ entry (release 4) accepted ∷ entry tick (served 3) ∷ entry tick (served 4) ∷ entry tick idle ∷ [])
      × (log_z 1 ≡ entry (release 2) accepted ∷ entry (release 0) accepted ∷ entry tick (served 2) ∷ entry tick (served 0) ∷ entry tick (served 0) ∷ [])
      × (row_bytes (row_outcome (row_run releases_z row_z) 3) (row_run releases_z row_z) bytes_z ≡ 3 ∷ 2 ∷ 0xAA ∷ [])
      × (row_outcome row_z 1 ≡ row.refused 24 0)
      × (row_outcome (core_at row_z 0 ∷ too_many ∷ []) 2 ≡ row.refused 21 1)
  -- without the blocking term the core fits, and a stroke of three ticks below task 0 leaves it no room
  pub AA : (verdict (stroked 1 1) ≡ checker.accepted 2 1) × (verdict (stroked 1 3) ≡ checker.refused 14 64)
  -- a stroke of two ticks does; the runs; and the mover
  pub AB :
      (verdict (stroked 1 2) ≡ checker.accepted 2 1)
      × (on_sheet (stroked 1 2) log_aB ≡ run log_aB)
      × (on_sheet (stroked 1 2) log_finish ≡ run log_finish)
      × (on_sheet (stroked 1 2) log_other ≡ run log_other)
      × (move_answer (move_verdict (stroked 1 2)) (stroked 1 2) 712 ≡ mover.refused 3 0)
  -- a stroke length of 0, and of the budget and one
  pub Ac : (verdict (stroked 1 0) ≡ checker.refused 25 1) × (verdict (stroked 1 4) ≡ checker.refused 25 1) × (verdict (stroked 2 4) ≡ checker.refused 25 0)
  -- A state inside a stroke, then one for each way to break the form: a stroke length of 0 and above the budget; a stroke of a task that is not
  -- pending and of none; with more ticks left than its length less one and than the job; with a number and no ticks left.
  pub AD :
      map (ask tick) (in_stroke 2 2 1 1 ∷ in_stroke 0 2 0 0 ∷ in_stroke 4 2 0 0 ∷ in_stroke 2 0 1 1 ∷ in_stroke 2 2 5 1 ∷ in_stroke 2 2 1 2 ∷ in_stroke 3 1 1 2 ∷ in_stroke 2 2 1 0 ∷ [])
      ≡ served 1 ∷ refused 21 0 ∷ refused 21 0 ∷ refused 21 0 ∷ refused 21 0 ∷ refused 21 0 ∷ refused 21 0 ∷ refused 21 0 ∷ []
  -- Task 0 has room for a B of 2, the longest stroke below it less 1, whichever task has it; with B as the sum of the two, 3, both would be 14.
  -- A stroke of 4 is 14.
  pub AE :
      (verdict (stroked_three 3 2) ≡ checker.accepted 3 1)
      × (verdict (stroked_three 2 3) ≡ checker.accepted 3 1)
      × (verdict (stroked_three 4 2) ≡ checker.refused 14 64)
      × (verdict (stroked_three 2 4) ≡ checker.refused 14 64)
  pub listing_b : listing_of (listed 6 4) ≡ text lines_b
  pub listing_c : listing_of (listed 7 4) ≡ text lines_c
  pub listing_p : listing_of nearly_full ≡ text lines_p
  pub listing_x : listing_of (grouped 1 4 0 2) ≡ text lines_x
  pub listing_aB : listing_of (stroked 1 2) ≡ text lines_aB
