use Rattle.sheet.proofs.Scans.{scan_skip, scan_at, scan_none}
use Rattle.jobs.proofs.Laws.{uneven, even, over_count, within_count, entry_at, entry_none}
use Rattle.jobs.specs.Jobs.{job_count, list_rows}
use Rattle.jobs.proofs.check_list.Goals as goal

pub returns-then-jobs-ne0 : goal.returns-then-jobs-ne0
unfolding list_rows job_count
returns-then-jobs-ne0 c = search (scan_at, uneven) depth 8

pub returns-then-jobs-gt64 : goal.returns-then-jobs-gt64
unfolding list_rows job_count
returns-then-jobs-gt64 c = search (scan_skip, scan_at, even, over_count, c.then-jobs-gt64.either) depth 8

pub returns-in-Some : goal.returns-in-Some
unfolding list_rows job_count
returns-in-Some c = search (scan_skip, scan_at, even, within_count, entry_at) depth 8

pub returns-in-Some-first_bad_budget : goal.returns-in-Some-first_bad_budget
unfolding list_rows job_count
returns-in-Some-first_bad_budget c = search (scan_skip, scan_at, even, within_count, entry_none, entry_at) depth 8

pub returns : goal.returns
unfolding list_rows job_count
returns c = search (scan_skip, scan_none, even, within_count, entry_none) depth 8
