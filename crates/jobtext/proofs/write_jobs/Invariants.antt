use Rattle.std.proofs.Common.{◌≡◌, ◌++◌, ◌*◌, take, drop, flat_map}
use Rattle.jobtext.specs.Text.{bytes_of}
use Rattle.jobtext.proofs.write_jobs.Given as goal

abbrev pub invariant-loop-i : goal.invariant-loop-i
invariant-loop-i l = l.out ≡ flat_map bytes_of (take l.i l.jobs) ++ drop (4 * l.i) l.initial.out
