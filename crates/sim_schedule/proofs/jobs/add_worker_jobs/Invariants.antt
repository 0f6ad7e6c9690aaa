-- The jobs of the entries so far, behind those that were there.
use Rattle.std.proofs.Common.{◌≡◌, ◌++◌, map, filter_map, take}
use Rattle.next_step.specs.Rounds.{submitted_by}
use Rattle.sim_schedule.specs.Inside.Jobs.{given}
use Rattle.sim_schedule.proofs.jobs.add_worker_jobs.Given as goal

abbrev pub invariant-loop-entry : goal.invariant-loop-entry
invariant-loop-entry l = map given l.jobs ≡ map given l.fn.jobs ++ filter_map submitted_by (take l.entry-index l.entries)
