-- One entry more.
use Rattle.std.proofs.Common.{map}
use Rattle.std.specs.Prelude.{option_map}
use Rattle.next_step.specs.Rounds.{submitted_by}
use Rattle.sim_schedule.specs.Inside.Jobs.{given}
use Rattle.sim_schedule.proofs.Listing.{added_behind}
use Rattle.sim_schedule.proofs.jobs.add_worker_jobs.Goals as goal

pub loop-entry-preserved : goal.loop-entry-preserved
loop-entry-preserved c =
    added_behind submitted_by c.args.entries.now c.loop-entry.entry-index c.entry-item.result c.loop-entry-test.true c.entry-item.is
    (map given c.args.jobs.now) (map given c.loop-entry.jobs) (map given c.add.new.jobs) (option_map given c.in_ok-worker_job.field-0) c.loop-entry.invariant c.in_ok-worker_job.ensures c.in_ok-add.ensures.jobs
