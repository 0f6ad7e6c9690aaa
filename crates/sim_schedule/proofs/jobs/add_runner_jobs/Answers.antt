-- One entry more.
use Rattle.std.proofs.Common.{map}
use Rattle.std.specs.Prelude.{option_map}
use Rattle.next_step.specs.Rounds.{created_by}
use Rattle.wf_object.specs.Documents.{law_of}
use Rattle.sim_schedule.specs.Inside.Jobs.{given}
use Rattle.sim_schedule.proofs.Listing.{added_behind}
use Rattle.sim_schedule.proofs.jobs.add_runner_jobs.Goals as goal

pub loop-entry-preserved : goal.loop-entry-preserved
loop-entry-preserved g c = record {
  jobs =
      added_behind (created_by c.args.store.now.history) c.args.entries.now c.loop-entry.entry-index c.entry-item.result c.loop-entry-test.true c.entry-item.is
      (map given c.args.jobs.now) (map given c.loop-entry.jobs) (map given c.add.new.jobs) (option_map given c.in_ok-runner_job.field-0) c.loop-entry.invariant.jobs c.in_ok-runner_job.ensures.job c.in_ok-add.ensures.jobs;
  ends = λ known. c.in_ok-add.ensures.ends (law_of c.args.document.now) c.args.store.now.history (c.loop-entry.invariant.ends known) c.in_ok-runner_job.ensures.ends;
}
