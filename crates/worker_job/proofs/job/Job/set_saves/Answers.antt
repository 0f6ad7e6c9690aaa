-- What is left is by the saves that are set.
use Rattle.std.proofs.Common.{sym, subst, rules}
use Rattle.worker_job.specs.Jobs.{OneJob}
use Rattle.worker_job.specs.Inside.{saves_seen}
use Rattle.worker_job.specs.Inside.Saving.{SavingFits}
use Rattle.worker_job.proofs.job.Job.set_saves.Goals as goal

pub invariant_of-self : goal.invariant_of-self
invariant_of-self c = record {
  kept = search rules;
  marked = c.self.invariant.marked;
  found = c.self.invariant.found;
  to_file = c.self.invariant.to_file;
  to_save = subst (λ (j : OneJob). SavingFits c.args.to_save j.workflow j.views.flow (saves_seen c.args.snapshot)) (sym c.self.view_is) c.requires.to_save;
}
