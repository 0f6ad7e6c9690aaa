-- What is left is by the book that is set.
use Rattle.std.proofs.Common.{sym, subst, rules}
use Rattle.worker_job.specs.Jobs.{OneJob}
use Rattle.worker_job.specs.Inside.{book_seen}
use Rattle.worker_job.specs.Inside.Filing.{FilingFits}
use Rattle.worker_job.proofs.job.Job.set_book.Goals as goal

pub invariant_of-self : goal.invariant_of-self
invariant_of-self c = record {
  kept = search rules;
  marked = c.self.invariant.marked;
  found = c.self.invariant.found;
  to_save = c.self.invariant.to_save;
  to_file = subst (λ (j : OneJob). FilingFits c.args.to_file j.workflow j.views.flow (book_seen c.args.snapshot)) (sym c.self.view_is) c.requires.to_file;
}
