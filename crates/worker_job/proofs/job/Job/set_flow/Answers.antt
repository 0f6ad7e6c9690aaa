-- What is left to be filed is of the workflow that is set, and what is left to be saved is not known.
use Rattle.std.proofs.Common.{sym, subst, rules}
use Rattle.std.specs.Prelude.{option_and_then}
use Rattle.tree_state.specs.declared.kinds.WantKind.TheVariants as kind
use Rattle.worker_job.specs.Jobs.{OneJob}
use Rattle.worker_job.specs.Inside.{flow_seen}
use Rattle.worker_job.specs.Inside.Filing.{FiledFits}
use Rattle.worker_job.specs.Inside.Saving.{is_left}
use Rattle.worker_job.proofs.Filing.{filing_by, unknown_fits}
use Rattle.worker_job.proofs.job.Job.set_flow.Goals as goal

pub invariant_of-self : goal.invariant_of-self
invariant_of-self c = record {
  kept = search rules;
  marked = search rules;
  found = search rules;
  to_save = unknown_fits kind.Save (is_left c.self.inside.workflow) c.unknown.result (flow_seen c.args.snapshot) _ c.unknown.ensures;
  to_file = filing_by c.args.filed c.self.inside.workflow (flow_seen c.args.snapshot) _ c.nothing_if.result c.nothing_if.ensures
      (subst (λ (j : OneJob). FiledFits c.args.filed j.workflow (flow_seen c.args.snapshot) j.views.book) (sym c.self.view_is) c.requires.filed);
}
