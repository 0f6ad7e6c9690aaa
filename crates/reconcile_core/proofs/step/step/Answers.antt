-- A job that is done makes no call.
use Rattle.std.proofs.Common.{◌∙◌, sym, ap}
use Rattle.wf_object.specs.Documents.{law_of}
use Rattle.worker_job.specs.Told.{next_told}
use Rattle.reconcile_core.proofs.Stepping.{done_made}
use Rattle.reconcile_core.proofs.step.step.Goals as goal

pub returns-in-Done-clause-made : goal.returns-in-Done-clause-made
returns-in-Done-clause-made g c = λ told.
    done_made (law_of c.args.document.now) c.args.job.now.workflow (g.C.Client.seen c.args.client.now) c.args.job.now.views
    (g.C.Client.lag c.args.client.now) (g.C.Client.others c.args.client.now) c.args.job.now.views
    (sym c.in_ok-key.ensures ∙ ap next_told c.in-Done.is)
