-- The submission was made, or is refused and nothing is made.
use Rattle.std.proofs.Common.{◌∙◌, ap, []}
use Rattle.wf_manifest.specs.declared.manifest.Manifest.{Manifest}
use Rattle.history.specs.History.{clock_of}
use Rattle.law.specs.Contents.{OfWorkflow, flow}
use Rattle.wf_object.specs.Documents.{law_of}
use Rattle.sim_schedule.proofs.Submitting.{created_on}
use Rattle.sim_schedule.proofs.submit.submit_once.Goals as goal

pub returns-clause-on : goal.returns-clause-on
returns-clause-on g c =
    let name = ap (λ (m : Manifest). m.name) c.manifest.ensures.same in
    created_on (law_of c.args.document.now) c.args.store.now.history c.create.new.self.history c.args.valid.now c.in_ok-of_workflow.field-0
    (c.in_ok-of_workflow.ensures ∙ ap OfWorkflow (c.in_ok-object.ensures ∙ ap (λ (m : Manifest). flow m []) c.in_ok-copy-3.ensures))
    c.submitted_still.ensures c.requires.given (clock_of c.args.store.now.history) c.create.result c.in_ok-copy.field-0 c.in_ok-copy-2.field-0
    c.new.result (c.in_ok-copy.ensures ∙ name) (c.in_ok-copy-2.ensures ∙ name) c.new.ensures c.create.ensures.answer c.create.ensures.adds
