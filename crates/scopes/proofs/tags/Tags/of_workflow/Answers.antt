use Rattle.scopes.proofs.ValueIn.{workflow_made}
use Rattle.scopes.proofs.tags.Tags.of_workflow.Goals as goal

pub returns : goal.returns
returns c =
    workflow_made c.args.workflow.now c.in_ok-from_text.field-0 c.in_ok-copy.field-0 c.args.params.now c.add_parameters.new.self c.add.new.self c.new-tags.result c.new-tags.ensures c.in_ok-add_parameters.ensures c.in_ok-from_text.ensures c.in_ok-copy.ensures c.in_ok-add.ensures.ok
