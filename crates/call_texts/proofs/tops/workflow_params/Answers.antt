-- The workflow's name is the one tag that has a value.
use Rattle.std.proofs.Common.{◌≡◌, List, IfOk, subst}
use Rattle.tree_types.specs.declared.outcome.Param.{Param}
use Rattle.call_texts.proofs.Workflows.{params_alike, alone}
use Rattle.call_texts.proofs.tops.workflow_params.Goals as goal

pub returns : goal.returns
returns c =
    let m = c.args.manifest.now in
    let scope = c.in_ok-name.name in
    let alike = params_alike m scope m.arguments (alone m scope c.in_ok-of_workflow.field-0 c.new.result c.in_ok-name.ensures c.new.ensures c.in_ok-of_workflow.ensures) in
    subst (λ (ps : List Param). IfOk c.params_said.result (λ params. params ≡ ps)) alike c.params_said.ensures
