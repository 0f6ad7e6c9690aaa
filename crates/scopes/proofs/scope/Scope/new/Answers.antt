use Rattle.std.proofs.Common.{sym, subst}
use Rattle.scopes.specs.Substitution.{Scope, input_tags, workflow_tags}
use Rattle.scopes.specs.Values.{HasValuesOf}
use Rattle.scopes.proofs.ValueIn.{over_alike, made}
use Rattle.scopes.proofs.scope.Scope.new.Goals as goal

pub returns : goal.returns
returns c =
    let front = input_tags c.args.inputs.now in
    let back = workflow_tags c.args.workflow.now c.args.params.now in
    let around = subst (λ (s : Scope). HasValuesOf s back) (sym c.in_ok-of.ensures) c.in_ok-of_workflow.ensures in
    made c.with-2.result c.in_ok-of_inputs.field-0 c.in_ok-of.field-0 front back c.with-2.ensures c.in_ok-of_inputs.ensures around
