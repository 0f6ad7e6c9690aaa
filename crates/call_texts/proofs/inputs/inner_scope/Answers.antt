-- The tags of the inputs, over the workflow's.
use Rattle.std.proofs.Common.{refl}
use Rattle.scopes.specs.Substitution.{input_tags}
use Rattle.scopes.proofs.ValueIn.{made}
use Rattle.call_texts.proofs.inputs.inner_scope.Goals as goal

pub returns : goal.returns
returns c =
    made c.with.result c.in_ok-of_inputs.field-0 c.args.globals.now (input_tags c.args.params.now) c.args.globals.now c.with.ensures c.in_ok-of_inputs.ensures (λ tag. refl)
