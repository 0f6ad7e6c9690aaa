use Rattle.scopes.specs.Substitution.{input_tags}
use Rattle.scopes.proofs.ValueIn.{from_none}
use Rattle.scopes.proofs.tags.Tags.of_inputs.Goals as goal

pub returns : goal.returns
returns c = from_none (input_tags c.args.inputs.now) c.add_parameters.new.self c.new-tags.result c.new-tags.ensures c.in_ok-add_parameters.ensures
