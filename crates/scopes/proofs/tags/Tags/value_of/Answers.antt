use Rattle.scopes.proofs.ValueIn.{value_found}
use Rattle.scopes.proofs.tags.Tags.value_of.Goals as goal

pub returns : goal.returns
returns c = value_found c.self.inside.tags.entries c.args.self.now c.args.tag.now c.get.result c.self.view_is c.get.ensures.value
