use Rattle.std.specs.Option.{option_copied}
use Rattle.wf_places.proofs.Positions.{template_told}
use Rattle.wf_places.proofs.tables.TemplateTable.named.Goals as goal

pub returns : goal.returns
returns c = template_told c.self.inside.all.now c.args.self.now c.self.inside.names c.args.name.now c.position.result (option_copied c.item_at.result) c.self.view_is c.self.invariant.names_are c.position.ensures c.item_at.ensures
