use Rattle.wf_places.proofs.Positions.{has_told}
use Rattle.wf_places.proofs.names.NameTable.has.Goals as goal

pub returns : goal.returns
returns c = has_told (λ name. name.now) c.self.inside.names.items c.args.self.now c.args.name.now c.position.result c.len_of.result c.self.view_is c.position.ensures c.len_of.ensures
