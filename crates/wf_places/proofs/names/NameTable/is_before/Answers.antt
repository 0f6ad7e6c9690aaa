use Rattle.wf_places.proofs.Positions.{before_told}
use Rattle.wf_places.proofs.names.NameTable.is_before.Goals as goal

pub returns : goal.returns
returns c = before_told (λ name. name.now) c.self.inside.names.items c.args.self.now c.args.name.now c.args.count c.position.result c.len_of.result c.is_below.result c.self.view_is c.position.ensures c.len_of.ensures c.is_below.ensures
