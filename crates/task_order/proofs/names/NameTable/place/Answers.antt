use Rattle.std.proofs.Common.{◌∙◌, ap, Bor, List, ℕ}
use Rattle.std.specs.Prelude.{bytes_eq}
use Rattle.task_order.specs.Orders.{place}
use Rattle.task_order.proofs.Mapped.{position_mapped}
use Rattle.task_order.proofs.names.NameTable.place.Goals as goal

pub returns : goal.returns
returns c =
    c.get_index_of.ensures.index
    ∙ position_mapped (λ (k : Bor (List ℕ)). k.now) (bytes_eq c.args.name.now) c.self.inside.set.keys
    ∙ ap (λ ns. place ns c.args.name.now) c.self.view_is
