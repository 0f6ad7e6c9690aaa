use Rattle.std.proofs.Common.{◌∙◌, ap, map, Bor, List, ℕ}
use Rattle.depends_expr.specs.Truth.{add_name}
use Rattle.task_order.proofs.Mapped.{added_name}
use Rattle.task_order.proofs.names.NameTable.add.Goals as goal

pub returns : goal.returns
returns c =
    ap (λ ks. map (λ (k : Bor (List ℕ)). k.now) ks) c.in_ok-insert.ensures.keys
    ∙ added_name c.self.inside.set.keys c.args.name
    ∙ ap (λ ns. add_name ns c.args.name.now) c.self.view_is
