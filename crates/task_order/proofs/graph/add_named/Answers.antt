use Rattle.std.proofs.Common.{sym, ap, ◌∙◌, ◌++◌}
use Rattle.std.specs.Option.{option_to_list}
use Rattle.std.proofs.lemmas.List.{append-nil}
use Rattle.depends_expr.specs.Truth.{names_of}
use Rattle.task_order.proofs.Steps.{named_more}
use Rattle.task_order.proofs.graph.add_named.Goals.{in-Some+in_ok-push, in_default}
use Rattle.task_order.proofs.graph.add_named.Goals as goal

pub loop-i-preserved : goal.loop-i-preserved
loop-i-preserved c =
    named_more c.args.table.now (names_of c.args.depends.now) c.args.row.now c.loop-i.row c.match-place.row c.loop-i.i c.name.result.now c.place.result c.name.ensures c.place.ensures c.loop-i.invariant
    (elim c.match-place.branch [
      | in-Some+in_ok-push w ↦ w.row-is ∙ w.in_ok-push.ensures.ok ∙ ap (λ o. c.loop-i.row ++ option_to_list o) (sym w.in-Some.is)
      | in_default w ↦ w.row-is ∙ sym (append-nil c.loop-i.row) ∙ ap (λ o. c.loop-i.row ++ option_to_list o) (sym w.in_default.is)
    ])
