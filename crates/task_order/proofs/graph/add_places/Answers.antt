use Rattle.std.proofs.Common.{sym, ap, ◌∙◌, ◌++◌}
use Rattle.std.specs.Option.{option_to_list}
use Rattle.std.proofs.lemmas.List.{append-nil}
use Rattle.task_order.proofs.Steps.{place_more}
use Rattle.task_order.proofs.graph.add_places.Goals.{in-Some+in_ok-push, in_default}
use Rattle.task_order.proofs.graph.add_places.Goals as goal

pub loop-i-preserved : goal.loop-i-preserved
loop-i-preserved c =
    place_more c.args.table.now c.args.names.now c.args.row.now c.loop-i.row c.match-place.row c.loop-i.i c.index-names-i.result c.as_str.result.now c.place.result c.loop-i-test.true c.index-names-i.is c.as_str.ensures c.place.ensures c.loop-i.invariant
    (elim c.match-place.branch [
      | in-Some+in_ok-push w ↦ w.row-is ∙ w.in_ok-push.ensures.ok ∙ ap (λ o. c.loop-i.row ++ option_to_list o) (sym w.in-Some.is)
      | in_default w ↦ w.row-is ∙ sym (append-nil c.loop-i.row) ∙ ap (λ o. c.loop-i.row ++ option_to_list o) (sym w.in_default.is)
    ])
