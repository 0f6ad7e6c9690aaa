use Rattle.std.proofs.Common.{sym, subst, ℕ, Vec, Global}
use Rattle.task_order.specs.Orders.{AreWithin}
use Rattle.task_order.specs.Inside.Graphs.{IsGraph}
use Rattle.task_order.proofs.Graphs.{graph_within}
use Rattle.task_order.specs.Inside.Rows.{HoldReached}
use Rattle.task_order.proofs.Told.{told, rank_found, own_found}
use Rattle.task_order.proofs.ancestors.Ancestors.new.Goals as goal

pub order_of-requires : goal.order_of-requires
order_of-requires c =
    subst (λ ws. AreWithin ws) (sym c.as_slice.ensures.value) (graph_within c.args.tasks.now c.in_ok-graph.graph.table c.in_ok-graph.graph.waits.items c.in_ok-graph.ensures)

pub places_waited_for-requires-clause-within : goal.places_waited_for-requires-clause-within
places_waited_for-requires-clause-within c =
    subst (λ ws. AreWithin ws) (sym c.as_slice-in-Some.ensures.value) (graph_within c.args.tasks.now c.in_ok-graph.graph.table c.in_ok-graph.graph.waits.items c.in_ok-graph.ensures)

pub invariant_of-result : goal.invariant_of-result
invariant_of-result c =
    told c.args.tasks.now c.in_ok-graph.graph.table c.in_ok-graph.graph.waits.items c.in_ok-rows-in-Some.rows.items c.in_ok-graph.ensures
    (subst (λ ws. HoldReached ws c.in_ok-rows-in-Some.rows.items) c.as_slice-in-Some.ensures.value c.in_ok-rows-in-Some.ensures)

pub returns-in-Some-clause-ranked : goal.returns-in-Some-clause-ranked
returns-in-Some-clause-ranked c =
    rank_found (λ (order : Vec ℕ Global). order.items) c.args.tasks.now c.in_ok-graph.graph.table c.as_slice.result.now
    (subst (λ ws. IsGraph c.args.tasks.now c.in_ok-graph.graph.table ws) (sym c.as_slice.ensures.value) c.in_ok-graph.ensures)
    c.in_ok-order.field-0 c.in-Some.order c.in-Some.is c.in_ok-order.ensures.some

pub returns-clause-none : goal.returns-clause-none
returns-clause-none c =
    own_found c.args.tasks.now c.in_ok-graph.graph.table c.as_slice.result.now
    (subst (λ ws. IsGraph c.args.tasks.now c.in_ok-graph.graph.table ws) (sym c.as_slice.ensures.value) c.in_ok-graph.ensures)
    c.in_ok-order.field-0 c.in-None.is c.in_ok-order.ensures.none
