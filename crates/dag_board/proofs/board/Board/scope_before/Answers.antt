-- The scope has the values of the tags of the ancestors.
use Rattle.std.proofs.Common.{◌≡◌, ◌<◌, ◌++◌, ℕ, List, length, sym, ◌∙◌, subst}
use Rattle.std.specs.List.{All}
use Rattle.task_order.specs.Orders.{waited}
use Rattle.dag_template.proofs.Places.{places_low}
use Rattle.dag_template.proofs.Ordered.{task_at}
use Rattle.dag_board.specs.Turns.{Sees}
use Rattle.dag_board.proofs.Reaching.{rows_within, rows_ordered}
use Rattle.dag_board.proofs.Seen.{row_at, sees, ancestors_low}
use Rattle.dag_board.proofs.Results.{ok_more}
use Rattle.dag_board.proofs.board.Board.scope_before.Goals as goal

pub ancestors-requires-clause-within : goal.ancestors-requires-clause-within
ancestors-requires-clause-within c = rows_within c.args.dag.now c.args.plan.now c.requires.plan

pub ancestors-requires-clause-order : goal.ancestors-requires-clause-order
ancestors-requires-clause-order c = rows_ordered c.args.dag.now c.args.plan.now c.requires.plan

pub ancestors-requires-clause-row : goal.ancestors-requires-clause-row
ancestors-requires-clause-row c =
    let d = c.args.dag.now in
    let task = task_at d.tasks c.args.i c.requires.place in
    let at = row_at d c.args.plan.now c.requires.plan c.args.i task.0 c.get.result.now c.as_slice.result.now task.1 c.get.ensures c.as_slice.ensures in
    subst (λ (n : ℕ). All (λ p. p < n) c.as_slice.result.now) (sym c.requires.plan.long) (places_low d.tasks (waited task.0) c.as_slice.result.now at)

pub tags_of-requires-clause-places : goal.tags_of-requires-clause-places
tags_of-requires-clause-places c =
    let d = c.args.dag.now in
    let task = task_at d.tasks c.args.i c.requires.place in
    let at = row_at d c.args.plan.now c.requires.plan c.args.i task.0 c.get.result.now c.as_slice.result.now task.1 c.get.ensures c.as_slice.ensures in
    subst (λ (ps : List ℕ). All (λ p. p < length d.tasks) ps) (sym (c.as_slice-2.ensures ∙ c.in_ok-found.ensures))
    (ancestors_low d c.args.plan.now c.requires.plan c.args.self.now c.as_slice.result.now (places_low d.tasks (waited task.0) c.as_slice.result.now at))

pub returns : goal.returns
returns c =
    let d = c.args.dag.now in
    let plan = c.args.plan.now in
    let b = c.args.self.now in
    let i = c.args.i in
    ok_more c.with.result (λ s. s ≡ c.in_ok-tags.tags ++ c.args.scope.now) (λ s. Sees d plan b i c.args.scope.now s)
    (λ s e. sees d plan c.requires.plan b c.rounds_settle.ensures i c.get.result.now c.as_slice.result.now c.get.ensures c.as_slice.ensures
    c.as_slice-2.result.now c.in_ok-tags.tags c.args.scope.now s (c.as_slice-2.ensures ∙ c.in_ok-found.ensures) c.in_ok-tags.ensures e)
    c.with.ensures
