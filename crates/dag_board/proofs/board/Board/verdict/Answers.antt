-- The verdict tells how the task stands.
use Rattle.std.proofs.Common.{◌≡◌, List, [], refl, sym, subst, ◌∙◌}
use Rattle.std.proofs.lemmas.Option.{get_or_from_slice_get}
use Rattle.wf_manifest.specs.declared.calls.Task.{Task}
use Rattle.task_order.specs.Orders.{waited}
use Rattle.dag_plan.specs.Plans.{AreAt}
use Rattle.dag_template.specs.declared.judging.Verdict.TheVariants.{Waits}
use Rattle.dag_template.specs.Stands.{stand_of, verdict}
use Rattle.dag_template.proofs.Ordered.{task_at}
use Rattle.dag_board.specs.Turns.{Tells}
use Rattle.dag_board.proofs.Judging.{meant_is, told_meant, told_skipped}
use Rattle.dag_board.proofs.Results.{ok_more}
use Rattle.dag_board.proofs.board.Board.verdict.Goals as goal

pub returns-then-not-get : goal.returns-then-not-get
returns-then-not-get c =
    let d = c.args.dag.now in
    let plan = c.args.plan.now in
    let i = c.args.i in
    let task = task_at d.tasks i c.requires.place in
    told_skipped d plan c.requires.plan c.args.self.now c.rounds_settle.ensures i task.0 task.1
    (sym (meant_is d plan c.requires.plan i task.0 c.get.result.now task.1 c.get.ensures) ∙ c.if-not-get.true) Waits refl

pub judge-requires-clause-places : goal.judge-requires-clause-places
judge-requires-clause-places c =
    let d = c.args.dag.now in
    let plan = c.args.plan.now in
    let i = c.args.i in
    let t : Task = c.get-2.result.now in
    let row = get_or_from_slice_get plan.rows i c.get-3.result.now [] c.get-3.ensures in
    subst (λ (ts : List Task). AreAt ts (waited t) c.as_slice-3.result.now) (sym c.as_slice.ensures)
    (subst (AreAt d.tasks (waited t)) (row ∙ sym c.as_slice-3.ensures) (c.requires.plan.rows i t c.get-2.ensures))

pub returns : goal.returns
returns c =
    let d = c.args.dag.now in
    let plan = c.args.plan.now in
    let b = c.args.self.now in
    let i = c.args.i in
    let t : Task = c.get-2.result.now in
    let meant = sym (meant_is d plan c.requires.plan i t c.get.result.now c.get-2.ensures c.get.ensures) ∙ c.if-not-get.false in
    ok_more c.judge.result (λ v. v ≡ verdict c.as_slice.result.now (stand_of c.as_slice.result.now c.as_slice-2.result.now) t) (Tells d plan b i)
    (λ v e. told_meant d plan c.requires.plan b c.rounds_settle.ensures i t c.get-2.ensures meant v
    (e ∙ (λ j. verdict (c.as_slice.ensures j) (stand_of (c.as_slice.ensures j) (c.as_slice-2.ensures.value j)) t)))
    c.judge.ensures
