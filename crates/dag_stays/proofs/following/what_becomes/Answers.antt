-- By the verdict over how those are seen that it waits for.
use Rattle.std.proofs.Common.{◌≡◌, ℕ, Bool, true, List, length, map, Some, sym, ap, subst, ◌∙◌}
use Rattle.wf_manifest.specs.declared.calls.Task.{Task}
use Rattle.task_order.specs.Orders.{waited}
use Rattle.dag_plan.specs.Plans.{AreAt}
use Rattle.dag_template.specs.declared.stands.Stand.{Stand}
use Rattle.dag_template.specs.Stands.{verdict}
use Rattle.dag_board.specs.Boards.{stood}
use Rattle.dag_stays.specs.Following.{seen}
use Rattle.dag_stays.proofs.Naming.{task_at}
use Rattle.dag_stays.proofs.Becoming.{low_places, row_at, meant_at, told_waits, told_freed, told_omitted}
use Rattle.dag_stays.proofs.following.what_becomes.Goals as goal

pub stands_below-requires : goal.stands_below-requires
stands_below-requires c =
    let d = c.args.dag.now in
    low_places d (waited (task_at d.tasks c.args.k c.requires.place).0) c.as_slice-places.result.now c.requires.few
    (subst (λ (ps : List ℕ). AreAt d.tasks (waited (task_at d.tasks c.args.k c.requires.place).0) ps) (sym c.as_slice-places.ensures)
    (row_at d c.args.plan.now c.requires.plan c.args.k (task_at d.tasks c.args.k c.requires.place).0 (task_at d.tasks c.args.k c.requires.place).1 c.get-2.result.now c.get-2.ensures))

pub judge_found-requires-clause-each : goal.judge_found-requires-clause-each
judge_found-requires-clause-each c = sym (ap (λ (ss : List Stand). length ss) c.as_slice-2.ensures ∙ c.in_ok-found.ensures.long)

pub judge_found-requires-clause-places : goal.judge_found-requires-clause-places
judge_found-requires-clause-places c =
    let d = c.args.dag.now in
    let at : AreAt d.tasks (waited c.get-3.result.now) c.get-2.result.now = row_at d c.args.plan.now c.requires.plan c.args.k c.get-3.result.now c.get-3.ensures c.get-2.result.now c.get-2.ensures in
    subst (λ (ts : List Task). AreAt ts (waited c.get-3.result.now) c.as_slice-places.result.now) (sym c.as_slice.ensures)
    (subst (λ (ps : List ℕ). AreAt d.tasks (waited c.get-3.result.now) ps) (sym c.as_slice-places.ensures) at)

pub returns-in-Waits : goal.returns-in-Waits
returns-in-Waits c =
    let d = c.args.dag.now in
    let row = c.get-2.result.now in
    let tk = c.get-3.result.now in
    told_waits d c.args.k c.args.state.now row c.in_ok-found.found c.in_ok-verdict.verdict
    (λ t there. meant_at d c.args.plan.now c.requires.plan c.args.k t there true (c.get.ensures ∙ ap (λ (b : Bool). Some b) c.if-not-get.false))
    (λ t there. row_at d c.args.plan.now c.requires.plan c.args.k t there row c.get-2.ensures)
    (λ doomed place ss over. c.in_ok-found.ensures.seen doomed place ss over ∙ ap (λ (ps : List ℕ). map (λ p. seen (stood ss p)) ps) c.as_slice-places.ensures)
    (λ t there of stand.
    (let both : Some tk ≡ Some t = sym c.get-3.ensures ∙ there in
    let same : tk ≡ t = cc both in
    c.in_ok-verdict.ensures of (ap (λ (u : Task). map of (waited u)) same ∙ stand ∙ sym c.as_slice-2.ensures)
    ∙ (λ i. verdict (c.as_slice.ensures i) of (same i))))
    c.in-Waits.is

pub returns-in-Holds : goal.returns-in-Holds
returns-in-Holds c =
    let d = c.args.dag.now in
    let row = c.get-2.result.now in
    let tk = c.get-3.result.now in
    told_freed d c.args.k c.args.state.now row c.in_ok-found.found c.in_ok-verdict.verdict
    (λ t there. meant_at d c.args.plan.now c.requires.plan c.args.k t there true (c.get.ensures ∙ ap (λ (b : Bool). Some b) c.if-not-get.false))
    (λ t there. row_at d c.args.plan.now c.requires.plan c.args.k t there row c.get-2.ensures)
    (λ doomed place ss over. c.in_ok-found.ensures.seen doomed place ss over ∙ ap (λ (ps : List ℕ). map (λ p. seen (stood ss p)) ps) c.as_slice-places.ensures)
    (λ t there of stand.
    (let both : Some tk ≡ Some t = sym c.get-3.ensures ∙ there in
    let same : tk ≡ t = cc both in
    c.in_ok-verdict.ensures of (ap (λ (u : Task). map of (waited u)) same ∙ stand ∙ sym c.as_slice-2.ensures)
    ∙ (λ i. verdict (c.as_slice.ensures i) of (same i))))
    c.in-Holds.is

pub returns : goal.returns
returns c =
    let d = c.args.dag.now in
    let row = c.get-2.result.now in
    let tk = c.get-3.result.now in
    told_omitted d c.args.k c.args.state.now row c.in_ok-found.found c.in_ok-verdict.verdict
    (λ t there. meant_at d c.args.plan.now c.requires.plan c.args.k t there true (c.get.ensures ∙ ap (λ (b : Bool). Some b) c.if-not-get.false))
    (λ t there. row_at d c.args.plan.now c.requires.plan c.args.k t there row c.get-2.ensures)
    (λ doomed place ss over. c.in_ok-found.ensures.seen doomed place ss over ∙ ap (λ (ps : List ℕ). map (λ p. seen (stood ss p)) ps) c.as_slice-places.ensures)
    (λ t there of stand.
    (let both : Some tk ≡ Some t = sym c.get-3.ensures ∙ there in
    let same : tk ≡ t = cc both in
    c.in_ok-verdict.ensures of (ap (λ (u : Task). map of (waited u)) same ∙ stand ∙ sym c.as_slice-2.ensures)
    ∙ (λ i. verdict (c.as_slice.ensures i) of (same i))))
    c.in-Denied.field-0 c.in-Denied.is
