-- Each task in its turn is seen as it stands.
use Rattle.std.proofs.Common.{ℕ, ◌≡◌, ◌<◌, ◌≤◌, List, length, get_or, set, take, suc, Some, ap, sym, subst, ◌∙◌, add-one, arith}
use Rattle.std.proofs.lemmas.List.{length-set, take_all}
use Rattle.std.proofs.lemmas.Option.{get_or_from_slice_get}
use Rattle.std.specs.Prelude.{slice_get}
use Rattle.std.specs.List.{All}
use Rattle.wf_manifest.specs.declared.calls.Task.{Task}
use Rattle.meaning.specs.Dags.{is_meant}
use Rattle.dag_template.specs.declared.stands.Stand.{Stand}
use Rattle.dag_template.specs.States.{state_of}
use Rattle.dag_template.specs.Stands.{stand_of, stand_if}
use Rattle.dag_template.specs.Order.{sights}
use Rattle.dag_template.proofs.Ordered.{task_at, Settled, told_long, more_settled, whole_settled}
use Rattle.dag_template.proofs.in_order.stands_in_order.Goals as goal

pub loop-k-preserved : goal.loop-k-preserved
loop-k-preserved c =
    let d = c.args.dag.now in
    let states = c.args.tasks.now in
    let plan = c.args.plan.now in
    let stands = c.loop-k.stands.items in
    let k = c.loop-k.k in
    let p = c.get-place.result.now in
    let low : k < length plan.order = subst (λ (n : ℕ). k < n) c.len-k-end.ensures c.loop-k-test.true in
    let here : get_or plan.order k 0 ≡ p = get_or_from_slice_get plan.order k p 0 c.get-place.ensures in
    let within : get_or plan.order k 0 < length d.tasks = c.requires.plan.order.within k 0 low in
    let below : get_or plan.order k 0 < length stands = omega (arith, within, c.loop-k.invariant.long) in
    let task = task_at d.tasks (get_or plan.order k 0) within in
    let t : Task = task.0 in
    let there : slice_get d.tasks p ≡ Some t = subst (λ (x : ℕ). slice_get d.tasks x ≡ Some t) here task.1 in
    let found =
    c.in_ok-found.ensures t there
    ∙ ap (λ (xs : List Stand). stand_if d (stand_of d.tasks xs) t (state_of states p) (is_meant d t)) c.as_slice.ensures.value
    ∙ ap (λ (x : ℕ). stand_if d (stand_of d.tasks stands) t (state_of states x) (is_meant d t)) (sym here) in
    let more = more_settled d states c.rounds_settle.ensures c.requires.plan.ranked plan.order c.requires.plan.order stands k low
    c.loop-k.invariant.long c.loop-k.invariant.settled t task.1 below c.in_ok-found.found found in
    rw add-one (record {
      long = length-set stands p c.in_ok-found.found ∙ c.loop-k.invariant.long;
      settled =
          subst (λ (x : ℕ). All (Settled (sights d states) (set stands x c.in_ok-found.found)) (take (suc k) plan.order)) here more;
    })

pub returns : goal.returns
returns c =
    let d = c.args.dag.now in
    let states = c.args.tasks.now in
    let plan = c.args.plan.now in
    let stands = c.loop-k.stands.items in
    let told = sights d states in
    let past : length plan.order ≤ c.loop-k.k = subst (λ (n : ℕ). n ≤ c.loop-k.k) c.len-k-end.ensures c.loop-k-test.false in
    let all = subst (λ (qs : List ℕ). All (Settled told stands) qs) (take_all c.loop-k.k plan.order past) c.loop-k.invariant.settled in
    whole_settled plan.order told stands (c.loop-k.invariant.long ∙ told_long d states c.rounds_settle.ensures c.requires.plan.ranked)
    (λ p l. c.requires.plan.order.whole p (omega (arith, l, c.loop-k.invariant.long))) all
