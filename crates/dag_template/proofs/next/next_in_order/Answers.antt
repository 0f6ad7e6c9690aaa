-- What follows the tasks as they are seen is what follows.
use Rattle.std.proofs.Common.{◌≡◌, ◌<◌, ℕ, List, length, map, get_or, ap, sym, subst, ◌∙◌}
use Rattle.std.specs.Prelude.{IfOk}
use Rattle.std.specs.List.{All}
use Rattle.meaning.specs.Dags.{target_names}
use Rattle.dag_template.specs.declared.states.DagStep.{DagStep}
use Rattle.dag_template.specs.declared.stands.Stand.{Stand}
use Rattle.dag_template.specs.Stands.{waits, stand_of}
use Rattle.dag_template.specs.Order.{sights}
use Rattle.dag_template.specs.Following.{step_seen}
use Rattle.dag_template.proofs.Places.{places_low, all_looked}
use Rattle.dag_template.proofs.Ordered.{told_long}
use Rattle.dag_template.proofs.StepSeen.{step_told}
use Rattle.dag_template.proofs.next.next_in_order.Goals as goal

pub stands_at-requires : goal.stands_at-requires
stands_at-requires c =
    let d = c.args.dag.now in
    let plan = c.args.plan.now in
    let long = told_long d c.args.tasks.now c.rounds_settle.ensures c.requires.plan.ranked
    ∙ sym (ap (λ (xs : List Stand). length xs) (c.as_slice.ensures.value ∙ c.in_ok-stands.ensures)) in
    subst (λ (ps : List ℕ). All (λ p. p < length c.as_slice.result.now) ps) (sym c.as_slice-2.ensures)
    (subst (λ (n : ℕ). All (λ p. p < n) plan.targets) long (places_low d.tasks (target_names d) plan.targets c.requires.plan.targets))

pub step_of-requires : goal.step_of-requires
step_of-requires c =
    let long = ap (λ (xs : List Stand). length xs) (c.as_slice-3.ensures.value ∙ c.in_ok-stands.ensures)
    ∙ sym (told_long c.args.dag.now c.args.tasks.now c.rounds_settle.ensures c.requires.plan.ranked) in
    record { few = subst (λ (n : ℕ). n < 4294967296) (sym long) c.requires.few }

pub returns : goal.returns
returns c =
    let d = c.args.dag.now in
    let plan = c.args.plan.now in
    let told = sights d c.args.tasks.now in
    let long = told_long d c.args.tasks.now c.rounds_settle.ensures c.requires.plan.ranked in
    let stands = c.as_slice-3.ensures.value ∙ c.in_ok-stands.ensures in
    let looked = c.as_slice.ensures.value ∙ c.in_ok-stands.ensures in
    let found : c.as_slice-4.result.now ≡ map (stand_of d.tasks told) (target_names d) =
    c.as_slice-4.ensures ∙ c.in_ok-found.ensures
    ∙ ap (λ (ps : List ℕ). map (λ p. get_or c.as_slice.result.now p waits) ps) c.as_slice-2.ensures
    ∙ ap (λ (xs : List Stand). map (λ p. get_or xs p waits) plan.targets) looked
    ∙ sym (all_looked d.tasks told (target_names d) plan.targets long c.requires.plan.targets) in
    let same =
    ap (λ (xs : List Stand). step_seen d.fail_fast xs c.as_slice-4.result.now) stands
    ∙ ap (λ (xs : List Stand). step_seen d.fail_fast told xs) found
    ∙ step_told d c.args.tasks.now c.rounds_settle.ensures c.requires.plan.ranked in
    subst (λ (x : DagStep). IfOk c.step_of.result (λ step. step ≡ x)) same c.step_of.ensures
