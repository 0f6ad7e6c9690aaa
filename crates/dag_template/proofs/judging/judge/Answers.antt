-- By how those stand that it waits for.
use Rattle.std.proofs.Common.{◌<◌, ℕ, List, length, get_or, sym, ap, subst, ◌∙◌}
use Rattle.std.specs.List.{All}
use Rattle.std.proofs.lemmas.List.{length-map}
use Rattle.task_order.specs.Orders.{waited}
use Rattle.dag_template.specs.declared.stands.Stand.{Stand}
use Rattle.dag_template.specs.Stands as spec
use Rattle.dag_template.proofs.Places.{places_low, all_looked}
use Rattle.dag_template.proofs.judging.judge.Goals as goal

pub stands_at-requires : goal.stands_at-requires
stands_at-requires c =
    subst (λ (n : ℕ). All (λ p. p < n) c.args.places.now) c.requires.each
    (places_low c.args.tasks.now (waited c.args.task.now) c.args.places.now c.requires.places)

pub judge_found-requires-clause-each : goal.judge_found-requires-clause-each
judge_found-requires-clause-each c =
    sym (length-map c.args.places.now (λ (p : ℕ). get_or c.args.stands.now p spec.waits))
    ∙ ap (λ (ss : List Stand). length ss) (sym (c.as_slice.ensures ∙ c.in_ok-found.ensures))

pub returns : goal.returns
returns c =
    let ts = c.args.tasks.now in
    let ss = c.args.stands.now in
    let found = c.as_slice.ensures ∙ c.in_ok-found.ensures in
    c.judge_found.ensures (spec.stand_of ts ss)
    (all_looked ts ss (waited c.args.task.now) c.args.places.now c.requires.each c.requires.places ∙ sym found)
