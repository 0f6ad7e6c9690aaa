-- None stands behind it in the plan.
use Rattle.std.proofs.Common.{◌≡◌, ℕ, List, [], get_or, length, sym, ap, ◌∙◌}
use Rattle.std.specs.Prelude.{nat_eq}
use Rattle.std.proofs.lemmas.Option.{get_or_from_slice_get}
use Rattle.dag_stays.proofs.Lasts.{last_is}
use Rattle.dag_stays.proofs.unseen.is_last.Goals as goal

pub returns : goal.returns
returns c =
    let behind = c.args.plan.now.behind in
    let same : c.as_slice.result.now ≡ get_or behind c.args.j [] = c.as_slice.ensures ∙ sym (get_or_from_slice_get behind c.args.j c.get.result.now [] c.get.ensures) in
    c.is_empty.ensures ∙ ap (λ (ks : List ℕ). nat_eq (length ks) 0) same
    ∙ sym (last_is c.args.dag.now c.args.plan.now c.requires.plan c.args.j c.args.task.now c.requires.task)
