use Rattle.std.proofs.Common.{◌≡◌, true, Bool, Option, Some, None, option_map, sym, ap, ◌∙◌}
use Rattle.std.specs.Prelude.{if◌then◌else◌, option_and_then}
use Rattle.tree_types.specs.declared.fact.Fact.{Fact}
use Rattle.tree_types.specs.declared.fact.Fact.TheVariants.{Carried}
use Rattle.tree_types.specs.declared.node.Note.{Note}
use Rattle.tree_types.specs.declared.outcome.Outcome.{Outcome}
use Rattle.meaning.specs.Answers.{outcome_at}
use Rattle.recorded.specs.Ends.{outcome_of, end_of}
use Rattle.law.specs.Justified.{has_succeeded, carried_if}
use Rattle.wf_object.proofs.carrying.carried_pod.Goals as goal

pub returns-then-has_succeeded : goal.returns-then-has_succeeded
returns-then-has_succeeded c =
    let n = c.args.node.now in
    let J = c.args.facts.now in
    let e = c.in-Some.ended in
    let at : outcome_at J n.path.sels ≡ Some (end_of e) = sym (c.in-Some.ensures ∙ ap (outcome_at J) c.in_ok-copy.ensures) in
    let yes : has_succeeded n ≡ true = sym c.has_succeeded.ensures ∙ c.if-has_succeeded.true in
    ap Some c.in_ok-carried_fact-in-Some.ensures
    ∙ sym (ap (λ (o : Option (Note × Outcome)). option_and_then (carried_if n) (option_map (λ (x : Note × Outcome). x.1) o)) at
    ∙ ap (λ (b : Bool). if b then Some (Carried n.path (outcome_of e)) else None) yes)
