-- All buckets are empty.
use Rattle.std.proofs.Common.{◌≡◌, List, [], replicate, ◌∙◌, ap, subst, sym}
use Rattle.tree_types.specs.declared.fact.Fact.{Fact}
use Rattle.buckets.specs.Buckets.{buckets}
use Rattle.shared_facts.specs.Inside.Tables.{IsTabled}
use Rattle.shared_facts.proofs.Tabled.{tabled_none}
use Rattle.shared_facts.proofs.facts.SharedFacts.new.Goals as goal

pub invariant_of-result : goal.invariant_of-result
invariant_of-result c =
    let table : List (List Fact) = c.in_ok-filled.field-0 in
    let filled : table ≡ replicate buckets [] = c.in_ok-filled.ensures ∙ ap (λ (bucket : List Fact). replicate buckets bucket) c.in_ok-empty.ensures in
    let none : c.in_ok-new.field-0 ≡ [] = c.in_ok-new.ensures in
    subst (λ (facts : List Fact). IsTabled facts table) (sym none) (tabled_none table filled)
