-- A fact of a kind and path is there exactly where there is a first one.
use Rattle.std.proofs.Common.{List, sym, ◌∙◌, ap, ap₂}
use Rattle.std.specs.Prelude.{Option, is_some}
use Rattle.std.specs.List.{find}
use Rattle.tree_types.specs.declared.path.Sel.{Sel}
use Rattle.tree_types.specs.declared.fact.Fact.{Fact}
use Rattle.shared_facts.specs.declared.kind.Kind.{Kind}
use Rattle.shared_facts.specs.Inside.Kinds.{is_of}
use Rattle.shared_facts.proofs.Found.{lent_is_some, knows_found}
use Rattle.shared_facts.proofs.facts.SharedFacts.knows.Goals as goal

pub returns : goal.returns
returns c =
    let J = c.args.self.now in
    c.is_some.ensures ∙ lent_is_some c.first.result ∙ ap (λ (o : Option Fact). is_some o) c.first.ensures ∙ ap₂ (λ (kind : Kind) (p : List Sel). is_some (find (is_of kind p) J)) c.kind_of.ensures c.sels_of.ensures ∙ sym (knows_found J c.args.fact.now)
