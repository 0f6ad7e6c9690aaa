use Rattle.std.proofs.Common.{◌≡◌, rules, Bool, true, ◌&&◌, List, sym, ◌∙◌, ap}
use denote.Enum.Bare.{same_true}
use Rattle.shared_facts.specs.contracts.kind.Kind.{the_type}
use Rattle.tree_types.specs.declared.path.Sel.{Sel}
use Rattle.tree_types.specs.Places.{sels_eq}
use Rattle.tree_types.proofs.Sels.{sels_tested}
use Rattle.shared_facts.specs.Inside.Kinds.{kind_of, kind_eq, sels_of}
use Rattle.shared_facts.proofs.Same.{kind_itself}
use Rattle.shared_facts.proofs.kind.is_of.Goals as goal

pub returns-then-eq : goal.returns-then-eq
returns-then-eq c =
    let f = c.args.fact.now in
    let p = c.args.sels.now in
    let here : kind_of f ≡ c.args.kind = sym c.kind_of.ensures ∙ same_true the_type (search rules) _ _ (sym c.if-eq.ensures) in
    let same : kind_eq (kind_of f) c.args.kind ≡ true = ap (λ k. kind_eq k c.args.kind) here ∙ kind_itself c.args.kind in
    c.eq-then-eq.ensures ∙ sels_tested c.sels_of.result.now p ∙ ap (λ (q : List Sel). sels_eq q p) c.sels_of.ensures ∙ ap (λ (b : Bool). b && sels_eq (sels_of f) p) (sym same)
