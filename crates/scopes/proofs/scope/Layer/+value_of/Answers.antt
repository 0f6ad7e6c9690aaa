use Rattle.std.proofs.Common.{◌≡◌, Option, Some, None, MatchOption, List, ℕ, sym, ap, ◌∙◌, subst, Global}
use Rattle.std.specs.declared.sync.Arc.{Arc}
use Rattle.scopes.specs.Inside.Layers.{Layered, outer_tags}
use Rattle.scopes.specs.Substitution.{value_in}
use Rattle.scopes.proofs.ValueIn.{in_tags, behind_tags}
use Rattle.scopes.proofs.scope.Layer.+value_of.Goals as goal

pub returns-in-Some : goal.returns-in-Some
returns-in-Some t c =
    let tag = c.args.tag.now in
    ap (λ (l : Layered). value_in l.tags tag) (sym c.self.view_is) ∙ in_tags c.self.inside.tags (outer_tags c.self.inside.outer) tag c.in-Some.value.now c.in-Some.ensures

pub returns-in-Some-outer : goal.returns-in-Some-outer
returns-in-Some-outer t c =
    let tag = c.args.tag.now in
    let same : value_in c.args.self.now.tags tag ≡ value_in c.deref.result.now.tags tag =
    ap (λ (l : Layered). value_in l.tags tag) (sym c.self.view_is)
    ∙ behind_tags c.self.inside.tags (outer_tags c.self.inside.outer) tag c.in_default.ensures
    ∙ ap (λ (o : Option (Arc Layered Global)). value_in (outer_tags o) tag) c.in-Some-outer.is
    ∙ ap (λ (l : Layered). value_in l.tags tag) (sym c.deref.ensures) in
    subst (λ (o : Option (List ℕ)). MatchOption c.value_of-in-Some-outer.result (o ≡ None) (λ v. o ≡ Some v.now)) (sym same) c.value_of-in-Some-outer.ensures
