-- The bucket of the fact has it at its end, as the facts have.
use Rattle.std.proofs.Common.{◌≡◌, List, [], ◌∷◌, ◌++◌, sym, ◌∙◌, ap, ap₂}
use Rattle.tree_types.specs.declared.fact.Fact.{Fact}
use Rattle.shared_facts.specs.Inside.Kinds.{sels_of}
use Rattle.shared_facts.specs.Inside.Keys.{key_of}
use Rattle.shared_facts.specs.Inside.Tables.{bucket_of}
use Rattle.shared_facts.proofs.Tabled.{tabled_added}
use Rattle.shared_facts.proofs.facts.SharedFacts.add.Goals as goal

pub invariant_of-self-2 : goal.invariant_of-self-2
invariant_of-self-2 c =
    let J : List Fact = c.self.inside.facts in
    let table : List (List Fact) = c.self.inside.table in
    let f = c.args.fact in
    let own = c.key_of-key.result in
    let same : c.in_ok-fact.fact ≡ f = c.in_ok-fact.ensures in
    let copied : c.in_ok-copy.field-0 ≡ f = c.in_ok-copy.ensures ∙ same in
    let key : own ≡ key_of (sels_of f) = c.key_of-key.ensures.is ∙ ap key_of c.sels_of.ensures in
    let facts : c.push_shared-2.new.self ≡ J ++ f ∷ [] =
    c.in_ok-push_shared-2.ensures.ok ∙ ap₂ (λ (x : List Fact) (y : Fact). x ++ y ∷ []) c.in_ok-facts.ensures same in
    let old : c.in_ok-bucket.bucket ≡ bucket_of own J =
    c.in_ok-bucket.ensures ∙ c.bucket.ensures ∙ ap (bucket_of own) (sym c.self.view_is) in
    let bucket : c.push_shared.new.self ≡ bucket_of own J ++ f ∷ [] =
    c.in_ok-push_shared.ensures.ok ∙ ap₂ (λ (x : List Fact) (y : Fact). x ++ y ∷ []) old copied in
    tabled_added J c.push_shared-2.new.self c.push_shared.new.self table c.set.new.self f own key c.key_of-key.ensures.few c.self.invariant facts bucket c.in_ok-set.ensures.ok
