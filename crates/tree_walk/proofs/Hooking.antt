-- The scope of an exit hook.
use Rattle.std.proofs.Common.{◌≡◌, List, ℕ, [], ◌++◌, Result, Ok, Err, IfOk, refl, ap, ◌∙◌}
use Rattle.tree_types.specs.declared.node.Node.{Node}
use Rattle.scopes.specs.Substitution.{Scope, value_in}
use Rattle.scopes.specs.Values.{HasValuesOf}
use Rattle.scopes.proofs.ValueIn.{from_none, over_alike}
use Rattle.meaning.specs.Lines.{Made, tags_of}

pub hook_seen : {E : Type 0} (r : Result Scope E) (none tags around : Scope) (label : List ℕ) (n : Node) → none ≡ []
    → ((m : Made) → m.own.node ≡ n → HasValuesOf tags (tags_of label m ++ none)) → IfOk r (λ s. s ≡ tags ++ around)
    → IfOk r (λ s. (b : Made) → b.own.node ≡ n → HasValuesOf s (tags_of label b ++ around))
hook_seen (Err e) none tags around label n empty own is = is
hook_seen (Ok s) none tags around label n empty own is = λ b node q.
    ap (λ (x : Scope). value_in x q) is
    ∙ over_alike (tags_of label b) around tags around (from_none (tags_of label b) tags none empty (own b node)) (λ t. refl) q
