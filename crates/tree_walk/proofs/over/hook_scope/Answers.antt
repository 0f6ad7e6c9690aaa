use Rattle.std.proofs.Common.{◌≡◌, ◌++◌, List, ℕ, subst}
use Rattle.scopes.specs.Values.{HasValuesOf}
use Rattle.meaning.specs.Lines.{Made, tags_of}
use Rattle.tree_walk.specs.Walking.{label_of}
use Rattle.tree_walk.proofs.Hooking.{hook_seen}
use Rattle.tree_walk.proofs.over.hook_scope.Goals as goal

pub returns : goal.returns
returns c =
    let own = subst (λ (p : List ℕ). (m : Made) → m.own.node ≡ c.args.node.now → HasValuesOf c.add_tags_of.new.tags (tags_of (p ++ c.args.after.name.now) m ++ c.new-tags.result)) c.prefix.ensures c.in_ok-add_tags_of.ensures in
    hook_seen c.with.result c.new-tags.result c.add_tags_of.new.tags c.args.scope.now (label_of c.args.after) c.args.node.now c.new-tags.ensures own c.with.ensures
