-- The pods that are asked for keep the names of their nodes.
use Rattle.std.proofs.Common.{◌≡◌, Bool, true, false, cond, List, [], ◌∷◌, ◌++◌, Some, refl, sym, ap, ◌∙◌, inl, inr, option_map}
use Rattle.std.specs.List.{find}
use Rattle.tree_types.specs.declared.path.Path.{Path}
use Rattle.tree_types.specs.declared.node.Node.{Node}
use Rattle.tree_types.specs.declared.want.Want.TheVariants as want
use Rattle.tree_types.specs.Places.{sels_eq}
use Rattle.tree_types.proofs.Sels.{sels_same, sels_are}
use Rattle.meaning.specs.Answers.{path, answers}
use Rattle.meaning.specs.Trees.{tree, wants}
use Rattle.growth.specs.Growth.{Among}
use Rattle.growth.specs.Nodes.{Unlike}
use Rattle.growth.proofs.GrowingTrees.{grows_by_answers}
use Rattle.growth.proofs.OnePath.{one_path}
use Rattle.askings.proofs.HasNode.{has_node}
use Rattle.tree_state.specs.declared.kinds.WantKind.TheVariants.{Pod}
use Rattle.pod_laws.specs.NewPods.{name_at, NamesAreKept}
use Rattle.pod_laws.proofs.Asked.{says_more, is_fair}
use Rattle.pod_laws.proofs.OfKind.{want_of}

-- ---- a node of a list in which no two have one path is found by its path

module _ (n : Node) where
  abbrev is_there : Node → Bool
  is_there o = sels_eq o.path.sels n.path.sels

  past : (x : Node) (ns : List Node) (b : Bool) → is_there x ≡ b → (n.path ≡ x.path → ⊥) → find is_there ns ≡ Some n → find is_there (x ∷ ns) ≡ Some n
  past x ns true is apart found = absurd (apart (sym (ap path (sels_same x.path.sels n.path.sels is))))
  past x ns false is apart found = ap (λ (b : Bool). cond b (Some x) (find is_there ns)) is ∙ found

  is_found : (ns : List Node) → Unlike (λ (o : Node). o.path) ns → Among n ns → find is_there ns ≡ Some n
  is_found [] apart has = absurd has
  is_found (x ∷ ns) apart (inl e) =
      ap (λ (b : Bool). cond b (Some x) (find is_there ns)) (ap is_there e ∙ sels_are n.path.sels) ∙ ap (λ (o : Node). Some o) e
  is_found (x ∷ ns) apart (inr later) = past x ns (is_there x) refl (apart.0 n later) (is_found ns apart.1 later)

  pub is_named : (ns : List Node) → Unlike (λ (o : Node). o.path) ns → Among n ns → (p : Path) → n.path ≡ p → name_at ns p.sels ≡ Some n.name
  is_named ns apart has p at =
      ap (λ (q : Path). name_at ns q.sels) (sym at) ∙ ap (option_map (λ (o : Node). o.name)) (is_found ns apart has)

pub names_are_kept : NamesAreKept
names_are_kept m J f a p asked =
    let K = J ++ f ∷ [] in
    let owner = has_node m (answers J) (want.Pod p) (want_of Pod (want.Pod p) (wants m J) asked) in
    let n = owner.0 in
    let later = grows_by_answers m (answers J) (answers K) (says_more m J f a) (is_fair m J f a) n owner.1 in
    let o = later.0 in
    is_named o (tree m K) (one_path m (answers K)) later.1 p (later.2.path ∙ owner.2.0)
    ∙ ap (λ (name : _). Some name) later.2.name
    ∙ sym (is_named n (tree m J) (one_path m (answers J)) owner.1 p owner.2.0)
