-- What the nodes of a list carry over, node by node.
use Rattle.std.proofs.Common.{◌≡◌, ℕ, ◌+◌, ◌<◌, ◌++◌, [], ◌∷◌, List, length, take, get_or, filter_map, Option, Some, None, sym, ap, ◌∙◌, append-nil}
use Rattle.std.specs.List.{cons_option}
use Rattle.std.proofs.lemmas.List.{take_more}
use Rattle.std.proofs.lemmas.List.Elements.{filter_map-append}
use Rattle.tree_types.specs.declared.fact.Fact.{Fact}
use Rattle.tree_types.specs.declared.node.Node.{Node}
use Rattle.meaning.specs.Answers.{Facts}
use Rattle.law.specs.Justified.{carried_by}

module _ (J : Facts) (ns : List Node) (i : ℕ) (n : Node) (facts : Facts) (below : i < length ns) (is : n ≡ get_or ns i n) (so_far : facts ≡ filter_map (carried_by J) (take i ns)) where
  more : filter_map (carried_by J) (take (i + 1) ns) ≡ facts ++ cons_option (carried_by J n) []
  more =
      ap (filter_map (carried_by J)) (take_more ns i n below ∙ ap (λ (k : Node). take i ns ++ k ∷ []) (sym is))
      ∙ filter_map-append (carried_by J) (take i ns) (n ∷ [])
      ∙ ap (λ (fs : Facts). fs ++ cons_option (carried_by J n) []) (sym so_far)

  pub with_one : (f : Fact) (new : Facts) → Some f ≡ carried_by J n → new ≡ facts ++ f ∷ [] → new ≡ filter_map (carried_by J) (take (i + 1) ns)
  with_one f new e add = add ∙ ap (λ (o : Option Fact). facts ++ cons_option o []) e ∙ sym more

  pub with_none : (new : Facts) → None ≡ carried_by J n → new ≡ facts → new ≡ filter_map (carried_by J) (take (i + 1) ns)
  with_none new e same = same ∙ sym (append-nil facts) ∙ ap (λ (o : Option Fact). facts ++ cons_option o []) e ∙ sym more
