use Rattle.std.proofs.Common.{◌≡◌, true, ℕ, List, sym, subst}
use Rattle.std.specs.List.{list_all}
use Rattle.node_names.specs.Names.{is_no_parenthesis}
use Rattle.call_nodes.proofs.ItemName.{item_name}
use Rattle.call_nodes.proofs.places.item_place.Goals as goal

pub child-requires-clause-sound : goal.child-requires-clause-sound
child-requires-clause-sound c =
    (c.ranges.i.fits, subst (λ (t : List ℕ). list_all is_no_parenthesis t ≡ true) (sym c.in_ok-text.ensures) (item_name c.args.item.now))
