-- Journals: lists of facts with at most one of a kind per path.
use Rattle.std.specs.Prelude.{List, [], ◌∷◌, Bool, true, false, not, ◌&&◌}
use Rattle.std.specs.List.{list_any}
use Rattle.tree_types.specs.declared.fact.Fact.{Fact}
use Rattle.tree_types.specs.declared.fact.Fact.TheVariants.{Started, Settled, Carried, Granted, Memo, Armed, Due, Resumed, Begun}
use Rattle.tree_types.specs.Places.{sels_eq}

-- two facts are of one kind and path
abbrev pub is_alike : Fact → Fact → Bool
is_alike Started Started = true
is_alike (Settled p _) (Settled q _) = sels_eq p.sels q.sels
is_alike (Carried p _) (Carried q _) = sels_eq p.sels q.sels
is_alike (Granted p) (Granted q) = sels_eq p.sels q.sels
is_alike (Memo p _) (Memo q _) = sels_eq p.sels q.sels
is_alike (Armed p _) (Armed q _) = sels_eq p.sels q.sels
is_alike (Due p) (Due q) = sels_eq p.sels q.sels
is_alike (Resumed p) (Resumed q) = sels_eq p.sels q.sels
is_alike (Begun p) (Begun q) = sels_eq p.sels q.sels
is_alike _ _ = false

-- the list has a fact of that kind and path
abbrev pub knows : List Fact → Fact → Bool
knows facts fact = list_any (λ known. is_alike known fact) facts

-- the list has a fact of the kind and path of this earlier one
abbrev pub comes_again : Fact → List Fact → Bool
comes_again fact later = list_any (is_alike fact) later

-- no two facts of the list are of one kind and path
abbrev pub is_journal : List Fact → Bool
is_journal [] = true
is_journal (f ∷ fs) = not (comes_again f fs) && is_journal fs
