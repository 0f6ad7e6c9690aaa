-- What kind and path a fact is of.
use Rattle.std.specs.Prelude.{List, [], Bool, true, false, ◌&&◌}
use Rattle.tree_types.specs.declared.path.Sel.{Sel}
use Rattle.tree_types.specs.declared.fact.Fact.{Fact}
use Rattle.tree_types.specs.declared.fact.Fact.TheVariants as fact
use Rattle.tree_types.specs.Places.{sels_eq}
use Rattle.shared_facts.specs.declared.kind.Kind.{Kind}
use Rattle.shared_facts.specs.declared.kind.Kind.TheVariants.{Started, Settled, Carried, Granted, Memo, Armed, Due, Resumed, Begun}

abbrev pub kind_of : Fact → Kind
kind_of fact.Started = Started
kind_of (fact.Settled p o) = Settled
kind_of (fact.Carried p o) = Carried
kind_of (fact.Granted p) = Granted
kind_of (fact.Memo p answer) = Memo
kind_of (fact.Armed p tick) = Armed
kind_of (fact.Due p) = Due
kind_of (fact.Resumed p) = Resumed
kind_of (fact.Begun p) = Begun

-- the path that a fact is of; the empty path, if it is of none
abbrev pub sels_of : Fact → List Sel
sels_of fact.Started = []
sels_of (fact.Settled p o) = p.sels
sels_of (fact.Carried p o) = p.sels
sels_of (fact.Granted p) = p.sels
sels_of (fact.Memo p answer) = p.sels
sels_of (fact.Armed p tick) = p.sels
sels_of (fact.Due p) = p.sels
sels_of (fact.Resumed p) = p.sels
sels_of (fact.Begun p) = p.sels

abbrev pub kind_eq : Kind → Kind → Bool
kind_eq Started Started = true
kind_eq Settled Settled = true
kind_eq Carried Carried = true
kind_eq Granted Granted = true
kind_eq Memo Memo = true
kind_eq Armed Armed = true
kind_eq Due Due = true
kind_eq Resumed Resumed = true
kind_eq Begun Begun = true
kind_eq _ _ = false

abbrev pub is_of : Kind → List Sel → Fact → Bool
is_of kind p f = kind_eq (kind_of f) kind && sels_eq (sels_of f) p
