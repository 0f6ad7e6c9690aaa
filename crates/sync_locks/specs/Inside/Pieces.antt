-- Lists in pieces.
use Rattle.std.specs.Prelude.{ℕ, List, [], ◌∷◌, ◌++◌, Option, Some, None, slice_set}
use Rattle.std.specs.List.{insert, remove}
use Rattle.std.specs.declared.sync.Arc.{Arc}
use Rattle.std.specs.declared.alloc.Global.{Global}
use Rattle.std.specs.declared.vec.Vec.{Vec}

abbrev pub Piece : Type 0 → Type 0
Piece T = Arc (Vec T Global) Global

-- the items of all pieces, in order
abbrev pub joined : {T : Type 0} → List (Piece T) → List T
joined [] = []
joined (p ∷ ps) = p.value.items ++ joined ps

-- with an item at a position, where it is still to be put there
abbrev pub put : {T : Type 0} → List T → Option ℕ → T → List T
put xs None x = xs
put xs (Some i) x = insert xs i x

-- without the item at a position, where it is still to be taken away
abbrev pub taken : {T : Type 0} → List T → Option ℕ → List T
taken xs None = xs
taken xs (Some i) = remove xs i

-- with an item in the place of the one at a position, where it is still to be set there
abbrev pub changed : {T : Type 0} → List T → Option ℕ → T → List T
changed xs None x = xs
changed xs (Some i) x = slice_set xs i x
