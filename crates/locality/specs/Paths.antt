-- Paths that begin with others.
use Rattle.std.specs.Prelude.{◌≡◌, [], ◌∷◌, Bool, true, false, ◌&&◌}
use Rattle.tree_types.specs.Places.{sel_eq}
use Rattle.meaning.specs.Answers.{Sels}

-- the first path begins with the second
abbrev pub begins_with : Sels → Sels → Bool
begins_with p [] = true
begins_with [] (t ∷ at) = false
begins_with (s ∷ p) (t ∷ at) = sel_eq s t && begins_with p at

-- what changes is neither at this path nor below it
abbrev pub IsOff : Sels → Sels → Type 0
IsOff changed at = begins_with changed at ≡ false
