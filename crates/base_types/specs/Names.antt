-- Names in a list.
use Rattle.std.specs.Prelude.{ℕ, List, [], ◌∷◌, ◌++◌, Bool, true, not, ◌&&◌, bytes_eq}
use Rattle.std.specs.List.{list_any}

-- the name is one of these
abbrev pub is_among : List (List ℕ) → List ℕ → Bool
is_among names name = list_any (bytes_eq name) names

abbrev pub differ_from : List (List ℕ) → List (List ℕ) → Bool
differ_from before [] = true
differ_from before (name ∷ names) = not (is_among before name) && differ_from (before ++ name ∷ []) names

-- no name stands twice: none is among those before it
abbrev pub all_differ : List (List ℕ) → Bool
all_differ names = differ_from [] names
