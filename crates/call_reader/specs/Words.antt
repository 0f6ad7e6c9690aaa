-- The names in a text, parted by spaces and tabs (field reference, `DAGTemplate.target`).
use Rattle.std.specs.Prelude.{ℕ, List, [], ◌∷◌, ◌==◌, Option, Some}
use Rattle.std.specs.List.{slice_split, flat_map}

abbrev pub if_any : List ℕ → List (List ℕ)
if_any [] = []
if_any (b ∷ bs) = (b ∷ bs) ∷ []

-- the parts of a text between its spaces, those that are not empty
abbrev pub between_spaces : List ℕ → List (List ℕ)
between_spaces t = flat_map if_any (slice_split (λ b. b == 32) t)

-- Of the parts between tabs, those between spaces. There may be several of either, at the ends too.
abbrev pub words : List ℕ → List (List ℕ)
words t = flat_map between_spaces (slice_split (λ b. b == 9) t)

-- each text is of this grammar
abbrev pub task_names : List ℕ → Option (List (List ℕ))
task_names t = Some (words t)
