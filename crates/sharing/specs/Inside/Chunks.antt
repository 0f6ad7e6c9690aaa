-- A list in chunks.
use Rattle.std.specs.Prelude.{◌≡◌, ℕ, ◌≤◌, List, [], ◌∷◌, ◌++◌, length}

-- how many items a chunk has
abbrev pub room : ℕ
room = 64

abbrev pub joined : {X : Type 0} → List (List X) → List X
joined [] = []
joined (c ∷ cs) = c ++ joined cs

-- the items of the chunks that are full, and of the last one
abbrev pub items_of : {X : Type 0} → List (List X) → List X → List X
items_of full last = joined full ++ last

-- each has so many items
abbrev pub EachLong : {X : Type 0} → ℕ → List (List X) → Type 0
EachLong n [] = Unit {0}
EachLong n (c ∷ cs) = (length c ≡ n) × EachLong n cs

-- the others are full, and the last one has at most as many items
pub record IsChunked {X : Type 0} (full : List (List X)) (last : List X) : Type 0 where
  pub all_full : EachLong room full
  pub last_fits : length last ≤ room

-- what is kept of a list
pub record IsKept {X : Type 0} (full : List (List X)) (last : List X) (len : ℕ) : Type 0 where
  pub chunked : IsChunked full last
  pub len_is : len ≡ length (items_of full last)
