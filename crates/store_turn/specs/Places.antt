-- Places of entries: the place of an entry is its index in the list, so the first has place 0.
use Rattle.std.specs.Prelude.{ℕ, ◌+◌, ◌<◌, ◌≤◌, ◌&&◌, ◌==◌, cond, nat_lt, nat_le, List, [], ◌∷◌, ◌++◌, length}

-- how often x stands in the list
abbrev pub times : ℕ → List ℕ → ℕ
times x [] = 0
times x (y ∷ ys) = cond (y == x) 1 0 + times x ys

-- what stands behind a number is above it
abbrev pub Rising : List ℕ → Type 0
Rising [] = Unit {0}
Rising (x ∷ xs) = ((y : ℕ) → 1 ≤ times y xs → x < y) × Rising xs

abbrev pub AllBelow : ℕ → List ℕ → Type 0
AllBelow n xs = (x : ℕ) → 1 ≤ times x xs → x < n

-- places in a list of n entries, of which no two are the same
pub record PlacesIn (n : ℕ) (places : List ℕ) : Type 0 where
  pub rises : Rising places
  pub low : AllBelow n places

-- 1 where k is one of low, low + 1 .. high - 1, else 0
abbrev pub within : ℕ → ℕ → ℕ → ℕ
within low high k = cond (nat_le low k && nat_lt k high) 1 0

-- the places of a seat after a job that found the first list and left the second
abbrev pub places_after : {E : Type 0} → List ℕ → List E → List E → List ℕ
places_after places xs ys = cond (nat_lt (length xs) (length ys)) (places ++ length xs ∷ []) places

-- x put before the first number that is above it
abbrev pub put : ℕ → List ℕ → List ℕ
put x [] = x ∷ []
put x (y ∷ ys) = cond (nat_lt x y) (x ∷ y ∷ ys) (y ∷ put x ys)

-- two rising lists as one
abbrev pub merged : List ℕ → List ℕ → List ℕ
merged [] ys = ys
merged (x ∷ xs) ys = put x (merged xs ys)
