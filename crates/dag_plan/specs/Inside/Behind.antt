-- Numbers of rows, noted at places.
use Rattle.std.specs.Prelude.{ℕ, ◌-◌, ◌==◌, List, [], ◌∷◌, ◌++◌, length, Bool, ◌&&◌, if◌then◌else◌, nat_lt, get_or, slice_set, fold}
use Rattle.task_order.specs.Orders.{row}

-- the last entry of a list is this number
abbrev pub ends_with : List ℕ → ℕ → Bool
ends_with xs n = nat_lt 0 (length xs) && (get_or xs (length xs - 1) 0 == n)

-- the list, with a number as its last entry
abbrev pub with_last : List ℕ → ℕ → List ℕ
with_last xs n = if ends_with xs n then xs else xs ++ n ∷ []

-- the lists, with a number as the last entry of that of a place
abbrev pub noted : ℕ → List (List ℕ) → ℕ → List (List ℕ)
noted n lists p = slice_set lists p (with_last (row lists p) n)

-- .. and of those of all places of a row
abbrev pub row_noted : ℕ → List (List ℕ) → List ℕ → List (List ℕ)
row_noted n lists ps = fold (noted n) lists ps
