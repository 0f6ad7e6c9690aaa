-- How many of the numbers of failing calls are reached.
use Rattle.std.specs.Prelude.{ℕ, ◌+◌, List, [], ◌∷◌, cond, nat_le}

abbrev pub reached : List ℕ → ℕ → ℕ
reached [] calls = 0
reached (n ∷ ns) calls = cond (nat_le n calls) 1 0 + reached ns calls
