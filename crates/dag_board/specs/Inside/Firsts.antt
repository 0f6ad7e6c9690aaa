-- Positions, each once.
use Rattle.std.specs.Prelude.{◌≡◌, ℕ, ◌<◌, ◌==◌, List, [], ◌∷◌, ◌++◌, fold, Bool, false, get_or, if◌then◌else◌}
use Rattle.std.specs.List.{list_any}

-- the positions so far, and one more unless it is among them
abbrev pub add_first : List ℕ → ℕ → List ℕ
add_first ps p = if list_any (λ q. p == q) ps then ps else ps ++ p ∷ []

-- and more
abbrev pub firsts : List ℕ → List ℕ → List ℕ
firsts ps qs = fold add_first ps qs

-- the positions below a room, each once
pub record Listed : Type 0 where
  pub room : ℕ
  pub list : List ℕ

-- exactly these positions are marked
abbrev pub AreMarked : ℕ → List Bool → List ℕ → Type 0
AreMarked room marks ps = (p : ℕ) → p < room → get_or marks p false ≡ list_any (λ q. p == q) ps
