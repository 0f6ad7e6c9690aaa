-- Steps whose names are replaced by positions in a list of names.
use Rattle.std.specs.Prelude.{◌≡◌, ℕ, List, [], ◌∷◌, ◌++◌, length, map, IsTrue}
use Rattle.std.specs.List.{list_all}
use Rattle.depends_expr.specs.declared.steps.Step.{Step}
use Rattle.depends_expr.specs.declared.steps.Step.TheVariants.{Bare, Has, Not, And, Or}
use Rattle.depends_expr.specs.Truth.{add_names}
use Rattle.depends_expr.specs.Inside.View.{with_name, is_position_below}

-- the name of a step
abbrev pub leaf : Step (List ℕ) → List (List ℕ)
leaf (Bare n) = n ∷ []
leaf (Has n w) = n ∷ []
leaf Not = []
leaf And = []
leaf Or = []

abbrev pub leaves : List (Step (List ℕ)) → List (List ℕ)
leaves [] = []
leaves (s ∷ ss) = leaf s ++ leaves ss

-- the step x is y with a position in the names `new`, which are `old` and the step's name
pub record NumbersStep (old new : List (List ℕ)) (x : Step ℕ) (y : Step (List ℕ)) : Type 0 where
  pub firsts : new ≡ add_names old (leaf y)
  pub same : with_name new x ≡ y
  pub position : IsTrue (is_position_below (length new) x)

-- the steps xs are ys with positions in the names of ys
pub record Numbers (names : List (List ℕ)) (xs : List (Step ℕ)) (ys : List (Step (List ℕ))) : Type 0 where
  pub firsts : names ≡ add_names [] (leaves ys)
  pub same : map (with_name names) xs ≡ ys
  pub positions : IsTrue (list_all (is_position_below (length names)) xs)
