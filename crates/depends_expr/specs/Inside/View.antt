-- What contracts see of what the crate keeps.
use Rattle.std.specs.Prelude.{◌≡◌, ℕ, suc, ◌≤◌, List, [], length, map, max, Bool, true, nat_lt, IsTrue, Option, None, Some, slice_get}
use Rattle.std.specs.List.{list_all}
use Rattle.depends_expr.specs.declared.steps.Step.{Step}
use Rattle.depends_expr.specs.declared.steps.Step.TheVariants.{Bare, Has, Not, And, Or}
use Rattle.depends_expr.specs.Expression.{Expression, bare, has, negation, both, either}
use Rattle.depends_expr.specs.Truth.{names_of}
use Rattle.depends_expr.specs.Inside.Postfix.{postfix, expression_of}

-- the name that was found, or none
abbrev pub found : Option (List ℕ) → List ℕ
found None = []
found (Some name) = name

-- a step with the name at its position
abbrev pub with_name : List (List ℕ) → Step ℕ → Step (List ℕ)
with_name names (Bare n) = Bare (found (slice_get names n))
with_name names (Has n w) = Has (found (slice_get names n)) w
with_name names Not = Not
with_name names And = And
with_name names Or = Or

abbrev pub named_expression : List (List ℕ) → List (Step ℕ) → Expression
named_expression names steps = expression_of (map (with_name names) steps)

abbrev pub is_position_below : ℕ → Step ℕ → Bool
is_position_below n (Bare i) = nat_lt i n
is_position_below n (Has i w) = nat_lt i n
is_position_below n Not = true
is_position_below n And = true
is_position_below n Or = true

-- how many operands wait at most while an expression is evaluated
abbrev pub peak : Expression → ℕ
peak (bare n) = 1
peak (has n w) = 1
peak (negation e) = peak e
peak (both d e) = max (peak d) (suc (peak e))
peak (either d e) = max (peak d) (suc (peak e))

-- steps over names that are a whole expression, which names each of the names, and nests within the grammar's bound
pub record IsWhole (names : List (List ℕ)) (steps : List (Step ℕ)) : Type 0 where
  pub whole : map (with_name names) steps ≡ postfix (named_expression names steps)
  pub positions : IsTrue (list_all (is_position_below (length names)) steps)
  pub each_once : names ≡ names_of (named_expression names steps)
  pub low : peak (named_expression names steps) ≤ 131
