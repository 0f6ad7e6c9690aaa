-- Conditions in postfix order: each connective stands behind its operands.
use Rattle.std.specs.Prelude.{◌≡◌, ℕ, suc, ◌≤◌, List, [], ◌∷◌, ◌++◌, max, false}
use Rattle.when_expr.specs.declared.steps.Step.{Step}
use Rattle.when_expr.specs.declared.steps.Step.TheVariants.{Literal, Test, Not, And, Or}
use Rattle.when_expr.specs.declared.steps.Comparison.{Comparison}
use Rattle.when_expr.specs.declared.steps.Comparison.TheVariants as o
use Rattle.when_expr.specs.declared.steps.Side.{Side}
use Rattle.when_expr.specs.declared.steps.Side.TheVariants as s
use Rattle.when_expr.specs.Expression.{Order, equal, unequal, below, at_most, above, at_least, Term, quoted, word, Condition, literal, test, negated, all_of, any_of}

abbrev pub order_of : Comparison → Order
order_of o.Equal = equal
order_of o.Unequal = unequal
order_of o.Below = below
order_of o.AtMost = at_most
order_of o.Above = above
order_of o.AtLeast = at_least

abbrev pub comparison_of : Order → Comparison
comparison_of equal = o.Equal
comparison_of unequal = o.Unequal
comparison_of below = o.Below
comparison_of at_most = o.AtMost
comparison_of above = o.Above
comparison_of at_least = o.AtLeast

abbrev pub term_of : Side → Term
term_of (s.Quoted t) = quoted t
term_of (s.Word t) = word t

abbrev pub side_of : Term → Side
side_of (quoted t) = s.Quoted t
side_of (word t) = s.Word t

-- the steps of a condition
abbrev pub postfix : Condition → List Step
postfix (literal b) = Literal b ∷ []
postfix (test l o r) = Test (side_of l) (comparison_of o) (side_of r) ∷ []
postfix (negated e) = postfix e ++ Not ∷ []
postfix (all_of d e) = postfix d ++ (postfix e ++ And ∷ [])
postfix (any_of d e) = postfix d ++ (postfix e ++ Or ∷ [])

-- what a step makes of the conditions built so far, the latest first
abbrev pub build : Step → List Condition → List Condition
build (Literal b) es = literal b ∷ es
build (Test l o r) es = test (term_of l) (order_of o) (term_of r) ∷ es
build Not (e ∷ es) = negated e ∷ es
build And (e ∷ d ∷ es) = all_of d e ∷ es
build Or (e ∷ d ∷ es) = any_of d e ∷ es
build _ es = es

abbrev pub built : List Step → List Condition → List Condition
built [] es = es
built (s ∷ ss) es = built ss (build s es)

abbrev pub top : List Condition → Condition
top [] = literal false
top (e ∷ es) = e

-- the condition that steps build
abbrev pub condition_of : List Step → Condition
condition_of steps = top (built steps [])

-- how many operands wait at most while a condition is evaluated
abbrev pub peak : Condition → ℕ
peak (literal b) = 1
peak (test l o r) = 1
peak (negated e) = peak e
peak (all_of d e) = max (peak d) (suc (peak e))
peak (any_of d e) = max (peak d) (suc (peak e))

-- steps that are a whole condition, which nests within the grammar's bound
pub record IsWhole (steps : List Step) : Type 0 where
  pub whole : steps ≡ postfix (condition_of steps)
  pub low : peak (condition_of steps) ≤ 131
