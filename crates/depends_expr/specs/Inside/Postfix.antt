-- Expressions in postfix order: each connective stands behind its operands.
use Rattle.std.specs.Prelude.{ℕ, List, [], ◌∷◌, ◌++◌}
use Rattle.depends_expr.specs.declared.steps.Step.{Step}
use Rattle.depends_expr.specs.declared.steps.Step.TheVariants.{Bare, Has, Not, And, Or}
use Rattle.depends_expr.specs.declared.steps.Outcome.{Outcome}
use Rattle.depends_expr.specs.declared.steps.Outcome.TheVariants as o
use Rattle.depends_expr.specs.Expression.{Word, succeeded, failed, errored, skipped, omitted, daemoned, any_succeeded, all_failed, Expression, bare, has, negation, both, either}

abbrev pub word_of : Outcome → Word
word_of o.Succeeded = succeeded
word_of o.Failed = failed
word_of o.Errored = errored
word_of o.Skipped = skipped
word_of o.Omitted = omitted
word_of o.Daemoned = daemoned
word_of o.AnySucceeded = any_succeeded
word_of o.AllFailed = all_failed

abbrev pub outcome_of : Word → Outcome
outcome_of succeeded = o.Succeeded
outcome_of failed = o.Failed
outcome_of errored = o.Errored
outcome_of skipped = o.Skipped
outcome_of omitted = o.Omitted
outcome_of daemoned = o.Daemoned
outcome_of any_succeeded = o.AnySucceeded
outcome_of all_failed = o.AllFailed

-- the steps of an expression
abbrev pub postfix : Expression → List (Step (List ℕ))
postfix (bare n) = Bare n ∷ []
postfix (has n w) = Has n (outcome_of w) ∷ []
postfix (negation e) = postfix e ++ Not ∷ []
postfix (both d e) = postfix d ++ (postfix e ++ And ∷ [])
postfix (either d e) = postfix d ++ (postfix e ++ Or ∷ [])

-- what a step makes of the expressions built so far, the latest first
abbrev pub build : Step (List ℕ) → List Expression → List Expression
build (Bare n) es = bare n ∷ es
build (Has n w) es = has n (word_of w) ∷ es
build Not (e ∷ es) = negation e ∷ es
build And (e ∷ d ∷ es) = both d e ∷ es
build Or (e ∷ d ∷ es) = either d e ∷ es
build _ es = es

abbrev pub built : List (Step (List ℕ)) → List Expression → List Expression
built [] es = es
built (s ∷ ss) es = built ss (build s es)

abbrev pub top : List Expression → Expression
top [] = bare []
top (e ∷ es) = e

-- the expression that steps build
abbrev pub expression_of : List (Step (List ℕ)) → Expression
expression_of steps = top (built steps [])
