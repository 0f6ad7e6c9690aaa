-- The grammar of a `depends` (Argo's enhanced depends logic, with the nesting that this project allows).
use Rattle.std.specs.Prelude.{◌∷◌, ◌++◌, IsTrue, codes}
use Rattle.base_types.specs.Bytes.{is_name}
use Rattle.connectives.specs.Grammar.{Text, Joins, Language, Spaces, Says}
use Rattle.depends_expr.specs.Expression.{Word, succeeded, failed, errored, skipped, omitted, daemoned, any_succeeded, all_failed, Expression, bare, has, negation, both, either}

abbrev pub spelling : Word → Text
spelling succeeded = codes "Succeeded"
spelling failed = codes "Failed"
spelling errored = codes "Errored"
spelling skipped = codes "Skipped"
spelling omitted = codes "Omitted"
spelling daemoned = codes "Daemoned"
spelling any_succeeded = codes "AnySucceeded"
spelling all_failed = codes "AllFailed"

-- operand = name [ "." result ]
pub data IsOperand : Text → Expression → Text → Type 0 where
  alone : {u r : Text} (name : Text) → IsTrue (is_name name) → Spaces u r → IsOperand (name ++ u) (bare name) r
  result_of : {u r : Text} (name : Text) (word : Word) →
      IsTrue (is_name name) → Spaces u r → IsOperand (name ++ (46 ∷ (spelling word ++ u))) (has name word) r

abbrev pub depends_joins : Joins Expression
depends_joins = record { negated = negation; all_of = both; any_of = either }

abbrev pub depends_language : Language Expression
depends_language = record { joins = depends_joins; IsOperand = IsOperand }

-- the text is of the grammar, and says e
abbrev pub IsDepends : Text → Expression → Type 0
IsDepends text e = Says depends_language text e
