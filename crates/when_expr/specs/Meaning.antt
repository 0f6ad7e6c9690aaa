-- The condition of a `when`'s text, and the law that ties it to the grammar.
use Rattle.std.specs.Prelude.{◌≡◌, ◌↔◌, Option, Some}
use Rattle.connectives.specs.Grammar.{Text}
use Rattle.connectives.specs.Reading.{start, read}
use Rattle.when_expr.specs.Expression.{Condition}
use Rattle.when_expr.specs.Grammar.{when_joins, IsWhen}
use Rattle.when_expr.specs.Inside.Operands.{when_machine}

-- as reading finds it
abbrev pub when_of : Text → Option Condition
when_of text = read when_joins when_machine start text

-- what reading finds is what the grammar says
abbrev pub WhenSays : Type 0
WhenSays = (text : Text) (c : Condition) → (when_of text ≡ Some c) ↔ IsWhen text c
