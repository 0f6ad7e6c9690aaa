-- The expression of a `depends`'s text, and the law that ties it to the grammar.
use Rattle.std.specs.Prelude.{◌≡◌, ◌↔◌, Option, Some}
use Rattle.connectives.specs.Grammar.{Text}
use Rattle.connectives.specs.Reading.{start, read}
use Rattle.depends_expr.specs.Expression.{Expression}
use Rattle.depends_expr.specs.Grammar.{depends_joins, IsDepends}
use Rattle.depends_expr.specs.Inside.Operands.{depends_machine}

-- as reading finds it
abbrev pub depends_of : Text → Option Expression
depends_of text = read depends_joins depends_machine start text

-- what reading finds is what the grammar says
abbrev pub DependsSays : Type 0
DependsSays = (text : Text) (e : Expression) → (depends_of text ≡ Some e) ↔ IsDepends text e
