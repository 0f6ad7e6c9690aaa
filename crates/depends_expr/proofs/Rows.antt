-- Expressions of texts, by the definitions alone.
use Rattle.std.specs.Prelude.{◌≡◌, refl, codes, Some}
use Rattle.depends_expr.specs.Expression.{failed, bare, has, negation, both, either}
use Rattle.connectives.specs.Reading.{start, place}
use Rattle.depends_expr.specs.Grammar.{depends_joins}
use Rattle.depends_expr.specs.Inside.Operands.{depends_machine}
use Rattle.depends_expr.specs.Meaning.{depends_of}

plain : depends_of (codes " A&&!B.Failed || (C )") ≡ Some (either (both (bare (codes "A")) (negation (has (codes "B") failed))) (bare (codes "C")))
plain = refl

unfinished : place depends_joins depends_machine start (codes "A &&") ≡ 4
unfinished = refl

single : place depends_joins depends_machine start (codes "A & B") ≡ 3
single = refl
