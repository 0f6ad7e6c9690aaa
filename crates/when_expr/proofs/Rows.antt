-- Conditions of texts, by the definitions alone.
use Rattle.std.specs.Prelude.{◌≡◌, refl, codes, Some, None, true}
use Rattle.when_expr.specs.Expression.{equal, below, quoted, word, test, negated, all_of}
use Rattle.connectives.specs.Reading.{start, place}
use Rattle.when_expr.specs.Grammar.{when_joins}
use Rattle.when_expr.specs.Inside.Operands.{when_machine}
use Rattle.when_expr.specs.Meaning.{when_of}
use Rattle.when_expr.specs.Truth.{truth}

plain : when_of (codes "1 == 2") ≡ Some (test (word (codes "1")) equal (word (codes "2")))
plain = refl

mixed : when_of (codes "2 < 10 && !(a == 'b')") ≡ Some (all_of (test (word (codes "2")) below (word (codes "10"))) (negated (test (word (codes "a")) equal (quoted (codes "b")))))
mixed = refl

mixed_truth : truth (all_of (test (word (codes "2")) below (word (codes "10"))) (negated (test (word (codes "a")) equal (quoted (codes "b"))))) ≡ Some true
mixed_truth = refl

no_numbers : truth (test (word (codes "a")) below (word (codes "1"))) ≡ None
no_numbers = refl

unfinished : place when_joins when_machine start (codes "a =") ≡ 3
unfinished = refl

broken : place when_joins when_machine start (codes "a = b") ≡ 3
broken = refl

single : place when_joins when_machine start (codes "a & b") ≡ 2
single = refl
