-- Operands are read as the grammar says, and so are whole texts.
use Rattle.std.specs.Prelude.{◌≡◌, ◌↔◌, Some, None, true, codes}
use Rattle.connectives.specs.Grammar.{Text, no_space, IsBadAt}
use Rattle.connectives.specs.Reading.{start, read, place}
use Rattle.connectives.proofs.Facts.{Facts}
use Rattle.connectives.proofs.Held as held
use Rattle.connectives.proofs.Fronts as fronts
use Rattle.when_expr.specs.Expression.{Condition, literal}
use Rattle.when_expr.specs.Grammar.{a_literal, when_joins, when_language, IsWhen}
use Rattle.when_expr.specs.Inside.Operands.{when_machine}
use Rattle.when_expr.proofs.OperandsHeld.{Begun, operand_more, begins, goes_on, stops, finishes}
use Rattle.when_expr.proofs.OperandsTaken.{reads}

facts : Facts when_language when_machine
facts = record {
  Begun = Begun;
  begins = begins;
  goes_on = goes_on;
  stops = stops;
  spaced = λ b t u r e h p g. operand_more b r h p g;
  reads = λ t r e h z a. reads h z a;
  finishes = finishes;
  sample = (codes "true", literal true, λ u. a_literal true no_space);
}

-- what is read is of the grammar
pub meant : (text : Text) (e : Condition) → read when_joins when_machine start text ≡ Some e → IsWhen text e
meant text e p = held.meant when_language when_machine facts text e p

-- what is not read is not of the grammar
pub bad : (text : Text) → read when_joins when_machine start text ≡ None → IsBadAt when_language text (place when_joins when_machine start text)
bad text p = fronts.bad when_language when_machine facts text p

-- what reading finds is what the grammar says
pub says : (text : Text) (e : Condition) → (read when_joins when_machine start text ≡ Some e) ↔ IsWhen text e
says text e = fronts.says when_language when_machine facts text e
