-- A condition of the grammar needs few waiting operands, since its nesting is bounded.
use Rattle.std.specs.Prelude.{◌≡◌, ℕ, ◌≤◌, Result, Ok, IfOk, Some}
use Rattle.std.proofs.Common.{ap, sym, subst, ◌∙◌, arith}
use Rattle.connectives.specs.Grammar.{Text}
use Rattle.connectives.specs.Reading.{start, read}
use Rattle.connectives.proofs.Peaks.{Peaks, low as low_for}
use Rattle.when_expr.specs.Expression.{Condition}
use Rattle.when_expr.specs.Grammar.{IsOperand, a_test, a_literal, when_joins, when_language, IsWhen}
use Rattle.when_expr.specs.Inside.Postfix.{peak}
use Rattle.when_expr.specs.Inside.Operands.{when_machine}
use Rattle.when_expr.proofs.OperandFacts.{meant}

operand_peak : {t r : Text} {e : Condition} → IsOperand t e r → peak e ≤ 1
operand_peak (a_test o g s h) = omega arith
operand_peak (a_literal b s) = omega arith

peaks : Peaks when_language peak
peaks = record {
  of_operand = λ t r e h. operand_peak h;
  of_not = λ e. omega arith;
  of_and = λ d e. omega arith;
  of_or = λ d e. omega arith;
}

pub low : (text : Text) (e : Condition) → IsWhen text e → peak e ≤ 131
low text e h = low_for when_language peak peaks text e h

-- what was read of the bytes of a text
pub low_found : (text bytes : Text) (found : Result Condition ℕ) (e : Condition) → bytes ≡ text → IfOk found (λ said. read when_joins when_machine start bytes ≡ Some said) → found ≡ Ok e → peak e ≤ 131
low_found text bytes found e p h q =
    low text e (meant text e (ap (read when_joins when_machine start) (sym p) ∙ subst (λ x. IfOk x (λ said. read when_joins when_machine start bytes ≡ Some said)) q h))
