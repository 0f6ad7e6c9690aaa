-- An expression of the grammar needs few waiting operands, since its nesting is bounded.
use Rattle.std.specs.Prelude.{◌≡◌, ℕ, ◌≤◌, Result, Ok, IfOk, Some}
use Rattle.std.proofs.Common.{ap, sym, subst, ◌∙◌, arith}
use Rattle.connectives.specs.Grammar.{Text}
use Rattle.connectives.specs.Reading.{start, read}
use Rattle.connectives.proofs.Peaks.{Peaks, low as low_for}
use Rattle.depends_expr.specs.Expression.{Expression}
use Rattle.depends_expr.specs.Grammar.{IsOperand, alone, result_of, depends_joins, depends_language, IsDepends}
use Rattle.depends_expr.specs.Inside.View.{peak}
use Rattle.depends_expr.specs.Inside.Operands.{depends_machine}
use Rattle.depends_expr.proofs.OperandFacts.{meant}

operand_peak : {t r : Text} {e : Expression} → IsOperand t e r → peak e ≤ 1
operand_peak (alone name h s) = omega arith
operand_peak (result_of name word h s) = omega arith

peaks : Peaks depends_language peak
peaks = record {
  of_operand = λ t r e h. operand_peak h;
  of_not = λ e. omega arith;
  of_and = λ d e. omega arith;
  of_or = λ d e. omega arith;
}

pub low : (text : Text) (e : Expression) → IsDepends text e → peak e ≤ 131
low text e h = low_for depends_language peak peaks text e h

-- what was read of the bytes of a text
pub low_found : (text bytes : Text) (found : Result Expression ℕ) (e : Expression) → bytes ≡ text → IfOk found (λ said. read depends_joins depends_machine start bytes ≡ Some said) → found ≡ Ok e → peak e ≤ 131
low_found text bytes found e p h q =
    low text e (meant text e (ap (read depends_joins depends_machine start) (sym p) ∙ subst (λ x. IfOk x (λ said. read depends_joins depends_machine start bytes ≡ Some said)) q h))
