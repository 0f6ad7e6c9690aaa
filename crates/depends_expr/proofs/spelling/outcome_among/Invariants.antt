use Rattle.std.proofs.Common.{◌≡◌, drop}
use Rattle.std.specs.Prelude.{map}
use Rattle.depends_expr.specs.Inside.Postfix.{word_of}
use Rattle.depends_expr.specs.Inside.Operands.{spelled}
use Rattle.depends_expr.proofs.spelling.outcome_among.Given as goal

-- those behind decide
abbrev pub invariant-loop-outcome : goal.invariant-loop-outcome
invariant-loop-outcome l = spelled l.part (map word_of (drop l.outcome-index l.outcomes)) ≡ spelled l.part (map word_of l.outcomes)
