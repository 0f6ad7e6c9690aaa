use Rattle.std.proofs.Common.{◌≡◌, drop}
use Rattle.std.specs.Prelude.{map}
use Rattle.std.specs.List.{list_any}
use Rattle.depends_expr.specs.Grammar.{spelling}
use Rattle.depends_expr.specs.Inside.Postfix.{word_of}
use Rattle.depends_expr.specs.Inside.Operands.{is_found, behind}
use Rattle.depends_expr.proofs.spelling.begins_among.Given as goal

-- those behind decide
abbrev pub invariant-loop-outcome : goal.invariant-loop-outcome
invariant-loop-outcome l = list_any (λ w. is_found (behind l.part (spelling w))) (map word_of (drop l.outcome-index l.outcomes)) ≡ list_any (λ w. is_found (behind l.part (spelling w))) (map word_of l.outcomes)
