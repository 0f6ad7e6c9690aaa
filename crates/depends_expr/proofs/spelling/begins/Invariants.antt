use Rattle.std.proofs.Common.{◌≡◌, drop}
use Rattle.depends_expr.specs.Inside.Operands.{behind}
use Rattle.depends_expr.proofs.spelling.begins.Given as goal

-- what is behind the bytes so far decides
abbrev pub invariant-loop-i : goal.invariant-loop-i
invariant-loop-i l = behind (drop l.i l.part) (drop l.i l.text) ≡ behind l.part l.text
