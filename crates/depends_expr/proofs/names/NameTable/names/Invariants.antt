use Rattle.std.proofs.Common.{◌≡◌, take}
use Rattle.depends_expr.proofs.names.NameTable.names.Given as goal

abbrev pub invariant-loop-position : goal.invariant-loop-position
invariant-loop-position l = l.names ≡ take l.position l.self
