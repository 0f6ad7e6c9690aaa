-- So many of them.
use Rattle.std.proofs.Common.{◌≡◌, replicate}
use Rattle.dag_template.specs.Stands.{waits}
use Rattle.dag_board.proofs.board.no_stands.Given as goal

abbrev pub invariant-loop : goal.invariant-loop
invariant-loop l = l.stands.items ≡ replicate l.counter waits
