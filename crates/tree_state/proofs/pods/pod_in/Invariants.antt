-- No pod before this want is found.
use Rattle.std.proofs.Common.{◌+◌, length, drop}
use Rattle.tree_state.specs.Finding.{pods_in, found_at}
use Rattle.tree_state.proofs.Positions.{Left}
use Rattle.tree_state.proofs.pods.pod_in.Given as goal

abbrev pub invariant-loop-want : goal.invariant-loop-want
invariant-loop-want g l =
    Left l.from (g.T.WantTest.accepts l.test) (found_at l.from l.at (g.T.WantTest.accepts l.test) (pods_in l.want-items)) (l.at + length (pods_in l.want-items)) l.next (pods_in (drop l.want-index l.want-items))
