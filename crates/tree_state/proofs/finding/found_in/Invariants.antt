-- No want before this one is of the kind and passes.
use Rattle.std.proofs.Common.{◌≡◌, drop}
use Rattle.std.specs.List.{find}
use Rattle.tree_state.specs.Finding.{passes}
use Rattle.tree_state.proofs.finding.found_in.Given as goal

abbrev pub invariant-loop-want : goal.invariant-loop-want
invariant-loop-want g l =
    find (passes l.kind (g.T.WantTest.accepts l.test)) (drop l.want-index l.want-items) ≡ find (passes l.kind (g.T.WantTest.accepts l.test)) l.want-items
