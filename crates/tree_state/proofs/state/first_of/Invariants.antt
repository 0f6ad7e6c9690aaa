-- No want before this one is of the kind.
use Rattle.std.proofs.Common.{◌≡◌, drop}
use Rattle.std.specs.List.{find}
use Rattle.tree_state.specs.Asking.{is_of}
use Rattle.tree_state.proofs.state.first_of.Given as goal

abbrev pub invariant-loop-want : goal.invariant-loop-want
invariant-loop-want l = find (is_of l.kind) (drop l.want-index l.want-items) ≡ find (is_of l.kind) l.want-items
