-- The kids that were looked at do not end with an entry of a later task.
use Rattle.std.proofs.Common.{◌≡◌, false, take}
use Rattle.tree_state.specs.Inserting.{ends_later}
use Rattle.tree_state.specs.Inside.Kids.{parts_of}
use Rattle.tree_state.proofs.inserting.position.Given as goal

abbrev pub invariant-loop-i : goal.invariant-loop-i
invariant-loop-i l = ends_later l.at false (parts_of (take l.i l.kids)) ≡ false
