-- The way down ends with the path.
use Rattle.std.proofs.Common.{◌+◌, ◌*◌, length}
use Rattle.tree_change.proofs.change.Change.+change.Given as goal

abbrev pub decreases-call : goal.decreases-call
decreases-call g l = 8 * length l.rest.now + 7

abbrev pub decreases-item : goal.decreases-item
decreases-item g l = 8 * length l.rest.now + 6

abbrev pub decreases-one : goal.decreases-one
decreases-one g l = 8 * length l.rest.now + 5

abbrev pub decreases-template : goal.decreases-template
decreases-template g l = 8 * length l.rest.now + 4

abbrev pub decreases-steps : goal.decreases-steps
decreases-steps g l = 8 * length l.rest.now + 3

abbrev pub decreases-group : goal.decreases-group
decreases-group g l = 8 * length l.rest.now + 8

abbrev pub decreases-dag : goal.decreases-dag
decreases-dag g l = 8 * length l.rest.now + 3
