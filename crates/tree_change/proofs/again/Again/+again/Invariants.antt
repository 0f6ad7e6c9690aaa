-- How the calls of a walk that is made again go down, and what its loops keep.
use Rattle.std.proofs.Common.{◌≡◌, ◌+◌, ◌*◌, length, take}
use Rattle.meaning.specs.Dags.{standings}
use Rattle.meaning.specs.Calls.{calls}
use Rattle.dag_board.specs.Boards.{IsBoard}
use Rattle.tree_walk.specs.Tasks.{count_at}
use Rattle.row_states.specs.Rows.{count_row}
use Rattle.tree_change.specs.Inside.Groups.{IsFront, first_groups}
use Rattle.tree_change.proofs.Fronts.{Went}
use Rattle.tree_change.proofs.again.Again.+again.Given as goal

abbrev pub decreases-call : goal.decreases-call
decreases-call g l = 32 * l.left

abbrev pub decreases-looped : goal.decreases-looped
decreases-looped g l = 32 * l.left + 30

abbrev pub decreases-item : goal.decreases-item
decreases-item g l = 32 * l.left + 28

abbrev pub decreases-one : goal.decreases-one
decreases-one g l = 32 * l.left + 27

abbrev pub decreases-called : goal.decreases-called
decreases-called g l = 32 * l.left + 14

abbrev pub decreases-entered : goal.decreases-entered
decreases-entered g l = 32 * l.left + 13

abbrev pub decreases-template : goal.decreases-template
decreases-template g l = 32 * l.left + 12

abbrev pub decreases-missed : goal.decreases-missed
decreases-missed g l = 32 * l.left + 9

abbrev pub decreases-steps : goal.decreases-steps
decreases-steps g l = 32 * l.left + 7

abbrev pub decreases-groups : goal.decreases-groups
decreases-groups g l = 32 * l.left + 6

abbrev pub decreases-group_at : goal.decreases-group_at
decreases-group_at g l = 32 * l.left + 5

abbrev pub decreases-group : goal.decreases-group
decreases-group g l = 32 * l.left + 4

abbrev pub decreases-member : goal.decreases-member
decreases-member g l = 32 * l.left + 2

-- the groups before this one are made, and Succeeded
abbrev pub invariant-groups-loop-i : goal.invariant-groups-loop-i
invariant-groups-loop-i g l =
    let m = l.self.walk.manifest.now in
    let A = g.R.Recorded.answers l.self.walk.recorded.now in
    let scopes = l.self.walk.globals.now in
    let made = first_groups (calls m A scopes l.left) l.place l.scope l.groups l.i in
    record {
      front : IsFront l.front l.scope made;
      went : Went made.all;
      long : length made.all ≡ l.i;
      room : l.room + count_row made.all ≡ l.fn.room;
    }

abbrev pub decreases-other : goal.decreases-other
decreases-other g l = 32 * l.left + 11

abbrev pub decreases-missed_dag : goal.decreases-missed_dag
decreases-missed_dag g l = 32 * l.left + 10

abbrev pub decreases-dag : goal.decreases-dag
decreases-dag g l = 32 * l.left + 9

abbrev pub decreases-other_dag : goal.decreases-other_dag
decreases-other_dag g l = 32 * l.left + 8

abbrev pub decreases-tasks : goal.decreases-tasks
decreases-tasks g l = 32 * l.left + 7

abbrev pub decreases-task : goal.decreases-task
decreases-task g l = 32 * l.left + 6

abbrev pub decreases-freed : goal.decreases-freed
decreases-freed g l = 32 * l.left + 5

abbrev pub decreases-begun : goal.decreases-begun
decreases-begun g l = 32 * l.left + 4

abbrev pub decreases-inside : goal.decreases-inside
decreases-inside g l = 32 * l.left + 2

-- the tasks before this one in the order are gone through
abbrev pub invariant-tasks-loop-k : goal.invariant-tasks-loop-k
invariant-tasks-loop-k g l =
    let m = l.self.walk.manifest.now in
    let A = g.R.Recorded.answers l.self.walk.recorded.now in
    let scopes = l.self.walk.globals.now in
    let called = calls m A scopes l.left in
    record {
      shown : IsBoard A called l.place l.scope l.dag (take l.k l.plan.order) l.board;
      room : l.room + count_at (standings A called l.place l.scope l.dag) (take l.k l.plan.order) ≡ l.fn.room;
    }
