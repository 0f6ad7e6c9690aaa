-- How the calls of a walk go down, and what its loops keep.
use Rattle.std.proofs.Common.{◌≡◌, ◌+◌, ◌*◌, ◌++◌, length, drop, take}
use Rattle.meaning.specs.Lines.{numbered}
use Rattle.meaning.specs.Steps.{groups_from}
use Rattle.meaning.specs.Calls.{calls, item_made}
use Rattle.meaning.specs.Dags.{standings}
use Rattle.dag_board.specs.Boards.{IsBoard}
use Rattle.tree_walk.specs.Tasks.{count_at}
use Rattle.row_states.specs.Rows.{count_row}
use Rattle.scope_laws.specs.Agreeing.{GroupsAlike}
use Rattle.tree_walk.specs.Walking.{hook_depth, prefix_of}
use Rattle.tree_walk.proofs.Groups.{behind, member_at}
use Rattle.tree_walk.proofs.walk.Walk.+walk.Given as goal

abbrev pub decreases-call : goal.decreases-call
decreases-call g l = 32 * l.left

abbrev pub decreases-each : goal.decreases-each
decreases-each g l = 32 * l.left + 31

abbrev pub decreases-looped : goal.decreases-looped
decreases-looped g l = 32 * l.left + 30

abbrev pub decreases-items : goal.decreases-items
decreases-items g l = 32 * l.left + 29

abbrev pub decreases-item : goal.decreases-item
decreases-item g l = 32 * l.left + 28

abbrev pub decreases-one : goal.decreases-one
decreases-one g l = 32 * l.left + 27

abbrev pub decreases-called : goal.decreases-called
decreases-called g l = 32 * l.left + 14 + 10 * hook_depth l.after.exit

abbrev pub decreases-entered : goal.decreases-entered
decreases-entered g l = 32 * l.left + 13 + 10 * hook_depth l.after.exit

abbrev pub decreases-hook : goal.decreases-hook
decreases-hook g l = 32 * l.left + 22

abbrev pub decreases-template : goal.decreases-template
decreases-template g l = 32 * l.left + 12

abbrev pub decreases-memoized : goal.decreases-memoized
decreases-memoized g l = 32 * l.left + 11

abbrev pub decreases-remembered : goal.decreases-remembered
decreases-remembered g l = 32 * l.left + 10

abbrev pub decreases-missed : goal.decreases-missed
decreases-missed g l = 32 * l.left + 9

abbrev pub decreases-body : goal.decreases-body
decreases-body g l = 32 * l.left + 8

abbrev pub decreases-steps : goal.decreases-steps
decreases-steps g l = 32 * l.left + 7

abbrev pub decreases-groups : goal.decreases-groups
decreases-groups g l = 32 * l.left + 6

abbrev pub decreases-group : goal.decreases-group
decreases-group g l = 32 * l.left + 5

abbrev pub decreases-members : goal.decreases-members
decreases-members g l = 32 * l.left + 4

-- the items before this one are made
abbrev pub invariant-items-loop-item : goal.invariant-items-loop-item
invariant-items-loop-item g l =
    let m = l.self.manifest.now in
    let A = g.R.Recorded.answers l.self.recorded.now in
    let scopes = l.self.globals.now in
    let made = item_made m A scopes (calls m A scopes l.left) (prefix_of l.of) l.place l.scope l.call in
    record {
      counted : l.i ≡ l.item-index;
      told : l.states ++ numbered made l.i (drop l.i l.items) ≡ numbered made 0 l.items;
      long : length l.states ≡ l.i;
      room : l.room + count_row l.states ≡ l.fn.room;
    }

-- the members before this one are made
abbrev pub invariant-members-loop-call : goal.invariant-members-loop-call
invariant-members-loop-call g l =
    let m = l.self.manifest.now in
    let A = g.R.Recorded.answers l.self.recorded.now in
    let scopes = l.self.globals.now in
    let made = member_at (calls m A scopes l.left) l.group l.scope in
    record {
      counted : l.j ≡ l.call-index;
      told : l.states ++ numbered made l.j (drop l.j l.calls) ≡ numbered made 0 l.calls;
      long : length l.states ≡ l.j;
      room : l.room + count_row l.states ≡ l.fn.room;
    }

-- the groups before this one are made, and Succeeded
abbrev pub invariant-groups-loop-calls : goal.invariant-groups-loop-calls
invariant-groups-loop-calls g l =
    let m = l.self.manifest.now in
    let A = g.R.Recorded.answers l.self.recorded.now in
    let scopes = l.self.globals.now in
    let called = calls m A scopes l.left in
    record {
      counted : l.i ≡ l.calls-index;
      told : GroupsAlike (behind l.row.states (groups_from called l.place l.i l.row.scope (drop l.i l.groups))) (groups_from called l.place 0 l.scope l.groups);
      long : length l.row.states ≡ l.i;
      room : l.room + count_row l.row.states ≡ l.fn.room;
    }

abbrev pub decreases-dag : goal.decreases-dag
decreases-dag g l = 32 * l.left + 7

abbrev pub decreases-tasks : goal.decreases-tasks
decreases-tasks g l = 32 * l.left + 6

abbrev pub decreases-task : goal.decreases-task
decreases-task g l = 32 * l.left + 5

abbrev pub decreases-freed : goal.decreases-freed
decreases-freed g l = 32 * l.left + 4

-- the tasks before this one in the order are gone through
abbrev pub invariant-tasks-loop-k : goal.invariant-tasks-loop-k
invariant-tasks-loop-k g l =
    let m = l.self.manifest.now in
    let A = g.R.Recorded.answers l.self.recorded.now in
    let scopes = l.self.globals.now in
    let called = calls m A scopes l.left in
    record {
      shown : IsBoard A called l.place l.scope l.dag (take l.k l.plan.order) l.board;
      room : l.room + count_at (standings A called l.place l.scope l.dag) (take l.k l.plan.order) ≡ l.fn.room;
    }
