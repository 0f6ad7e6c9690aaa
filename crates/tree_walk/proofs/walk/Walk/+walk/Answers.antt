-- What the functions of a walk give.
use Rattle.std.proofs.Common.{rules, suc, get_or, take, ◌≡◌, ℕ, ◌+◌, ◌<◌, ◌≤◌, [], ◌∷◌, ◌++◌, Option, Some, None, length, drop, Result, Ok, Err, refl, sym, ap, ◌∙◌, subst, arith}
use Rattle.std.specs.Prelude.{option_copied}
use Rattle.meaning.specs.Lines.{Made, numbered}
use Rattle.meaning.specs.Answers.{MemoAnswer}
use Rattle.meaning.specs.Steps.{members, makings, groups_from}
use Rattle.meaning.specs.Calls.{kind_named, item_made, body_made, template_made, hooked, remembered, saving, hook_runs, calls}
use Rattle.tree_state.specs.Counting.{Gives, count}
use Rattle.row_states.specs.Rows.{count_row}
use Rattle.tree_walk.specs.Walking.{GivesRow, GivesHalted, GivesGroups, hook_depth, label_of, prefix_of}
use Rattle.tree_walk.proofs.Rooms.{by_err, part_fails, row_next, row_stops, row_done, room_after, few_in_row, long_more}
use Rattle.tree_walk.proofs.Groups.{member_at, member_here, members_row, members_calls, turn, group_done, groups_begin, groups_done, groups_fail, groups_room, groups_next, groups_stop}
use Rattle.tree_walk.proofs.Calling.{alike, goes_deeper, stays_out, halts, called_enters, item_done, hooked_longer, hook_done, count_saving, steps_done}
use Rattle.tree_state.specs.declared.refused.TreeRefused.{TreeRefused}
use Rattle.meaning.specs.Dags.{standings, dag_made}
use Rattle.dag_board.specs.Boards.{IsBoard, IsTurn, stands_at}
use Rattle.dag_board.specs.Turns.{Tells}
use Rattle.dag_board.proofs.Writing.{waiting_is_shown}
use Rattle.tree_walk.specs.Tasks.{stood_count, count_at, GivesTask, GivesBoard}
use Rattle.tree_walk.proofs.Tasks.{got, is_low, task_waits, stands_free, task_omitted, task_no_room, task_ready, task_begun, task_fails, tasks_next, tasks_fail}
use Rattle.tree_walk.proofs.Dags.{named_at, dag_fails, dag_done}
use Rattle.tree_walk.proofs.walk.Walk.+walk.Goals as goal

pub call-returns-in-Ok-true : goal.call-returns-in-Ok-true
call-returns-in-Ok-true g t c =
    let m = c.args.self.now.manifest.now in
    let A = g.R.Recorded.answers c.args.self.now.recorded.now in
    let scopes = c.args.self.now.globals.now in
    let kind = kind_named m c.args.call.now.template in
    goes_deeper m A scopes c.args.left (prefix_of c.args.of) c.args.place c.args.scope.now c.args.call.now c.in-Ok-true.field-0 c.args.room.now c.each.new.room c.each.result c.if-left-eq0.false c.in-Ok-true.field-0-test (c.in-Ok-true.ensures c.args.place kind) c.each.ensures

pub call-returns-in-Ok-false : goal.call-returns-in-Ok-false
call-returns-in-Ok-false g t c =
    let m = c.args.self.now.manifest.now in
    let A = g.R.Recorded.answers c.args.self.now.recorded.now in
    let scopes = c.args.self.now.globals.now in
    stays_out m A scopes c.args.left (prefix_of c.args.of) c.args.place c.args.scope.now c.args.call.now c.in-Ok-false.field-0 c.args.room.now c.lone-in-Ok-false.new.room c.lone-in-Ok-false.result c.if-left-eq0.false c.in-Ok-false.field-0-test (c.in-Ok-false.ensures c.args.place (kind_named m c.args.call.now.template)) c.lone-in-Ok-false.ensures

pub call-returns-in-Err : goal.call-returns-in-Err
call-returns-in-Err g t c =
    let m = c.args.self.now.manifest.now in
    let A = g.R.Recorded.answers c.args.self.now.recorded.now in
    let scopes = c.args.self.now.globals.now in
    halts m A scopes c.args.left (prefix_of c.args.of) c.args.place c.args.scope.now c.args.call.now c.in-Err.halt c.args.room.now c.halted.new.room c.halted.result c.if-left-eq0.false (c.in-Err.ensures c.args.place (kind_named m c.args.call.now.template))
    (subst (λ k. GivesHalted c.args.room.now c.halted.new.room c.halted.result c.args.place k c.in-Err.halt) c.kind_named-kind.ensures c.halted.ensures)

pub called-returns-in-Ok : goal.called-returns-in-Ok
called-returns-in-Ok g t c =
    let m = c.args.self.now.manifest.now in
    let A = g.R.Recorded.answers c.args.self.now.recorded.now in
    let scopes = c.args.self.now.globals.now in
    called_enters m A scopes c.args.left c.args.place c.args.scope.now c.in-Ok.inner c.args.name.now c.args.given.now (hooked m A scopes (calls m A scopes c.args.left) (label_of c.args.after) c.args.place c.args.scope.now (option_copied c.args.after.exit)) c.in-Some.named.template.now c.args.room.now c.entered.new.room c.entered.result c.in-Some.ensures.found c.in-Ok.ensures c.entered.ensures

pub entered-returns-in_err-state : goal.entered-returns-in_err-state
entered-returns-in_err-state g t c =
    let m = c.args.self.now.manifest.now in
    let A = g.R.Recorded.answers c.args.self.now.recorded.now in
    let scopes = c.args.self.now.globals.now in
    let called = calls m A scopes c.args.left in
    let made = template_made A called c.args.place c.args.inner.now c.args.named.template.now in
    let whole = hooked m A scopes called (label_of c.args.after) c.args.place c.args.scope.now (option_copied c.args.after.exit) made in
    by_err (λ r. Gives c.args.room.now c.template-2.new.room r whole) c.from_residual-in_err-state.result c.in_err-state.field-0.0 c.from_residual-in_err-state.ensures.1
    (part_fails c.args.room.now c.template-2.new.room made whole c.in_err-state.field-0.0 (hooked_longer m A scopes c.args.left (label_of c.args.after) c.args.place c.args.scope.now (option_copied c.args.after.exit) made) c.in_err-state.ensures)

pub entered-hook-requires : goal.entered-hook-requires
entered-hook-requires g t c κs within =
    let depth : hook_depth c.args.after.exit ≡ 1 = ap hook_depth c.in-Some.is in
    let same : c.in_ok-at.at.depth ≡ c.args.place.depth = ap (λ p. p.depth) c.in_ok-at.ensures in
    (omega (arith, depth), (within, (c.requires.ready, omega (arith, depth, same, c.requires.shallow))))

pub group-returns : goal.group-returns
group-returns g t c =
    let m = c.args.self.now.manifest.now in
    let A = g.R.Recorded.answers c.args.self.now.recorded.now in
    let scopes = c.args.self.now.globals.now in
    let called = calls m A scopes c.args.left in
    let ms = members called c.args.place c.args.scope.now c.args.calls.now in
    let states = c.in_ok-states.ensures in
    let seen = c.in_ok-group_over.ensures ms (members_calls called c.args.place c.args.scope.now 0 c.args.calls.now) (sym states.0) in
    group_done c.args.room.now c.take.new.self c.members.new.room c.args.place ms c.in_ok-states.states c.in_ok-group_over.field-0 c.in_ok-take.ensures.takes states seen

pub groups-loop-calls-init : goal.groups-loop-calls-init
groups-loop-calls-init g t c =
    let m = c.args.self.now.manifest.now in
    let A = g.R.Recorded.answers c.args.self.now.recorded.now in
    let scopes = c.args.self.now.globals.now in
    let called = calls m A scopes c.args.left in
    record {
      counted = refl;
      told = groups_begin called (alike m A scopes c.args.left) c.args.place.now c.args.scope.now c.args.groups.now c.in_ok-row.row c.in_ok-row.ensures;
      long = ap (λ r. length r.states) c.in_ok-row.ensures;
      room = omega (arith, ap (λ r. count_row r.states) c.in_ok-row.ensures);
    }

pub groups-returns-in_err-group : goal.groups-returns-in_err-group
groups-returns-in_err-group g t c =
    let m = c.args.self.now.manifest.now in
    let A = g.R.Recorded.answers c.args.self.now.recorded.now in
    let scopes = c.args.self.now.globals.now in
    let called = calls m A scopes c.args.left in
    let parts = turn c.as_slice-calls-items.result.now c.args.groups.now c.loop-calls.i c.loop-calls.calls-index c.calls-item.result c.as_slice-calls-items.ensures c.loop-calls.invariant.counted c.loop-calls-test.true c.calls-item.is in
    by_err (λ r. GivesGroups c.args.room.now c.group.new.room r (groups_from called c.args.place.now 0 c.args.scope.now c.args.groups.now)) c.from_residual-in_err-group.result c.in_err-group.field-0.0 c.from_residual-in_err-group.ensures.1
    (groups_fail called (alike m A scopes c.args.left) c.args.place.now c.args.scope.now c.args.groups.now c.loop-calls.row.states c.loop-calls.i c.loop-calls.row.scope c.calls-item.result (drop c.loop-calls.i c.args.groups.now) parts c.loop-calls.invariant.told c.in_ok-at.at c.args.room.now c.loop-calls.room c.group.new.room c.in_err-group.field-0.0 c.in_ok-at.ensures c.loop-calls.invariant.room c.in_err-group.ensures)

pub groups-returns-then-not-goes_on : goal.groups-returns-then-not-goes_on
groups-returns-then-not-goes_on g t c =
    let m = c.args.self.now.manifest.now in
    let A = g.R.Recorded.answers c.args.self.now.recorded.now in
    let scopes = c.args.self.now.globals.now in
    let called = calls m A scopes c.args.left in
    let parts = turn c.as_slice-calls-items.result.now c.args.groups.now c.loop-calls.i c.loop-calls.calls-index c.calls-item.result c.as_slice-calls-items.ensures c.loop-calls.invariant.counted c.loop-calls-test.true c.calls-item.is in
    groups_stop called (alike m A scopes c.args.left) c.args.place.now c.args.scope.now c.args.groups.now c.loop-calls.row.states c.loop-calls.i c.loop-calls.row.scope c.calls-item.result (drop c.loop-calls.i c.args.groups.now) parts c.loop-calls.invariant.told c.in_ok-at.at c.in_ok-at.ensures c.in_ok-group.group c.add.new.self c.in_ok-add.ensures c.in_ok-group.ensures.0 c.has_succeeded-goes_on.result (sym c.has_succeeded-goes_on.ensures) c.if-not-goes_on.true c.args.room.now c.loop-calls.room c.group.new.room c.loop-calls.invariant.room c.in_ok-group.ensures.1

pub groups-overflow_add-i : goal.groups-overflow_add-i
groups-overflow_add-i g t c =
    let small = few_in_row c.loop-calls.row.states c.loop-calls.i c.loop-calls.room c.args.room.now c.loop-calls.invariant.long c.loop-calls.invariant.room c.requires.few in
    omega (arith, small)

pub groups-loop-calls-preserved : goal.groups-loop-calls-preserved
groups-loop-calls-preserved g t c =
    let m = c.args.self.now.manifest.now in
    let A = g.R.Recorded.answers c.args.self.now.recorded.now in
    let scopes = c.args.self.now.globals.now in
    let called = calls m A scopes c.args.left in
    let parts = turn c.as_slice-calls-items.result.now c.args.groups.now c.loop-calls.i c.loop-calls.calls-index c.calls-item.result c.as_slice-calls-items.ensures c.loop-calls.invariant.counted c.loop-calls-test.true c.calls-item.is in
    record {
      counted = omega (arith, c.loop-calls.invariant.counted);
      told = groups_next called (alike m A scopes c.args.left) c.args.place.now c.args.scope.now c.args.groups.now c.loop-calls.row.states c.loop-calls.i c.loop-calls.row.scope c.calls-item.result (drop c.loop-calls.i c.args.groups.now) parts c.loop-calls.invariant.told c.in_ok-at.at c.in_ok-at.ensures c.in_ok-group.group c.add.new.self c.in_ok-add.ensures c.in_ok-group.ensures.0 c.has_succeeded-goes_on.result (sym c.has_succeeded-goes_on.ensures) c.if-not-goes_on.false;
      long = ap (λ r. length r.states) c.in_ok-add.ensures ∙ long_more c.loop-calls.row.states c.in_ok-group.group.state c.loop-calls.i c.loop-calls.invariant.long;
      room = groups_room called (alike m A scopes c.args.left) c.args.place.now c.args.scope.now c.args.groups.now c.loop-calls.row.states c.loop-calls.i c.loop-calls.row.scope c.calls-item.result (drop c.loop-calls.i c.args.groups.now) parts c.loop-calls.invariant.told c.in_ok-at.at c.in_ok-at.ensures c.in_ok-group.group c.add.new.self c.in_ok-add.ensures c.in_ok-group.ensures.0 c.has_succeeded-goes_on.result (sym c.has_succeeded-goes_on.ensures) c.args.room.now c.loop-calls.room c.group.new.room c.loop-calls.invariant.room c.in_ok-group.ensures.1;
    }

pub groups-returns : goal.groups-returns
groups-returns g t c =
    let m = c.args.self.now.manifest.now in
    let A = g.R.Recorded.answers c.args.self.now.recorded.now in
    let scopes = c.args.self.now.globals.now in
    let called = calls m A scopes c.args.left in
    let past : length c.args.groups.now ≤ c.loop-calls.i = omega (arith, c.loop-calls.invariant.counted, ap length c.as_slice-calls-items.ensures, c.loop-calls-test.false) in
    groups_done called (alike m A scopes c.args.left) c.args.place.now c.args.scope.now c.args.groups.now c.loop-calls.row c.loop-calls.i c.args.room.now c.loop-calls.room past c.loop-calls.invariant.told c.loop-calls.invariant.room

pub hook-returns : goal.hook-returns
hook-returns g t c =
    let m = c.args.self.now.manifest.now in
    let A = g.R.Recorded.answers c.args.self.now.recorded.now in
    let scopes = c.args.self.now.globals.now in
    hook_done m A scopes c.args.left (label_of c.args.after) c.args.place.now c.in_ok-at.at c.args.scope.now c.in_ok-inner.inner c.args.hook.now c.args.state (hooked m A scopes (calls m A scopes c.args.left) (label_of c.args.after) c.in_ok-at.at c.in_ok-inner.inner None) c.args.room.now c.called-made.new.room c.called-made.result c.with_hook.result (λ b. refl) (ap hook_runs (sym c.phase.ensures) ∙ sym c.hook_runs.ensures ∙ c.if-not-hook_runs.false) c.in_ok-at.ensures (c.in_ok-inner.ensures c.args.state (sym c.node.ensures)) c.called-made.ensures c.with_hook.ensures

pub item-returns : goal.item-returns
item-returns g t c =
    let m = c.args.self.now.manifest.now in
    let A = g.R.Recorded.answers c.args.self.now.recorded.now in
    let scopes = c.args.self.now.globals.now in
    item_done m A scopes c.args.left (prefix_of c.args.of) c.args.place.now c.in_ok-at.at c.args.scope.now c.in_ok-inner.inner c.args.call.now c.args.i c.args.item.now c.args.room.now c.one.new.room c.one.result c.in_ok-inner.ensures c.in_ok-at.ensures c.one.ensures

pub items-loop-item-init : goal.items-loop-item-init
items-loop-item-init g t c =
    let m = c.args.self.now.manifest.now in
    let A = g.R.Recorded.answers c.args.self.now.recorded.now in
    let scopes = c.args.self.now.globals.now in
    let called = calls m A scopes c.args.left in
    let made = item_made m A scopes called (prefix_of c.args.of) c.args.place.now c.args.scope.now c.args.call.now in
    record {
      counted = refl;
      told = ap (λ ms. ms ++ numbered made 0 c.args.items.now) c.new-states.ensures;
      long = ap (λ ms. length ms) c.new-states.ensures;
      room = omega (arith, ap count_row c.new-states.ensures);
    }

pub items-returns-in_err-state : goal.items-returns-in_err-state
items-returns-in_err-state g t c =
    let m = c.args.self.now.manifest.now in
    let A = g.R.Recorded.answers c.args.self.now.recorded.now in
    let scopes = c.args.self.now.globals.now in
    let called = calls m A scopes c.args.left in
    let made = item_made m A scopes called (prefix_of c.args.of) c.args.place.now c.args.scope.now c.args.call.now in
    let parts = turn c.as_slice-item-items.result.now c.args.items.now c.loop-item.i c.loop-item.item-index c.item-item.result c.as_slice-item-items.ensures c.loop-item.invariant.counted c.loop-item-test.true c.item-item.is in
    by_err (λ r. GivesRow c.args.room.now c.item.new.room r (numbered made 0 c.args.items.now)) c.from_residual.result c.in_err-state.field-0.0 c.from_residual.ensures.1
    (row_stops made c.loop-item.states c.loop-item.i c.item-item.result (drop (c.loop-item.i + 1) c.args.items.now) (drop c.loop-item.i c.args.items.now) (numbered made 0 c.args.items.now) c.args.room.now c.loop-item.room c.item.new.room c.in_err-state.field-0.0 parts c.loop-item.invariant.told c.loop-item.invariant.room c.in_err-state.ensures)

pub items-overflow_add-i : goal.items-overflow_add-i
items-overflow_add-i g t c =
    let small = few_in_row c.loop-item.states c.loop-item.i c.loop-item.room c.args.room.now c.loop-item.invariant.long c.loop-item.invariant.room c.requires.few in
    omega (arith, small)

pub items-loop-item-preserved : goal.items-loop-item-preserved
items-loop-item-preserved g t c =
    let m = c.args.self.now.manifest.now in
    let A = g.R.Recorded.answers c.args.self.now.recorded.now in
    let scopes = c.args.self.now.globals.now in
    let called = calls m A scopes c.args.left in
    let made = item_made m A scopes called (prefix_of c.args.of) c.args.place.now c.args.scope.now c.args.call.now in
    let parts = turn c.as_slice-item-items.result.now c.args.items.now c.loop-item.i c.loop-item.item-index c.item-item.result c.as_slice-item-items.ensures c.loop-item.invariant.counted c.loop-item-test.true c.item-item.is in
    let given = c.in_ok-state.ensures in
    let pushed : c.push.new.self ≡ c.loop-item.states ++ c.in_ok-state.state ∷ [] = c.in_ok-push.ensures.ok ∙ ap (λ (s : Made). c.loop-item.states ++ s ∷ []) c.in_ok-new.ensures in
    record {
      counted = omega (arith, c.loop-item.invariant.counted);
      told = ap (λ ms. ms ++ numbered made (c.loop-item.i + 1) (drop (c.loop-item.i + 1) c.args.items.now)) pushed ∙ row_next made c.loop-item.states c.loop-item.i c.item-item.result c.in_ok-state.state (drop (c.loop-item.i + 1) c.args.items.now) (drop c.loop-item.i c.args.items.now) (numbered made 0 c.args.items.now) parts given.0 c.loop-item.invariant.told;
      long = ap (λ ms. length ms) pushed ∙ long_more c.loop-item.states c.in_ok-state.state c.loop-item.i c.loop-item.invariant.long;
      room = ap (λ ms. c.item.new.room + count_row ms) pushed ∙ room_after c.loop-item.states c.in_ok-state.state (made c.loop-item.i c.item-item.result) c.args.room.now c.loop-item.room c.item.new.room c.loop-item.invariant.room given;
    }

pub items-returns : goal.items-returns
items-returns g t c =
    let m = c.args.self.now.manifest.now in
    let A = g.R.Recorded.answers c.args.self.now.recorded.now in
    let scopes = c.args.self.now.globals.now in
    let called = calls m A scopes c.args.left in
    let made = item_made m A scopes called (prefix_of c.args.of) c.args.place.now c.args.scope.now c.args.call.now in
    let past : length c.args.items.now ≤ c.loop-item.i = omega (arith, c.loop-item.invariant.counted, ap length c.as_slice-item-items.ensures, c.loop-item-test.false) in
    row_done made c.loop-item.states c.loop-item.i c.args.items.now c.args.room.now c.loop-item.room past c.loop-item.invariant.told c.loop-item.invariant.room

pub members-loop-call-init : goal.members-loop-call-init
members-loop-call-init g t c =
    let m = c.args.self.now.manifest.now in
    let A = g.R.Recorded.answers c.args.self.now.recorded.now in
    let scopes = c.args.self.now.globals.now in
    let called = calls m A scopes c.args.left in
    let made = member_at called c.args.group.now c.args.scope.now in
    record {
      counted = refl;
      told = ap (λ ms. ms ++ numbered made 0 c.args.calls.now) c.new-states.ensures;
      long = ap (λ ms. length ms) c.new-states.ensures;
      room = omega (arith, ap count_row c.new-states.ensures);
    }

pub members-returns-in_err-state : goal.members-returns-in_err-state
members-returns-in_err-state g t c =
    let m = c.args.self.now.manifest.now in
    let A = g.R.Recorded.answers c.args.self.now.recorded.now in
    let scopes = c.args.self.now.globals.now in
    let called = calls m A scopes c.args.left in
    let made = member_at called c.args.group.now c.args.scope.now in
    let parts = turn c.as_slice-call-items.result.now c.args.calls.now c.loop-call.j c.loop-call.call-index c.call-item.result c.as_slice-call-items.ensures c.loop-call.invariant.counted c.loop-call-test.true c.call-item.is in
    let here = member_here called c.args.group.now c.args.scope.now c.loop-call.j c.call-item.result c.in_ok-at.at c.in_ok-at.ensures in
    let row = members_row called c.args.group.now c.args.scope.now 0 c.args.calls.now in
    by_err (λ r. GivesRow c.args.room.now c.call.new.room r (makings (members called c.args.group.now c.args.scope.now c.args.calls.now))) c.from_residual-in_err-state.result c.in_err-state.field-0.0 c.from_residual-in_err-state.ensures.1
    (subst (λ ms. GivesRow c.args.room.now c.call.new.room (Err c.in_err-state.field-0.0) ms) (sym row)
    (row_stops made c.loop-call.states c.loop-call.j c.call-item.result (drop (c.loop-call.j + 1) c.args.calls.now) (drop c.loop-call.j c.args.calls.now) (numbered made 0 c.args.calls.now) c.args.room.now c.loop-call.room c.call.new.room c.in_err-state.field-0.0 parts c.loop-call.invariant.told c.loop-call.invariant.room
    (subst (λ x. Gives c.loop-call.room c.call.new.room (Err c.in_err-state.field-0.0) x) here c.in_err-state.ensures)))

pub members-overflow_add-j : goal.members-overflow_add-j
members-overflow_add-j g t c =
    let small = few_in_row c.loop-call.states c.loop-call.j c.loop-call.room c.args.room.now c.loop-call.invariant.long c.loop-call.invariant.room c.requires.few in
    omega (arith, small)

pub members-loop-call-preserved : goal.members-loop-call-preserved
members-loop-call-preserved g t c =
    let m = c.args.self.now.manifest.now in
    let A = g.R.Recorded.answers c.args.self.now.recorded.now in
    let scopes = c.args.self.now.globals.now in
    let called = calls m A scopes c.args.left in
    let made = member_at called c.args.group.now c.args.scope.now in
    let parts = turn c.as_slice-call-items.result.now c.args.calls.now c.loop-call.j c.loop-call.call-index c.call-item.result c.as_slice-call-items.ensures c.loop-call.invariant.counted c.loop-call-test.true c.call-item.is in
    let here = member_here called c.args.group.now c.args.scope.now c.loop-call.j c.call-item.result c.in_ok-at.at c.in_ok-at.ensures in
    let given = c.in_ok-state.ensures in
    let as_meant : (c.in_ok-state.state ≡ made c.loop-call.j c.call-item.result) × (c.call.new.room + count (made c.loop-call.j c.call-item.result) ≡ c.loop-call.room) = (given.0 ∙ here, omega (arith, ap count here, given.1)) in
    let pushed : c.push.new.self ≡ c.loop-call.states ++ c.in_ok-state.state ∷ [] = c.in_ok-push.ensures.ok ∙ ap (λ (s : Made). c.loop-call.states ++ s ∷ []) c.in_ok-new.ensures in
    record {
      counted = omega (arith, c.loop-call.invariant.counted);
      told = ap (λ ms. ms ++ numbered made (c.loop-call.j + 1) (drop (c.loop-call.j + 1) c.args.calls.now)) pushed ∙ row_next made c.loop-call.states c.loop-call.j c.call-item.result c.in_ok-state.state (drop (c.loop-call.j + 1) c.args.calls.now) (drop c.loop-call.j c.args.calls.now) (numbered made 0 c.args.calls.now) parts as_meant.0 c.loop-call.invariant.told;
      long = ap (λ ms. length ms) pushed ∙ long_more c.loop-call.states c.in_ok-state.state c.loop-call.j c.loop-call.invariant.long;
      room = ap (λ ms. c.call.new.room + count_row ms) pushed ∙ room_after c.loop-call.states c.in_ok-state.state (made c.loop-call.j c.call-item.result) c.args.room.now c.loop-call.room c.call.new.room c.loop-call.invariant.room as_meant;
    }

pub members-returns : goal.members-returns
members-returns g t c =
    let m = c.args.self.now.manifest.now in
    let A = g.R.Recorded.answers c.args.self.now.recorded.now in
    let scopes = c.args.self.now.globals.now in
    let called = calls m A scopes c.args.left in
    let made = member_at called c.args.group.now c.args.scope.now in
    let past : length c.args.calls.now ≤ c.loop-call.j = omega (arith, c.loop-call.invariant.counted, ap length c.as_slice-call-items.ensures, c.loop-call-test.false) in
    let row = members_row called c.args.group.now c.args.scope.now 0 c.args.calls.now in
    subst (λ ms. GivesRow c.args.room.now c.loop-call.room (Ok c.loop-call.states) ms) (sym row)
    (row_done made c.loop-call.states c.loop-call.j c.args.calls.now c.args.room.now c.loop-call.room past c.loop-call.invariant.told c.loop-call.invariant.room)

pub missed-returns-in_err-state : goal.missed-returns-in_err-state
missed-returns-in_err-state g t c =
    let m = c.args.self.now.manifest.now in
    let A = g.R.Recorded.answers c.args.self.now.recorded.now in
    let scopes = c.args.self.now.globals.now in
    let called = calls m A scopes c.args.left in
    let b = body_made A called c.args.place c.args.scope.now c.args.named.template.now in
    let whole = saving c.args.place c.args.memoize.now c.args.key b in
    by_err (λ r. Gives c.args.room.now c.body.new.room r whole) c.from_residual-in_err-state.result c.in_err-state.field-0.0 c.from_residual-in_err-state.ensures.1
    (part_fails c.args.room.now c.body.new.room b whole c.in_err-state.field-0.0 (omega (arith, count_saving c.args.place c.args.memoize.now c.args.key b)) c.in_err-state.ensures)

pub remembered-returns-in-Some-None : goal.remembered-returns-in-Some-None
remembered-returns-in-Some-None g t c =
    let m = c.args.self.now.manifest.now in
    let A = g.R.Recorded.answers c.args.self.now.recorded.now in
    let scopes = c.args.self.now.globals.now in
    let called = calls m A scopes c.args.left in
    let miss : Some None ≡ A.memo c.args.place.sels = ap (λ o. Some (option_copied o)) (sym c.in-Some-None.field-0-is) ∙ c.in-Some-None.ensures in
    subst (λ (o : Option MemoAnswer). Gives c.args.room.now c.missed.new.room c.missed.result (remembered A called c.args.place c.args.scope.now c.args.named.template.now c.args.memoize.now c.args.key o)) miss c.missed.ensures

pub steps-returns : goal.steps-returns
steps-returns g t c =
    let m = c.args.self.now.manifest.now in
    let A = g.R.Recorded.answers c.args.self.now.recorded.now in
    let scopes = c.args.self.now.globals.now in
    let called = calls m A scopes c.args.left in
    steps_done called c.args.place c.args.scope.now c.args.declared.now c.args.groups.now c.in_ok-row.row c.in_ok-steps_over.field-0 c.args.room.now c.take.new.self c.groups.new.room c.in_ok-take.ensures.takes c.in_ok-row.ensures c.in_ok-steps_over.ensures

pub dag-returns-in_err-board : goal.dag-returns-in_err-board
dag-returns-in_err-board g t c =
    let m = c.args.self.now.manifest.now in
    let A = g.R.Recorded.answers c.args.self.now.recorded.now in
    let scopes = c.args.self.now.globals.now in
    let called = calls m A scopes c.args.left in
    let whole = dag_made A called c.args.place c.args.scope.now c.args.declared.now c.args.dag.now in
    by_err (λ r. Gives c.args.room.now c.tasks.new.room r whole) c.from_residual-in_err-board.result c.in_err-board.field-0.0 c.from_residual-in_err-board.ensures.1
    (dag_fails A called c.args.place c.args.scope.now c.args.dag.now c.args.declared.now c.args.plan.now c.args.room.now c.take.new.self c.tasks.new.room c.in_err-board.field-0.0 c.requires.plan c.in_ok-take.ensures.takes c.in_err-board.ensures)

pub dag-made-requires-clause-named : goal.dag-made-requires-clause-named
dag-made-requires-clause-named g t c = named_at c.args.dag.now.tasks c.requires.walkable.named

pub dag-returns : goal.dag-returns
dag-returns g t c =
    let m = c.args.self.now.manifest.now in
    let A = g.R.Recorded.answers c.args.self.now.recorded.now in
    let scopes = c.args.self.now.globals.now in
    let called = calls m A scopes c.args.left in
    dag_done A called c.args.place c.args.scope.now c.args.dag.now c.args.declared.now c.args.plan.now c.in_ok-board.board c.args.room.now c.take.new.self c.tasks.new.room c.in_ok-made.field-0 c.requires.plan c.in_ok-take.ensures.takes c.in_ok-board.ensures c.in_ok-made.ensures

pub freed-returns-then-not-begins : goal.freed-returns-then-not-begins
freed-returns-then-not-begins g t c =
    let m = c.args.self.now.manifest.now in
    let A = g.R.Recorded.answers c.args.self.now.recorded.now in
    let scopes = c.args.self.now.globals.now in
    let called = calls m A scopes c.args.left in
    task_ready A called (alike m A scopes c.args.left) c.args.place.now c.args.scope.now c.args.dag.now c.args.plan.now c.args.k c.args.i c.args.task.now c.requires.turn c.in_ok-at.at c.in_ok-at.ensures c.requires.free c.begins.result c.begins.ensures c.args.board.now c.set_ready.new.self c.args.room.now c.if-not-begins.true c.requires.board c.set_ready.ensures

pub freed-returns-in_err-state : goal.freed-returns-in_err-state
freed-returns-in_err-state g t c =
    let m = c.args.self.now.manifest.now in
    let A = g.R.Recorded.answers c.args.self.now.recorded.now in
    let scopes = c.args.self.now.globals.now in
    let called = calls m A scopes c.args.left in
    by_err (λ r. GivesTask c.args.room.now c.call.new.room r (IsBoard A called c.args.place.now c.args.scope.now c.args.dag.now (take (suc c.args.k) c.args.plan.now.order) c.args.board.now) (stood_count (stands_at A called c.args.place.now c.args.scope.now c.args.dag.now c.args.i))) c.from_residual-in_err-state.result c.in_err-state.field-0.0 c.from_residual-in_err-state.ensures.1
    (task_fails A called (alike m A scopes c.args.left) c.args.place.now c.args.scope.now c.args.dag.now c.args.plan.now c.args.k c.args.i c.args.task.now c.requires.turn c.in_ok-at.at c.in_ok-at.ensures c.requires.free c.begins.result c.begins.ensures c.if-not-begins.false c.in_ok-inner.inner (c.in_ok-inner.ensures A called c.args.place.now c.args.scope.now c.args.k c.args.task.now c.requires.board c.requires.turn) c.args.board.now c.args.room.now c.call.new.room c.in_err-state.field-0.0 c.in_err-state.ensures)

pub freed-returns : goal.freed-returns
freed-returns g t c =
    let m = c.args.self.now.manifest.now in
    let A = g.R.Recorded.answers c.args.self.now.recorded.now in
    let scopes = c.args.self.now.globals.now in
    let called = calls m A scopes c.args.left in
    task_begun A called (alike m A scopes c.args.left) c.args.place.now c.args.scope.now c.args.dag.now c.args.plan.now c.args.k c.args.i c.args.task.now c.requires.turn c.in_ok-at.at c.in_ok-at.ensures c.requires.free c.begins.result c.begins.ensures c.if-not-begins.false c.in_ok-inner.inner (c.in_ok-inner.ensures A called c.args.place.now c.args.scope.now c.args.k c.args.task.now c.requires.board c.requires.turn) c.args.board.now c.begin.new.self c.in_ok-made.made c.args.room.now c.call.new.room c.requires.board (c.in_ok-made.ensures ∙ c.in_ok-state.ensures.0, c.in_ok-state.ensures.1) c.in_ok-begin.ensures

pub task-returns-in_err-take-in-Denied : goal.task-returns-in_err-take-in-Denied
task-returns-in_err-take-in-Denied g t c =
    let m = c.args.self.now.manifest.now in
    let A = g.R.Recorded.answers c.args.self.now.recorded.now in
    let scopes = c.args.self.now.globals.now in
    let called = calls m A scopes c.args.left in
    let i = c.get-i.result.now in
    let here = got c.args.plan.now.order c.args.k i c.get-i.ensures in
    let turn : IsTurn c.args.dag.now c.args.plan.now c.args.k i c.get-task.result.now = record { low = c.requires.low; here = here; task = c.get-task.ensures } in
    let tells = subst (λ v. Tells c.args.dag.now c.args.plan.now c.args.board.now i v) c.in-Denied.is c.in_ok-verdict.ensures in
    let GivesIt = λ (r : Result (Unit {0}) TreeRefused) (n : ℕ). GivesTask c.args.room.now c.take.new.self r (IsBoard A called c.args.place.now c.args.scope.now c.args.dag.now (take (suc c.args.k) c.args.plan.now.order) c.args.board.now) (stood_count (stands_at A called c.args.place.now c.args.scope.now c.args.dag.now n)) in
    by_err (λ r. GivesIt r (get_or c.args.plan.now.order c.args.k 0)) c.from_residual-in_err-take-in-Denied.result c.in_err-take-in-Denied.field-0.0 c.from_residual-in_err-take-in-Denied.ensures.1
    (subst (λ n. GivesIt (Err c.in_err-take-in-Denied.field-0.0) n) (sym here)
    (task_no_room A called (alike m A scopes c.args.left) c.args.place.now c.args.scope.now c.args.dag.now c.args.plan.now c.args.k i c.get-task.result.now turn c.args.board.now c.args.board.now c.in-Denied.branch c.args.room.now c.take.new.self c.in_err-take-in-Denied.field-0.0 c.requires.board tells c.in_err-take-in-Denied.ensures.takes))

pub task-omit-requires-clause-place : goal.task-omit-requires-clause-place
task-omit-requires-clause-place g t c = is_low c.args.dag.now.tasks c.get-i.result.now c.get-task.result.now c.get-task.ensures

pub task-omit-requires-clause-named : goal.task-omit-requires-clause-named
task-omit-requires-clause-named g t c = named_at c.args.dag.now.tasks c.requires.walkable.named c.get-i.result.now

pub task-freed-requires : goal.task-freed-requires
task-freed-requires g t c κs within =
    let m = c.args.self.now.manifest.now in
    let A = g.R.Recorded.answers c.args.self.now.recorded.now in
    let scopes = c.args.self.now.globals.now in
    let called = calls m A scopes c.args.left in
    let i = c.get-i.result.now in
    let here = got c.args.plan.now.order c.args.k i c.get-i.ensures in
    let turn : IsTurn c.args.dag.now c.args.plan.now c.args.k i c.get-task.result.now = record { low = c.requires.low; here = here; task = c.get-task.ensures } in
    let tells = subst (λ v. Tells c.args.dag.now c.args.plan.now c.args.board.now i v) c.in-Holds.is c.in_ok-verdict.ensures in
    let free = stands_free A called (alike m A scopes c.args.left) c.args.place.now c.args.scope.now c.args.dag.now c.args.plan.now c.args.k i c.get-task.result.now turn c.args.board.now c.requires.board tells in
    let place = is_low c.args.dag.now.tasks i c.get-task.result.now c.get-task.ensures in
    (omega arith, (within, (c.requires.ready, (c.requires.walkable, (c.requires.plan, (turn, (c.requires.board, (free, (place, omega (arith, c.requires.shallow))))))))))

pub task-returns-in-Waits : goal.task-returns-in-Waits
task-returns-in-Waits g t c =
    let m = c.args.self.now.manifest.now in
    let A = g.R.Recorded.answers c.args.self.now.recorded.now in
    let scopes = c.args.self.now.globals.now in
    let called = calls m A scopes c.args.left in
    let i = c.get-i.result.now in
    let here = got c.args.plan.now.order c.args.k i c.get-i.ensures in
    let turn : IsTurn c.args.dag.now c.args.plan.now c.args.k i c.get-task.result.now = record { low = c.requires.low; here = here; task = c.get-task.ensures } in
    subst (λ n. (IsBoard A called c.args.place.now c.args.scope.now c.args.dag.now (take (suc c.args.k) c.args.plan.now.order) c.args.board.now) × (c.args.room.now + (stood_count (stands_at A called c.args.place.now c.args.scope.now c.args.dag.now n)) ≡ c.args.room.now)) (sym here)
    (task_waits A called (alike m A scopes c.args.left) c.args.place.now c.args.scope.now c.args.dag.now c.args.plan.now c.args.k i c.get-task.result.now turn c.args.board.now c.args.room.now c.in_ok-verdict.field-0 waiting_is_shown c.requires.plan c.requires.board c.in-Waits.is c.in_ok-verdict.ensures)

pub task-returns-in_ok-omit-in-Denied : goal.task-returns-in_ok-omit-in-Denied
task-returns-in_ok-omit-in-Denied g t c =
    let m = c.args.self.now.manifest.now in
    let A = g.R.Recorded.answers c.args.self.now.recorded.now in
    let scopes = c.args.self.now.globals.now in
    let called = calls m A scopes c.args.left in
    let i = c.get-i.result.now in
    let here = got c.args.plan.now.order c.args.k i c.get-i.ensures in
    let turn : IsTurn c.args.dag.now c.args.plan.now c.args.k i c.get-task.result.now = record { low = c.requires.low; here = here; task = c.get-task.ensures } in
    let tells = subst (λ v. Tells c.args.dag.now c.args.plan.now c.args.board.now i v) c.in-Denied.is c.in_ok-verdict.ensures in
    subst (λ n. (IsBoard A called c.args.place.now c.args.scope.now c.args.dag.now (take (suc c.args.k) c.args.plan.now.order) c.omit.new.self) × (c.take.new.self + (stood_count (stands_at A called c.args.place.now c.args.scope.now c.args.dag.now n)) ≡ c.args.room.now)) (sym here)
    (task_omitted A called (alike m A scopes c.args.left) c.args.place.now c.args.scope.now c.args.dag.now c.args.plan.now c.args.k i c.get-task.result.now turn c.args.board.now c.omit.new.self c.in-Denied.branch c.args.room.now c.take.new.self c.requires.board tells c.in_ok-take-in-Denied.ensures.takes c.in_ok-omit-in-Denied.ensures)

pub task-returns-in-Holds : goal.task-returns-in-Holds
task-returns-in-Holds g t c =
    let m = c.args.self.now.manifest.now in
    let A = g.R.Recorded.answers c.args.self.now.recorded.now in
    let scopes = c.args.self.now.globals.now in
    let called = calls m A scopes c.args.left in
    let i = c.get-i.result.now in
    let here = got c.args.plan.now.order c.args.k i c.get-i.ensures in
    let turn : IsTurn c.args.dag.now c.args.plan.now c.args.k i c.get-task.result.now = record { low = c.requires.low; here = here; task = c.get-task.ensures } in
    subst (λ n. GivesTask c.args.room.now c.freed.new.room c.freed.result (IsBoard A called c.args.place.now c.args.scope.now c.args.dag.now (take (suc c.args.k) c.args.plan.now.order) c.freed.new.board) (stood_count (stands_at A called c.args.place.now c.args.scope.now c.args.dag.now n))) (sym here) c.freed.ensures

pub tasks-loop-k-init : goal.tasks-loop-k-init
tasks-loop-k-init g t c =
    let m = c.args.self.now.manifest.now in
    let A = g.R.Recorded.answers c.args.self.now.recorded.now in
    let scopes = c.args.self.now.globals.now in
    let called = calls m A scopes c.args.left in
    record { shown = c.in_ok-board.ensures A called c.args.place.now c.args.scope.now; room = omega arith }

pub tasks-returns-in_err-task : goal.tasks-returns-in_err-task
tasks-returns-in_err-task g t c =
    let m = c.args.self.now.manifest.now in
    let A = g.R.Recorded.answers c.args.self.now.recorded.now in
    let scopes = c.args.self.now.globals.now in
    let called = calls m A scopes c.args.left in
    let low : c.loop-k.k < length c.args.plan.now.order = search rules in
    by_err (λ r. GivesBoard A called c.args.place.now c.args.scope.now c.args.dag.now c.args.plan.now.order c.args.room.now c.task.new.room r) c.from_residual-in_err-task.result c.in_err-task.field-0.0 c.from_residual-in_err-task.ensures.1
    (tasks_fail A called c.args.place.now c.args.scope.now c.args.dag.now c.args.plan.now c.loop-k.k c.loop-k.room c.args.room.now c.task.new.room (IsBoard A called c.args.place.now c.args.scope.now c.args.dag.now (take (suc c.loop-k.k) c.args.plan.now.order) c.task.new.board) c.in_err-task.field-0.0 low c.loop-k.invariant.room c.in_err-task.ensures)

pub tasks-loop-k-preserved : goal.tasks-loop-k-preserved
tasks-loop-k-preserved g t c =
    let m = c.args.self.now.manifest.now in
    let A = g.R.Recorded.answers c.args.self.now.recorded.now in
    let scopes = c.args.self.now.globals.now in
    let called = calls m A scopes c.args.left in
    let low : c.loop-k.k < length c.args.plan.now.order = search rules in
    let n = stood_count (stands_at A called c.args.place.now c.args.scope.now c.args.dag.now (get_or c.args.plan.now.order c.loop-k.k 0)) in
    let step : suc c.loop-k.k ≡ c.loop-k.k + 1 = omega arith in
    record {
      shown = subst (λ k. IsBoard A called c.args.place.now c.args.scope.now c.args.dag.now (take k c.args.plan.now.order) c.task.new.board) step c.in_ok-task.ensures.0;
      room = subst (λ k. c.task.new.room + count_at (standings A called c.args.place.now c.args.scope.now c.args.dag.now) (take k c.args.plan.now.order) ≡ c.args.room.now) step (tasks_next A called c.args.place.now c.args.scope.now c.args.dag.now c.args.plan.now c.loop-k.k c.loop-k.room c.args.room.now c.task.new.room n low c.loop-k.invariant.room refl c.in_ok-task.ensures.1);
    }
