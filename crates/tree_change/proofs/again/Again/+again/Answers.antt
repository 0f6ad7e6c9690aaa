-- What a walk that is made again gives.
use Rattle.std.proofs.Common.{rules, suc, get_or, take, ◌≡◌, ℕ, ◌+◌, ◌<◌, ◌≤◌, List, ◌∷◌, ◌++◌, length, Ok, Err, codes, refl, sym, ap, ◌∙◌, subst, arith, IsTrue, All}
use Rattle.std.specs.Prelude.{IfSome, Option, option_copied}
use Rattle.serde_json.specs.Data.{Data}
use Rattle.fanout.specs.Items.{is_whole, items}
use Rattle.tree_types.specs.declared.path.Sel.TheVariants.{Group, Item, Step, Task as task_sel}
use Rattle.meaning.specs.declared.lines.Place.{Place}
use Rattle.meaning.specs.Answers.{Sels}
use Rattle.meaning.specs.Lines.{Made, row_in}
use Rattle.meaning.specs.Steps.{Member, members, member_place, group_place, group_made, groups_from, steps_made}
use Rattle.meaning.specs.Calls.{looped, template_made, hooked, saving, calls}
use Rattle.locality.proofs.OffPath.{apart_on_way}
use Rattle.tree_state.specs.Counting.{Gives, count}
use Rattle.tree_walk.specs.Walkable.{IsNamed}
use Rattle.tree_walk.specs.Walking.{label_of, prefix_of}
use Rattle.tree_change.specs.Inside.Groups.{KeepsGroup, KeepsFront, IsSaid, first_groups}
use Rattle.tree_walk.specs.declared.over.Row.{Row}
use Rattle.row_states.specs.Rows.{count_row}
use Rattle.wf_manifest.specs.declared.calls.Call.{Call}
use Rattle.tree_change.proofs.Beside.{same_below, groups_were, all_at}
use Rattle.tree_change.proofs.Calling.{alike, called_enters, item_done, hooked_longer, count_saving, one_again, one_was, looped_was, looped_again, template_was, item_was}
use Rattle.tree_change.proofs.Changing.{steps_template_again, steps_template_saved, dag_were, dag_template_again, dag_template_saved}
use Rattle.tree_change.proofs.Keeping.{group_keeps, steps_done, too_little}
use Rattle.tree_change.proofs.Passing.{call_low, front_fails, front_shared, front_alone, front_went, front_long, group_stood, members_seen, group_fails, next_front, next_went, next_long, next_room, last_front, groups_end}
use Rattle.tree_change.proofs.Placing.{item_told, item_had, item_fails, item_put, items_listed, items_fail, member_low, member_had, member_fails, member_put, members_listed, members_fail}
use Rattle.tree_walk.proofs.Rooms.{gives_as, by_err, part_fails, few_in_row}
use Rattle.meaning.specs.Dags.{standings, dag_made}
use Rattle.locality.specs.Answered.{SameBut}
use Rattle.dag_board.specs.Boards.{IsBoard, stands_at}
use Rattle.tree_walk.specs.Tasks.{stood_count, count_at, GivesBoard}
use Rattle.tree_walk.proofs.Tasks.{is_low, tasks_next, tasks_fail}
use Rattle.tree_walk.proofs.Dags.{named_at, dag_fails, dag_done}
use Rattle.tree_change.specs.Inside.Resuming.{calls_now}
use Rattle.tree_change.proofs.Turns.{next_turn, next_given, next_waits, next_free, next_omitted, next_has_no_room, free_waits, free_begins, free_begun, free_fails, stayed_shared, stayed_fails, inner_gives, inner_fails}
use Rattle.tree_change.proofs.Tasks.{walkable_dag, same_inside, was_inside}
use Rattle.tree_change.proofs.Given.{given_some}
use Rattle.tree_change.proofs.again.Again.+again.Goals as goal

-- ---- calls

pub call-returns-in_default : goal.call-returns-in_default
call-returns-in_default g t c =
    let m = c.args.self.now.walk.manifest.now in
    let A = g.R.Recorded.answers c.args.self.now.walk.recorded.now in
    let B = g.R.Recorded.answers c.args.self.now.before.now in
    one_again m A B c.args.self.now.walk.globals.now c.args.left (prefix_of c.args.of) c.args.place c.args.scope.now c.args.call.now c.args.old.now c.if-left-eq0.false c.requires.was (c.if-not-is_running.ensures refl) c.args.room.now c.one.new.room c.one.result c.in_default.is c.one.ensures

pub call-one-requires : goal.call-one-requires
call-one-requires g t c κs within =
    let m = c.args.self.now.walk.manifest.now in
    let A = g.R.Recorded.answers c.args.self.now.walk.recorded.now in
    let B = g.R.Recorded.answers c.args.self.now.before.now in
    let was = one_was m A B c.args.self.now.walk.globals.now c.args.left (prefix_of c.args.of) c.args.place c.args.scope.now c.args.call.now c.args.old.now c.if-left-eq0.false c.requires.was (c.if-not-is_running.ensures refl) c.in_default.is in
    (omega (arith, c.if-left-eq0.false), (within, (c.requires.resumes, (omega (arith, c.if-left-eq0.false, c.requires.shallow), was))))

pub call-looped-requires : goal.call-looped-requires
call-looped-requires g t c κs within =
    let m = c.args.self.now.walk.manifest.now in
    let A = g.R.Recorded.answers c.args.self.now.walk.recorded.now in
    let B = g.R.Recorded.answers c.args.self.now.before.now in
    let was = looped_was m A B c.args.self.now.walk.globals.now c.args.left (prefix_of c.args.of) c.args.place c.args.scope.now c.args.call.now c.args.old.now c.if-left-eq0.false c.requires.was (c.if-not-is_running.ensures refl) c.in-Some.each c.in-Some.is in
    let same = subst (λ (r : Sels). SameBut A B (c.args.place.sels ++ r)) c.in-Some-item_below.ensures.path c.requires.resumes.same in
    let whole = subst (λ (o : Option Data). IfSome o (λ x. IsTrue (is_whole x))) c.in-Some-2.is c.in_ok-item.ensures.whole in
    let item = item_told c.args.scope.now c.in-Some.each c.in-Some-item_below.i c.in-Some-2.item c.in_ok-item.field-0 c.in-Some-2.is c.in_ok-item.ensures.item in
    (omega (arith, c.if-left-eq0.false), (within, (record { ready = c.requires.resumes.ready; same = same }, (item, (whole, (omega (arith, c.if-left-eq0.false, c.requires.shallow), (c.in-Some-item_below.ensures.item, was)))))))

pub call-returns : goal.call-returns
call-returns g t c =
    let m = c.args.self.now.walk.manifest.now in
    let A = g.R.Recorded.answers c.args.self.now.walk.recorded.now in
    let B = g.R.Recorded.answers c.args.self.now.before.now in
    looped_again m A B c.args.self.now.walk.globals.now c.args.left (prefix_of c.args.of) c.args.place c.args.scope.now c.args.call.now c.args.old.now c.if-left-eq0.false c.requires.was (c.if-not-is_running.ensures refl) c.in-Some.each c.args.room.now c.looped.new.room c.looped.result c.in-Some.is c.looped.ensures

pub called-entered-requires : goal.called-entered-requires
called-entered-requires g t c κs within =
    let m = c.args.self.now.walk.manifest.now in
    let B = g.R.Recorded.answers c.args.self.now.before.now in
    let was = template_was m B c.args.self.now.walk.globals.now c.args.left (label_of c.args.after) c.args.place c.args.scope.now c.in-Ok.inner c.args.name.now c.args.given.now (option_copied c.args.after.exit) c.in-Some.named.template.now c.args.old.now c.in-Some.ensures.found c.in-Ok.ensures c.requires.was c.requires.runs in
    (omega arith, (within, (c.requires.resumes, (c.in-Some.ensures.walkable, (c.requires.shallow, (c.requires.runs, was))))))

pub called-returns-in-Ok : goal.called-returns-in-Ok
called-returns-in-Ok g t c =
    let m = c.args.self.now.walk.manifest.now in
    let A = g.R.Recorded.answers c.args.self.now.walk.recorded.now in
    let scopes = c.args.self.now.walk.globals.now in
    called_enters m A scopes c.args.left c.args.place c.args.scope.now c.in-Ok.inner c.args.name.now c.args.given.now (hooked m A scopes (calls m A scopes c.args.left) (label_of c.args.after) c.args.place c.args.scope.now (option_copied c.args.after.exit)) c.in-Some.named.template.now c.args.room.now c.entered.new.room c.entered.result c.in-Some.ensures.found c.in-Ok.ensures c.entered.ensures

pub entered-returns-in_err-state : goal.entered-returns-in_err-state
entered-returns-in_err-state g t c =
    let m = c.args.self.now.walk.manifest.now in
    let A = g.R.Recorded.answers c.args.self.now.walk.recorded.now in
    let scopes = c.args.self.now.walk.globals.now in
    let called = calls m A scopes c.args.left in
    let made = template_made A called c.args.place c.args.inner.now c.args.named.template.now in
    let whole = hooked m A scopes called (label_of c.args.after) c.args.place c.args.scope.now (option_copied c.args.after.exit) made in
    by_err (λ r. Gives c.args.room.now c.template-2.new.room r whole) c.from_residual-in_err-state.result c.in_err-state.field-0.0 c.from_residual-in_err-state.ensures.1
    (part_fails c.args.room.now c.template-2.new.room made whole c.in_err-state.field-0.0 (hooked_longer m A scopes c.args.left (label_of c.args.after) c.args.place c.args.scope.now (option_copied c.args.after.exit) made) c.in_err-state.ensures)

pub template-returns-in_default-memoize : goal.template-returns-in_default-memoize
template-returns-in_default-memoize g t c =
    let m = c.args.self.now.walk.manifest.now in
    let A = g.R.Recorded.answers c.args.self.now.walk.recorded.now in
    let B = g.R.Recorded.answers c.args.self.now.before.now in
    let scopes = c.args.self.now.walk.globals.now in
    let u = c.args.named.template.now in
    let gs = c.in-Some.groups.now in
    let changed = c.args.place.sels ++ c.args.rest.now in
    let apart = apart_on_way A B changed c.requires.resumes.same c.args.place.sels c.in-Some.others.now (Group c.in-Some.j) (ap (λ (r : Sels). c.args.place.sels ++ r) c.in-Some.ensures.path) in
    let made = steps_template_again m A B changed c.requires.resumes.same scopes c.args.left c.args.place c.args.scope.now u gs c.args.old.now c.requires.was c.requires.runs c.in-Some.ensures.steps c.in_default-memoize.is apart in
    gives_as c.args.room.now c.steps.new.room c.steps.result (steps_made (calls m A scopes c.args.left) c.args.place c.args.scope.now u.outputs gs) (template_made A (calls m A scopes c.args.left) c.args.place c.args.scope.now u) (sym made) c.steps.ensures

pub template-returns-in-Ok : goal.template-returns-in-Ok
template-returns-in-Ok g t c =
    let m = c.args.self.now.walk.manifest.now in
    let A = g.R.Recorded.answers c.args.self.now.walk.recorded.now in
    let B = g.R.Recorded.answers c.args.self.now.before.now in
    let scopes = c.args.self.now.walk.globals.now in
    let u = c.args.named.template.now in
    let gs = c.in-Some.groups.now in
    let changed = c.args.place.sels ++ c.args.rest.now in
    let apart = apart_on_way A B changed c.requires.resumes.same c.args.place.sels c.in-Some.others.now (Group c.in-Some.j) (ap (λ (r : Sels). c.args.place.sels ++ r) c.in-Some.ensures.path) in
    let made = steps_template_saved m A B changed c.requires.resumes.same scopes c.args.left c.args.place c.args.scope.now u gs c.in-Some-memoize.memoize c.in-Ok.key c.args.old.now c.requires.was c.requires.runs c.in-Some.ensures.steps c.in-Some-memoize.is c.in-Ok.ensures apart in
    gives_as c.args.room.now c.missed.new.room c.missed.result (saving c.args.place c.in-Some-memoize.memoize c.in-Ok.key (steps_made (calls m A scopes c.args.left) c.args.place c.args.scope.now u.outputs gs)) (template_made A (calls m A scopes c.args.left) c.args.place c.args.scope.now u) (sym made) c.missed.ensures

pub missed-returns-in_err-state : goal.missed-returns-in_err-state
missed-returns-in_err-state g t c =
    let m = c.args.self.now.walk.manifest.now in
    let A = g.R.Recorded.answers c.args.self.now.walk.recorded.now in
    let scopes = c.args.self.now.walk.globals.now in
    let b = steps_made (calls m A scopes c.args.left) c.args.place c.args.scope.now c.args.declared.now c.args.groups.now in
    let whole = saving c.args.place c.args.memoize.now c.args.key b in
    by_err (λ r. Gives c.args.room.now c.steps.new.room r whole) c.from_residual-in_err-state.result c.in_err-state.field-0.0 c.from_residual-in_err-state.ensures.1
    (part_fails c.args.room.now c.steps.new.room b whole c.in_err-state.field-0.0 (omega (arith, count_saving c.args.place c.args.memoize.now c.args.key b)) c.in_err-state.ensures)

pub missed-returns : goal.missed-returns
missed-returns g t c =
    let m = c.args.self.now.walk.manifest.now in
    let A = g.R.Recorded.answers c.args.self.now.walk.recorded.now in
    let scopes = c.args.self.now.walk.globals.now in
    let b = steps_made (calls m A scopes c.args.left) c.args.place c.args.scope.now c.args.declared.now c.args.groups.now in
    let given = c.in_ok-state.ensures in (
      c.in_ok-saving.ensures c.args.place (sym c.in_ok-at.ensures) ∙ ap (λ (x : Made). saving c.args.place c.args.memoize.now c.args.key x) given.0,
      omega (arith, count_saving c.args.place c.args.memoize.now c.args.key b, given.1),
    )

-- ---- loops

pub looped-returns-in_err-take_others : goal.looped-returns-in_err-take_others
looped-returns-in_err-take_others g t c =
    let m = c.args.self.now.walk.manifest.now in
    let A = g.R.Recorded.answers c.args.self.now.walk.recorded.now in
    let B = g.R.Recorded.answers c.args.self.now.before.now in
    let scopes = c.args.self.now.walk.globals.now in
    let whole = looped m A scopes (calls m A scopes c.args.left) (prefix_of c.args.of) c.args.place c.args.scope.now c.args.call.now (items c.args.scope.now c.args.each.now) in
    by_err (λ r. Gives c.args.room.now c.take_others.new.room r whole) c.from_residual.result c.in_err-take_others.field-0.0 c.from_residual.ensures.1
    (items_fail m A B scopes c.args.left (prefix_of c.args.of) c.args.place c.args.scope.now c.args.call.now c.args.each.now c.args.i c.args.rest.now c.requires.resumes.same c.args.old.now c.args.before.now c.requires.at c.requires.was c.args.item.now c.requires.item c.args.room.now c.take_others.new.room c.in_err-take_others.field-0.0 c.in_err-take_others.ensures)

pub looped-item-requires : goal.looped-item-requires
looped-item-requires g t c κs within =
    let m = c.args.self.now.walk.manifest.now in
    let A = g.R.Recorded.answers c.args.self.now.walk.recorded.now in
    let B = g.R.Recorded.answers c.args.self.now.before.now in
    let scopes = c.args.self.now.walk.globals.now in
    let was = item_had m A B scopes c.args.left (prefix_of c.args.of) c.args.place c.args.scope.now c.args.call.now c.args.each.now c.args.i c.args.rest.now c.requires.resumes.same c.args.old.now c.args.before.now c.requires.at c.requires.was c.args.item.now c.requires.item in
    (omega arith, (within, (c.requires.resumes, (c.requires.whole, (c.requires.shallow, was)))))

pub looped-returns-in_err-new : goal.looped-returns-in_err-new
looped-returns-in_err-new g t c =
    let m = c.args.self.now.walk.manifest.now in
    let A = g.R.Recorded.answers c.args.self.now.walk.recorded.now in
    let B = g.R.Recorded.answers c.args.self.now.before.now in
    let scopes = c.args.self.now.walk.globals.now in
    let whole = looped m A scopes (calls m A scopes c.args.left) (prefix_of c.args.of) c.args.place c.args.scope.now c.args.call.now (items c.args.scope.now c.args.each.now) in
    by_err (λ r. Gives c.args.room.now c.item.new.room r whole) c.from_residual-in_err-new.result c.in_err-new.field-0.0 c.from_residual-in_err-new.ensures.1
    (item_fails m A B scopes c.args.left (prefix_of c.args.of) c.args.place c.args.scope.now c.args.call.now c.args.each.now c.args.i c.args.rest.now c.requires.resumes.same c.args.old.now c.args.before.now c.requires.at c.requires.was c.args.item.now c.requires.item c.args.room.now c.take_others.new.room c.item.new.room c.in_err-new.field-0.0 c.in_ok-take_others.ensures c.in_err-new.ensures)

pub looped-returns-then-runs_on : goal.looped-returns-then-runs_on
looped-returns-then-runs_on g t c =
    let m = c.args.self.now.walk.manifest.now in
    let A = g.R.Recorded.answers c.args.self.now.walk.recorded.now in
    let B = g.R.Recorded.answers c.args.self.now.before.now in
    let scopes = c.args.self.now.walk.globals.now in
    item_put m A B scopes c.args.left (prefix_of c.args.of) c.args.place c.args.scope.now c.args.call.now c.args.each.now c.args.i c.args.rest.now c.requires.resumes.same c.args.old.now c.args.before.now c.requires.at c.requires.was c.args.item.now c.requires.item c.in_ok-state.state c.in_ok-new.new c.in_ok-state.ensures c.args.room.now c.take_others.new.room c.item.new.room c.in_ok-take_others.ensures c.in_ok-new.ensures (c.runs_on.ensures.old c.if-runs_on.true) (c.runs_on.ensures.new c.if-runs_on.true)

pub looped-returns : goal.looped-returns
looped-returns g t c =
    let m = c.args.self.now.walk.manifest.now in
    let A = g.R.Recorded.answers c.args.self.now.walk.recorded.now in
    let B = g.R.Recorded.answers c.args.self.now.before.now in
    let scopes = c.args.self.now.walk.globals.now in
    items_listed m A B scopes c.args.left (prefix_of c.args.of) c.args.place c.args.scope.now c.args.call.now c.args.each.now c.args.i c.args.rest.now c.requires.resumes.same c.args.old.now c.args.before.now c.requires.at c.requires.was c.args.item.now c.requires.item c.in_ok-state.state c.in_ok-new.new c.in_ok-state.ensures c.args.room.now c.take_others.new.room c.item.new.room c.in_ok-take_others.ensures c.in_ok-new.ensures c.in_ok-states.states c.in_ok-loop_of.field-0 c.in_ok-states.ensures c.in_ok-loop_of.ensures

pub item-one-requires : goal.item-one-requires
item-one-requires g t c κs within =
    let m = c.args.self.now.walk.manifest.now in
    let A = g.R.Recorded.answers c.args.self.now.walk.recorded.now in
    let B = g.R.Recorded.answers c.args.self.now.before.now in
    let scopes = c.args.self.now.walk.globals.now in
    let same = same_below A B c.args.place.now.sels c.in_ok-at.at.sels (Item c.args.i) (Item c.args.i ∷ c.args.rest.now) c.args.rest.now c.requires.resumes.same refl (ap (λ (p : Place). p.sels) c.in_ok-at.ensures) in
    let was = item_was m B scopes c.args.left (prefix_of c.args.of) c.args.place.now c.in_ok-at.at c.args.scope.now c.in_ok-inner.inner c.args.call.now c.args.i c.args.item.now c.args.old.now c.in_ok-inner.ensures c.in_ok-at.ensures c.requires.was in
    let depth : c.in_ok-at.at.depth ≡ suc c.args.place.now.depth = ap (λ (p : Place). p.depth) c.in_ok-at.ensures in
    (omega arith, (within, (record { ready = c.requires.resumes.ready; same = same }, (omega (arith, depth, c.requires.shallow), was))))

pub item-returns : goal.item-returns
item-returns g t c =
    let m = c.args.self.now.walk.manifest.now in
    let A = g.R.Recorded.answers c.args.self.now.walk.recorded.now in
    let scopes = c.args.self.now.walk.globals.now in
    item_done m A scopes c.args.left (prefix_of c.args.of) c.args.place.now c.in_ok-at.at c.args.scope.now c.in_ok-inner.inner c.args.call.now c.args.i c.args.item.now c.args.room.now c.one.new.room c.one.result c.in_ok-inner.ensures c.in_ok-at.ensures c.one.ensures

-- ---- groups

pub steps-groups-requires : goal.steps-groups-requires
steps-groups-requires g t c κs within =
    let m = c.args.self.now.walk.manifest.now in
    let B = g.R.Recorded.answers c.args.self.now.before.now in
    let scopes = c.args.self.now.walk.globals.now in
    let was = c.in_ok-before.ensures ∙ groups_were (calls m B scopes c.args.left) c.args.place c.args.scope.now c.args.declared.now c.args.groups.now c.args.old.now c.requires.was in
    let low : c.args.j < length c.in_ok-before.before = omega (arith, call_low c.args.old.now.parts c.args.j c.requires.exists, ap length c.in_ok-before.ensures) in
    (omega arith, (within, (c.requires.resumes, (c.requires.named, (c.in_ok-take.ensures.few, (c.requires.shallow, (low, was)))))))

pub steps-returns : goal.steps-returns
steps-returns g t c =
    let m = c.args.self.now.walk.manifest.now in
    let A = g.R.Recorded.answers c.args.self.now.walk.recorded.now in
    let scopes = c.args.self.now.walk.globals.now in
    let called = calls m A scopes c.args.left in
    let whole = groups_from called c.args.place 0 c.args.scope.now c.args.groups.now in
    let said = subst (λ (r : Row). IsSaid r c.args.declared.now whole) (sym c.into_row.ensures) (c.in_ok-ready_for_outputs.ensures called c.args.place c.in_ok-front.ensures.0) in
    steps_done called c.args.place c.args.scope.now c.args.declared.now c.args.groups.now c.in_ok-front.front c.into_row.result c.in_ok-steps_over.field-0 c.args.room.now c.take.new.self c.groups.new.room c.in_ok-take.ensures.takes c.in_ok-front.ensures said c.in_ok-steps_over.ensures

pub groups-returns-in_err-shared_first : goal.groups-returns-in_err-shared_first
groups-returns-in_err-shared_first g t c =
    let m = c.args.self.now.walk.manifest.now in
    let A = g.R.Recorded.answers c.args.self.now.walk.recorded.now in
    let B = g.R.Recorded.answers c.args.self.now.before.now in
    let scopes = c.args.self.now.walk.globals.now in
    let called = calls m A scopes c.args.left in
    let whole = groups_from called c.args.place.now 0 c.args.scope.now c.args.groups.now in
    by_err (λ r. KeepsFront c.args.room.now c.shared_first.new.room r c.args.scope.now whole) c.from_residual.result c.in_err-shared_first.field-0.0 c.from_residual.ensures.1
    (front_fails m A B scopes c.args.left c.args.place.now c.args.scope.now c.args.groups.now c.args.j c.args.rest.now c.requires.resumes.same c.args.old.now c.requires.was c.requires.exists c.args.room.now c.shared_first.new.room c.in_err-shared_first.field-0.0 c.in_err-shared_first.ensures)

pub groups-loop-i-init : goal.groups-loop-i-init
groups-loop-i-init g t c =
    let m = c.args.self.now.walk.manifest.now in
    let A = g.R.Recorded.answers c.args.self.now.walk.recorded.now in
    let B = g.R.Recorded.answers c.args.self.now.before.now in
    let scopes = c.args.self.now.walk.globals.now in
    let called = calls m A scopes c.args.left in
    let made = first_groups called c.args.place.now c.args.scope.now c.args.groups.now c.args.j in
    let shared = c.in_ok-shared_first.ensures.0 ∙ front_shared m A B scopes c.args.left c.args.place.now c.args.scope.now c.args.groups.now c.args.j c.args.rest.now c.requires.resumes.same c.args.old.now c.requires.was c.requires.exists in
    record {
      front = c.in_ok-front.ensures made shared (λ none. front_alone m A B scopes c.args.left c.args.place.now c.args.scope.now c.args.groups.now c.args.j c.args.rest.now c.requires.resumes.same c.args.old.now c.requires.was c.requires.exists (sym shared ∙ none));
      went = front_went m A B scopes c.args.left c.args.place.now c.args.scope.now c.args.groups.now c.args.j c.args.rest.now c.requires.resumes.same c.args.old.now c.requires.was c.requires.exists;
      long = front_long m A B scopes c.args.left c.args.place.now c.args.scope.now c.args.groups.now c.args.j c.args.rest.now c.requires.resumes.same c.args.old.now c.requires.was c.requires.exists;
      room = omega (arith, ap count_row (front_shared m A B scopes c.args.left c.args.place.now c.args.scope.now c.args.groups.now c.args.j c.args.rest.now c.requires.resumes.same c.args.old.now c.requires.was c.requires.exists), c.in_ok-shared_first.ensures.1);
    }

pub groups-overflow_cast-i : goal.groups-overflow_cast-i
groups-overflow_cast-i g t c =
    let m = c.args.self.now.walk.manifest.now in
    let A = g.R.Recorded.answers c.args.self.now.walk.recorded.now in
    let scopes = c.args.self.now.walk.globals.now in
    let made = first_groups (calls m A scopes c.args.left) c.args.place.now c.args.scope.now c.args.groups.now c.loop-i.i in
    let small = few_in_row made.all c.loop-i.i c.loop-i.room c.args.room.now c.loop-i.invariant.long c.loop-i.invariant.room c.requires.few in
    omega (arith, small)

pub groups-group_at-requires : goal.groups-group_at-requires
groups-group_at-requires g t c κs within =
    let m = c.args.self.now.walk.manifest.now in
    let A = g.R.Recorded.answers c.args.self.now.walk.recorded.now in
    let B = g.R.Recorded.answers c.args.self.now.before.now in
    let scopes = c.args.self.now.walk.globals.now in
    let called = calls m A scopes c.args.left in
    let cs = c.get-calls.result.now in
    let at = c.get-calls.ensures in
    let ready = c.in_ok-ready_for_group.ensures called c.args.place.now c.loop-i.i c.loop-i.invariant.front in
    let named = all_at (λ (ds : List Call). All IsNamed ds) c.args.groups.now c.loop-i.i cs c.requires.named at in
    (omega arith, (within, (c.requires.resumes, (named, (c.requires.shallow, (c.loop-i.auto.i, (λ it. c.state-before.ensures ∙ group_stood m A B scopes c.args.left c.args.place.now c.args.scope.now c.args.groups.now c.args.j c.args.rest.now c.requires.resumes.same c.args.old.now c.requires.was c.requires.exists c.loop-i.i cs c.ready_for_group.new.self.row.scope c.get.result.now it at c.get.ensures ready.1)))))))

pub groups-returns-in_err-group : goal.groups-returns-in_err-group
groups-returns-in_err-group g t c =
    let m = c.args.self.now.walk.manifest.now in
    let A = g.R.Recorded.answers c.args.self.now.walk.recorded.now in
    let scopes = c.args.self.now.walk.globals.now in
    let called = calls m A scopes c.args.left in
    let cs = c.get-calls.result.now in
    let at = c.get-calls.ensures in
    let made = first_groups called c.args.place.now c.args.scope.now c.args.groups.now c.loop-i.i in
    let ready = c.in_ok-ready_for_group.ensures called c.args.place.now c.loop-i.i c.loop-i.invariant.front in
    let node = group_place c.args.place.now c.loop-i.i in
    let seen = members_seen m A scopes c.args.left c.args.place.now c.loop-i.i c.ready_for_group.new.self.row.scope made.scope cs ready.1 in
    let whole = groups_from called c.args.place.now 0 c.args.scope.now c.args.groups.now in
    by_err (λ r. KeepsFront c.args.room.now c.group_at.new.room r c.args.scope.now whole) c.from_residual-in_err-group.result c.in_err-group.field-0.0 c.from_residual-in_err-group.ensures.1
    (group_fails called c.args.place.now c.args.scope.now c.args.groups.now (alike m A scopes c.args.left) c.loop-i.i cs at c.loop-i.invariant.went c.args.room.now c.loop-i.room c.group_at.new.room c.in_err-group.field-0.0 c.loop-i.invariant.room
    (subst (λ (ms : List Member). KeepsGroup c.loop-i.room c.group_at.new.room (Err c.in_err-group.field-0.0) node ms) seen c.in_err-group.ensures))

pub groups-returns-then-not-goes_on : goal.groups-returns-then-not-goes_on
groups-returns-then-not-goes_on g t c =
    let m = c.args.self.now.walk.manifest.now in
    let A = g.R.Recorded.answers c.args.self.now.walk.recorded.now in
    let scopes = c.args.self.now.walk.globals.now in
    let called = calls m A scopes c.args.left in
    let cs = c.get-calls.result.now in
    let at = c.get-calls.ensures in
    let made = first_groups called c.args.place.now c.args.scope.now c.args.groups.now c.loop-i.i in
    let ready = c.in_ok-ready_for_group.ensures called c.args.place.now c.loop-i.i c.loop-i.invariant.front in
    let node = group_place c.args.place.now c.loop-i.i in
    let seen = members_seen m A scopes c.args.left c.args.place.now c.loop-i.i c.ready_for_group.new.self.row.scope made.scope cs ready.1 in
    let kept = subst (λ (ms : List Member). KeepsGroup c.loop-i.room c.group_at.new.room (Ok c.in_ok-group.group) node ms) seen c.in_ok-group.ensures in
    last_front called c.args.place.now c.args.scope.now c.args.groups.now (alike m A scopes c.args.left) c.loop-i.i cs at c.loop-i.invariant.went c.ready_for_group.new.self c.add.new.self c.in_ok-group.group c.in_ok-add.ensures ready.0 kept.0 c.has_succeeded-goes_on.result (sym c.has_succeeded-goes_on.ensures) c.if-not-goes_on.true c.args.room.now c.loop-i.room c.group_at.new.room c.loop-i.invariant.room kept.1

pub groups-loop-i-preserved : goal.groups-loop-i-preserved
groups-loop-i-preserved g t c =
    let m = c.args.self.now.walk.manifest.now in
    let A = g.R.Recorded.answers c.args.self.now.walk.recorded.now in
    let scopes = c.args.self.now.walk.globals.now in
    let called = calls m A scopes c.args.left in
    let cs = c.get-calls.result.now in
    let at = c.get-calls.ensures in
    let made = first_groups called c.args.place.now c.args.scope.now c.args.groups.now c.loop-i.i in
    let ready = c.in_ok-ready_for_group.ensures called c.args.place.now c.loop-i.i c.loop-i.invariant.front in
    let node = group_place c.args.place.now c.loop-i.i in
    let seen = members_seen m A scopes c.args.left c.args.place.now c.loop-i.i c.ready_for_group.new.self.row.scope made.scope cs ready.1 in
    let kept = subst (λ (ms : List Member). KeepsGroup c.loop-i.room c.group_at.new.room (Ok c.in_ok-group.group) node ms) seen c.in_ok-group.ensures in
    record {
      front = next_front called c.args.place.now c.args.scope.now c.args.groups.now (alike m A scopes c.args.left) c.loop-i.i cs at c.loop-i.invariant.went c.ready_for_group.new.self c.add.new.self c.in_ok-group.group c.in_ok-add.ensures ready.0 kept.0 c.has_succeeded-goes_on.result (sym c.has_succeeded-goes_on.ensures) c.if-not-goes_on.false;
      went = next_went called c.args.place.now c.args.scope.now c.args.groups.now (alike m A scopes c.args.left) c.loop-i.i cs at c.loop-i.invariant.went c.ready_for_group.new.self c.add.new.self c.in_ok-group.group c.in_ok-add.ensures ready.0 kept.0 c.has_succeeded-goes_on.result (sym c.has_succeeded-goes_on.ensures) c.if-not-goes_on.false;
      long = next_long called c.args.place.now c.args.scope.now c.args.groups.now (alike m A scopes c.args.left) c.loop-i.i cs at c.loop-i.invariant.went c.ready_for_group.new.self c.add.new.self c.in_ok-group.group c.in_ok-add.ensures ready.0 kept.0 c.has_succeeded-goes_on.result (sym c.has_succeeded-goes_on.ensures) c.loop-i.invariant.long;
      room = next_room called c.args.place.now c.args.scope.now c.args.groups.now (alike m A scopes c.args.left) c.loop-i.i cs at c.loop-i.invariant.went c.ready_for_group.new.self c.add.new.self c.in_ok-group.group c.in_ok-add.ensures ready.0 kept.0 c.has_succeeded-goes_on.result (sym c.has_succeeded-goes_on.ensures) c.args.room.now c.loop-i.room c.group_at.new.room c.loop-i.invariant.room kept.1;
    }

pub groups-returns : goal.groups-returns
groups-returns g t c =
    let m = c.args.self.now.walk.manifest.now in
    let A = g.R.Recorded.answers c.args.self.now.walk.recorded.now in
    let scopes = c.args.self.now.walk.globals.now in
    let called = calls m A scopes c.args.left in
    let past : length c.args.groups.now ≤ c.loop-i.i = omega arith in
    groups_end called c.args.place.now c.args.scope.now c.args.groups.now c.loop-i.i c.loop-i.front c.args.room.now c.loop-i.room past c.loop-i.invariant.front c.loop-i.invariant.room

pub group_at-returns-then-j-i : goal.group_at-returns-then-j-i
group_at-returns-then-j-i g t c =
    let m = c.args.self.now.walk.manifest.now in
    let A = g.R.Recorded.answers c.args.self.now.walk.recorded.now in
    let called = calls m A c.args.self.now.walk.globals.now c.args.left in
    let Kept = λ (p : Place). KeepsGroup c.args.room.now c.group.new.room c.group.result p (members called p c.args.scope.now c.args.calls.now) in
    subst Kept c.in_ok-at.ensures
    (group_keeps c.args.room.now c.group.new.room c.group.result c.in_ok-at.at (members called c.in_ok-at.at c.args.scope.now c.args.calls.now) c.group.ensures)

pub group_at-returns : goal.group_at-returns
group_at-returns g t c =
    let m = c.args.self.now.walk.manifest.now in
    let A = g.R.Recorded.answers c.args.self.now.walk.recorded.now in
    let called = calls m A c.args.self.now.walk.globals.now c.args.left in
    let Kept = λ (p : Place). KeepsGroup c.args.room.now c.group-2.new.room c.group-2.result p (members called p c.args.scope.now c.args.calls.now) in
    subst Kept c.in_ok-at.ensures c.group-2.ensures

pub group_at-group-requires-2 : goal.group_at-group-requires-2
group_at-group-requires-2 g t c κs within =
    let m = c.args.self.now.walk.manifest.now in
    let A = g.R.Recorded.answers c.args.self.now.walk.recorded.now in
    let B = g.R.Recorded.answers c.args.self.now.before.now in
    let other = calls m B c.args.self.now.walk.globals.now c.args.left in
    let at = c.in_ok-at.ensures in
    let it : c.args.j ≡ c.args.i = omega (arith, c.requires.turn, c.if-j-i.false) in
    let same = same_below A B c.args.place.now.sels c.in_ok-at.at.sels (Group c.args.i) (Group c.args.j ∷ c.args.rest.now) c.args.rest.now c.requires.resumes.same (ap (λ (n : ℕ). Group n ∷ c.args.rest.now) it) (ap (λ (p : Place). p.sels) at) in
    let was = c.requires.was (sym it) ∙ ap (λ (p : Place). group_made p (members other p c.args.scope.now c.args.calls.now)) (sym at) in
    let depth : c.in_ok-at.at.depth ≡ suc c.args.place.now.depth = ap (λ (p : Place). p.depth) at in
    (omega arith, (within, (record { ready = c.requires.resumes.ready; same = same }, (c.requires.named, (omega (arith, depth, c.requires.shallow), was)))))

pub group-returns-in_default : goal.group-returns-in_default
group-returns-in_default g t c =
    let m = c.args.self.now.walk.manifest.now in
    let A = g.R.Recorded.answers c.args.self.now.walk.recorded.now in
    let scopes = c.args.self.now.walk.globals.now in
    let ms = members (calls m A scopes c.args.left) c.args.place c.args.scope.now c.args.calls.now in
    group_keeps c.args.room.now c.group.new.room c.group.result c.args.place ms c.group.ensures

pub group-returns-in_err-take_others : goal.group-returns-in_err-take_others
group-returns-in_err-take_others g t c =
    let m = c.args.self.now.walk.manifest.now in
    let A = g.R.Recorded.answers c.args.self.now.walk.recorded.now in
    let B = g.R.Recorded.answers c.args.self.now.before.now in
    let scopes = c.args.self.now.walk.globals.now in
    let same = subst (λ (r : Sels). SameBut A B (c.args.place.sels ++ r)) c.in-Some.ensures.path c.requires.resumes.same in
    let ms = members (calls m A scopes c.args.left) c.args.place c.args.scope.now c.args.calls.now in
    by_err (λ r. KeepsGroup c.args.room.now c.take_others.new.room r c.args.place ms) c.from_residual.result c.in_err-take_others.field-0.0 c.from_residual.ensures.1
    (members_fail m A B scopes c.args.left c.args.place c.args.scope.now c.args.calls.now c.in-Some.j c.in-Some.others.now same c.args.old.now c.in-Some.before.now c.in-Some.ensures.member c.requires.was c.args.room.now c.take_others.new.room c.in_err-take_others.field-0.0 c.in_err-take_others.ensures)

pub group-get-call-requires : goal.group-get-call-requires
group-get-call-requires g t c =
    let m = c.args.self.now.walk.manifest.now in
    let A = g.R.Recorded.answers c.args.self.now.walk.recorded.now in
    let B = g.R.Recorded.answers c.args.self.now.before.now in
    let scopes = c.args.self.now.walk.globals.now in
    let same = subst (λ (r : Sels). SameBut A B (c.args.place.sels ++ r)) c.in-Some.ensures.path c.requires.resumes.same in
    member_low m A B scopes c.args.left c.args.place c.args.scope.now c.args.calls.now c.in-Some.j c.in-Some.others.now same c.args.old.now c.in-Some.before.now c.in-Some.ensures.member c.requires.was

pub group-member-requires : goal.group-member-requires
group-member-requires g t c κs within =
    let m = c.args.self.now.walk.manifest.now in
    let A = g.R.Recorded.answers c.args.self.now.walk.recorded.now in
    let B = g.R.Recorded.answers c.args.self.now.before.now in
    let scopes = c.args.self.now.walk.globals.now in
    let same = subst (λ (r : Sels). SameBut A B (c.args.place.sels ++ r)) c.in-Some.ensures.path c.requires.resumes.same in
    let was = member_had m A B scopes c.args.left c.args.place c.args.scope.now c.args.calls.now c.in-Some.j c.in-Some.others.now same c.args.old.now c.in-Some.before.now c.in-Some.ensures.member c.requires.was c.get-call.result.now c.get-call.ensures in
    let named = all_at IsNamed c.args.calls.now c.in-Some.j c.get-call.result.now c.requires.named c.get-call.ensures in
    (omega arith, (within, (record { ready = c.requires.resumes.ready; same = same }, (named, (omega (arith, c.requires.shallow), was)))))

pub group-returns-in_err-new : goal.group-returns-in_err-new
group-returns-in_err-new g t c =
    let m = c.args.self.now.walk.manifest.now in
    let A = g.R.Recorded.answers c.args.self.now.walk.recorded.now in
    let B = g.R.Recorded.answers c.args.self.now.before.now in
    let scopes = c.args.self.now.walk.globals.now in
    let same = subst (λ (r : Sels). SameBut A B (c.args.place.sels ++ r)) c.in-Some.ensures.path c.requires.resumes.same in
    let ms = members (calls m A scopes c.args.left) c.args.place c.args.scope.now c.args.calls.now in
    by_err (λ r. KeepsGroup c.args.room.now c.member.new.room r c.args.place ms) c.from_residual-in_err-new.result c.in_err-new.field-0.0 c.from_residual-in_err-new.ensures.1
    (member_fails m A B scopes c.args.left c.args.place c.args.scope.now c.args.calls.now c.in-Some.j c.in-Some.others.now same c.args.old.now c.in-Some.before.now c.in-Some.ensures.member c.requires.was c.get-call.result.now c.get-call.ensures c.args.room.now c.take_others.new.room c.member.new.room c.in_err-new.field-0.0 c.in_ok-take_others.ensures c.in_err-new.ensures)

pub group-returns-then-runs_on : goal.group-returns-then-runs_on
group-returns-then-runs_on g t c =
    let m = c.args.self.now.walk.manifest.now in
    let A = g.R.Recorded.answers c.args.self.now.walk.recorded.now in
    let B = g.R.Recorded.answers c.args.self.now.before.now in
    let scopes = c.args.self.now.walk.globals.now in
    let same = subst (λ (r : Sels). SameBut A B (c.args.place.sels ++ r)) c.in-Some.ensures.path c.requires.resumes.same in
    member_put m A B scopes c.args.left c.args.place c.args.scope.now c.args.calls.now c.in-Some.j c.in-Some.others.now same c.args.old.now c.in-Some.before.now c.in-Some.ensures.member c.requires.was c.get-call.result.now c.get-call.ensures c.in_ok-state.state c.in_ok-new.new c.in_ok-state.ensures c.args.room.now c.take_others.new.room c.member.new.room c.in_ok-take_others.ensures c.in_ok-new.ensures c.in_ok-untagged.field-0 c.in_ok-untagged.ensures (c.runs_on.ensures.old c.if-runs_on.true) (c.runs_on.ensures.new c.if-runs_on.true)

pub group-returns : goal.group-returns
group-returns g t c =
    let m = c.args.self.now.walk.manifest.now in
    let A = g.R.Recorded.answers c.args.self.now.walk.recorded.now in
    let B = g.R.Recorded.answers c.args.self.now.before.now in
    let scopes = c.args.self.now.walk.globals.now in
    let same = subst (λ (r : Sels). SameBut A B (c.args.place.sels ++ r)) c.in-Some.ensures.path c.requires.resumes.same in
    members_listed m A B scopes c.args.left c.args.place c.args.scope.now c.args.calls.now c.in-Some.j c.in-Some.others.now same c.args.old.now c.in-Some.before.now c.in-Some.ensures.member c.requires.was c.get-call.result.now c.get-call.ensures c.in_ok-state.state c.in_ok-new.new c.in_ok-state.ensures c.args.room.now c.take_others.new.room c.member.new.room c.in_ok-take_others.ensures c.in_ok-new.ensures c.in_ok-states.states c.in_ok-group_over.field-0 c.in_ok-states.ensures c.in_ok-group_over.ensures

pub member-call-requires : goal.member-call-requires
member-call-requires g t c κs within =
    let m = c.args.self.now.walk.manifest.now in
    let A = g.R.Recorded.answers c.args.self.now.walk.recorded.now in
    let B = g.R.Recorded.answers c.args.self.now.before.now in
    let scopes = c.args.self.now.walk.globals.now in
    let here = c.in_ok-at.ensures in
    let same = same_below A B c.args.group.now.sels c.in_ok-at.at.sels (Step c.args.j) (Step c.args.j ∷ c.args.rest.now) c.args.rest.now c.requires.resumes.same refl (ap (λ (p : Place). p.sels) here) in
    let was = c.requires.was ∙ ap (λ (p : Place). calls m B scopes c.args.left (codes "steps.") p c.args.scope.now c.args.call.now) (sym here) in
    let depth : c.in_ok-at.at.depth ≡ suc c.args.group.now.depth = ap (λ (p : Place). p.depth) here in
    (omega arith, (within, (record { ready = c.requires.resumes.ready; same = same }, (omega (arith, depth, c.requires.shallow), was))))

pub member-returns : goal.member-returns
member-returns g t c =
    let m = c.args.self.now.walk.manifest.now in
    let A = g.R.Recorded.answers c.args.self.now.walk.recorded.now in
    let scopes = c.args.self.now.walk.globals.now in
    let made = λ (p : Place). calls m A scopes c.args.left (codes "steps.") p c.args.scope.now c.args.call.now in
    gives_as c.args.room.now c.call.new.room c.call.result (made c.in_ok-at.at) (made (member_place c.args.group.now c.args.j c.args.call.now)) (ap made c.in_ok-at.ensures) c.call.ensures

-- ---- DAGs

pub other-dag-requires : goal.other-dag-requires
other-dag-requires g t c κs within =
    let m = c.args.self.now.walk.manifest.now in
    let A = g.R.Recorded.answers c.args.self.now.walk.recorded.now in
    let B = g.R.Recorded.answers c.args.self.now.before.now in
    let scopes = c.args.self.now.walk.globals.now in
    let u = c.args.named.template.now in
    let same = subst (λ (r : Sels). SameBut A B (c.args.place.sels ++ r)) c.in-Some.ensures.path c.requires.resumes.same in
    let was = dag_were m A B (c.args.place.sels ++ c.args.rest.now) c.requires.resumes.same scopes c.args.left c.args.place c.args.scope.now u c.in-Some.dag.now c.args.old.now c.requires.was c.requires.runs c.in-Some.ensures.dag in
    (omega arith, (within, (record { ready = c.requires.resumes.ready; same = same }, (walkable_dag u c.in-Some.dag.now c.requires.walkable.walkable c.in-Some.ensures.dag, (c.in-Some.ensures.plan, (c.requires.shallow, was))))))

pub other-missed_dag-requires : goal.other-missed_dag-requires
other-missed_dag-requires g t c κs within =
    let m = c.args.self.now.walk.manifest.now in
    let A = g.R.Recorded.answers c.args.self.now.walk.recorded.now in
    let B = g.R.Recorded.answers c.args.self.now.before.now in
    let scopes = c.args.self.now.walk.globals.now in
    let u = c.args.named.template.now in
    let same = subst (λ (r : Sels). SameBut A B (c.args.place.sels ++ r)) c.in-Some.ensures.path c.requires.resumes.same in
    let was = dag_were m A B (c.args.place.sels ++ c.args.rest.now) c.requires.resumes.same scopes c.args.left c.args.place c.args.scope.now u c.in-Some.dag.now c.args.old.now c.requires.was c.requires.runs c.in-Some.ensures.dag in
    (omega arith, (within, (record { ready = c.requires.resumes.ready; same = same }, (walkable_dag u c.in-Some.dag.now c.requires.walkable.walkable c.in-Some.ensures.dag, (c.in-Some.ensures.plan, (c.requires.shallow, was))))))

pub other-returns-in_default-memoize : goal.other-returns-in_default-memoize
other-returns-in_default-memoize g t c =
    let m = c.args.self.now.walk.manifest.now in
    let A = g.R.Recorded.answers c.args.self.now.walk.recorded.now in
    let B = g.R.Recorded.answers c.args.self.now.before.now in
    let scopes = c.args.self.now.walk.globals.now in
    let called = calls m A scopes c.args.left in
    let u = c.args.named.template.now in
    let changed = c.args.place.sels ++ c.args.rest.now in
    let apart = apart_on_way A B changed c.requires.resumes.same c.args.place.sels c.in-Some.others.now (task_sel c.in-Some.j) (ap (λ (r : Sels). c.args.place.sels ++ r) c.in-Some.ensures.path) in
    let made = dag_template_again m A B changed c.requires.resumes.same scopes c.args.left c.args.place c.args.scope.now u c.in-Some.dag.now c.args.old.now c.requires.was c.requires.runs c.in-Some.ensures.dag c.in_default-memoize.is apart in
    gives_as c.args.room.now c.dag.new.room c.dag.result (dag_made A called c.args.place c.args.scope.now u.outputs c.in-Some.dag.now) (template_made A called c.args.place c.args.scope.now u) (sym made) c.dag.ensures

pub other-returns-in-Ok : goal.other-returns-in-Ok
other-returns-in-Ok g t c =
    let m = c.args.self.now.walk.manifest.now in
    let A = g.R.Recorded.answers c.args.self.now.walk.recorded.now in
    let B = g.R.Recorded.answers c.args.self.now.before.now in
    let scopes = c.args.self.now.walk.globals.now in
    let called = calls m A scopes c.args.left in
    let u = c.args.named.template.now in
    let changed = c.args.place.sels ++ c.args.rest.now in
    let apart = apart_on_way A B changed c.requires.resumes.same c.args.place.sels c.in-Some.others.now (task_sel c.in-Some.j) (ap (λ (r : Sels). c.args.place.sels ++ r) c.in-Some.ensures.path) in
    let made = dag_template_saved m A B changed c.requires.resumes.same scopes c.args.left c.args.place c.args.scope.now u c.in-Some.dag.now c.in-Some-memoize.memoize c.in-Ok.key c.args.old.now c.requires.was c.requires.runs c.in-Some.ensures.dag c.in-Some-memoize.is c.in-Ok.ensures apart in
    gives_as c.args.room.now c.missed_dag.new.room c.missed_dag.result (saving c.args.place c.in-Some-memoize.memoize c.in-Ok.key (dag_made A called c.args.place c.args.scope.now u.outputs c.in-Some.dag.now)) (template_made A called c.args.place c.args.scope.now u) (sym made) c.missed_dag.ensures

pub missed_dag-returns-in_err-state : goal.missed_dag-returns-in_err-state
missed_dag-returns-in_err-state g t c =
    let m = c.args.self.now.walk.manifest.now in
    let A = g.R.Recorded.answers c.args.self.now.walk.recorded.now in
    let scopes = c.args.self.now.walk.globals.now in
    let b = dag_made A (calls m A scopes c.args.left) c.args.place c.args.scope.now c.args.declared.now c.args.dag.now in
    let whole = saving c.args.place c.args.memoize.now c.args.key b in
    by_err (λ r. Gives c.args.room.now c.dag.new.room r whole) c.from_residual-in_err-state.result c.in_err-state.field-0.0 c.from_residual-in_err-state.ensures.1
    (part_fails c.args.room.now c.dag.new.room b whole c.in_err-state.field-0.0 (omega (arith, count_saving c.args.place c.args.memoize.now c.args.key b)) c.in_err-state.ensures)

pub missed_dag-returns : goal.missed_dag-returns
missed_dag-returns g t c =
    let m = c.args.self.now.walk.manifest.now in
    let A = g.R.Recorded.answers c.args.self.now.walk.recorded.now in
    let scopes = c.args.self.now.walk.globals.now in
    let b = dag_made A (calls m A scopes c.args.left) c.args.place c.args.scope.now c.args.declared.now c.args.dag.now in
    let given = c.in_ok-state.ensures in (
      c.in_ok-saving.ensures c.args.place (sym c.in_ok-at.ensures) ∙ ap (λ (x : Made). saving c.args.place c.args.memoize.now c.args.key x) given.0,
      omega (arith, count_saving c.args.place c.args.memoize.now c.args.key b, given.1),
    )

pub dag-other_dag-requires : goal.dag-other_dag-requires
dag-other_dag-requires g t c κs within = (omega arith, (within, (c.requires.resumes, (c.requires.walkable, (c.requires.plan, (c.requires.shallow, c.requires.was))))))

pub dag-returns-in_err-take_all : goal.dag-returns-in_err-take_all
dag-returns-in_err-take_all g t c =
    let m = c.args.self.now.walk.manifest.now in
    let A = g.R.Recorded.answers c.args.self.now.walk.recorded.now in
    let scopes = c.args.self.now.walk.globals.now in
    let whole = dag_made A (calls m A scopes c.args.left) c.args.place c.args.scope.now c.args.declared.now c.args.dag.now in
    let made : c.in-Some.state ≡ whole = given_some c.in_ok-state.field-0 c.in-Some.state (λ y. y ≡ whole) c.in-Some.is (c.in_ok-state.ensures c.args.declared.now c.requires.was) in
    by_err (λ r. Gives c.args.room.now c.take_all.new.self r whole) c.from_residual-in_err-take_all.result c.in_err-take_all.field-0.0 c.from_residual-in_err-take_all.ensures.1
    (too_little whole c.count.result c.args.room.now c.take_all.new.self c.in_err-take_all.field-0.0 (c.count.ensures.all ∙ ap count made) c.in_err-take_all.ensures.takes)

pub dag-returns-in-Some : goal.dag-returns-in-Some
dag-returns-in-Some g t c =
    let m = c.args.self.now.walk.manifest.now in
    let A = g.R.Recorded.answers c.args.self.now.walk.recorded.now in
    let scopes = c.args.self.now.walk.globals.now in
    let whole = dag_made A (calls m A scopes c.args.left) c.args.place c.args.scope.now c.args.declared.now c.args.dag.now in
    let made : c.in-Some.state ≡ whole = given_some c.in_ok-state.field-0 c.in-Some.state (λ y. y ≡ whole) c.in-Some.is (c.in_ok-state.ensures c.args.declared.now c.requires.was) in
    (made, omega (arith, c.in_ok-take_all.ensures.takes, c.count.ensures.all, ap count made))

pub dag-returns-in_err-take_all-2 : goal.dag-returns-in_err-take_all-2
dag-returns-in_err-take_all-2 g t c =
    let m = c.args.self.now.walk.manifest.now in
    let A = g.R.Recorded.answers c.args.self.now.walk.recorded.now in
    let scopes = c.args.self.now.walk.globals.now in
    let whole = dag_made A (calls m A scopes c.args.left) c.args.place c.args.scope.now c.args.declared.now c.args.dag.now in
    let made : c.in-Some-2.state ≡ whole = given_some c.in_ok-state-2.field-0 c.in-Some-2.state (λ y. y ≡ whole) c.in-Some-2.is (c.in_ok-state-2.ensures c.args.declared.now c.requires.was) in
    by_err (λ r. Gives c.args.room.now c.take_all-in-Some-2.new.self r whole) c.from_residual-in_err-take_all-2.result c.in_err-take_all-2.field-0.0 c.from_residual-in_err-take_all-2.ensures.1
    (too_little whole c.count-in-Some-2.result c.args.room.now c.take_all-in-Some-2.new.self c.in_err-take_all-2.field-0.0 (c.count-in-Some-2.ensures.all ∙ ap count made) c.in_err-take_all-2.ensures.takes)

pub dag-returns-in-Some-2 : goal.dag-returns-in-Some-2
dag-returns-in-Some-2 g t c =
    let m = c.args.self.now.walk.manifest.now in
    let A = g.R.Recorded.answers c.args.self.now.walk.recorded.now in
    let scopes = c.args.self.now.walk.globals.now in
    let whole = dag_made A (calls m A scopes c.args.left) c.args.place c.args.scope.now c.args.declared.now c.args.dag.now in
    let made : c.in-Some-2.state ≡ whole = given_some c.in_ok-state-2.field-0 c.in-Some-2.state (λ y. y ≡ whole) c.in-Some-2.is (c.in_ok-state-2.ensures c.args.declared.now c.requires.was) in
    (made, omega (arith, c.in_ok-take_all-2.ensures.takes, c.count-in-Some-2.ensures.all, ap count made))

pub other_dag-tasks-requires : goal.other_dag-tasks-requires
other_dag-tasks-requires g t c κs within =
    let m = c.args.self.now.walk.manifest.now in
    let B = g.R.Recorded.answers c.args.self.now.before.now in
    let scopes = c.args.self.now.walk.globals.now in
    let were = c.in_ok-were.ensures m B scopes c.args.left c.args.place c.args.scope.now c.args.declared.now (c.in_ok-before.ensures ∙ ap (λ (b : Made). row_in b.parts) c.requires.was) c.len.ensures in
    (omega arith, (within, (c.requires.resumes, (c.requires.walkable, (c.requires.plan, (c.requires.shallow, were))))))

pub other_dag-returns-in_err-board : goal.other_dag-returns-in_err-board
other_dag-returns-in_err-board g t c =
    let m = c.args.self.now.walk.manifest.now in
    let A = g.R.Recorded.answers c.args.self.now.walk.recorded.now in
    let scopes = c.args.self.now.walk.globals.now in
    let called = calls m A scopes c.args.left in
    let whole = dag_made A called c.args.place c.args.scope.now c.args.declared.now c.args.dag.now in
    by_err (λ r. Gives c.args.room.now c.tasks.new.room r whole) c.from_residual-in_err-board.result c.in_err-board.field-0.0 c.from_residual-in_err-board.ensures.1
    (dag_fails A called c.args.place c.args.scope.now c.args.dag.now c.args.declared.now c.args.plan.now c.args.room.now c.take.new.self c.tasks.new.room c.in_err-board.field-0.0 c.requires.plan c.in_ok-take.ensures.takes c.in_err-board.ensures)

pub other_dag-made-requires-clause-named : goal.other_dag-made-requires-clause-named
other_dag-made-requires-clause-named g t c = named_at c.args.dag.now.tasks c.requires.walkable.named

pub other_dag-returns : goal.other_dag-returns
other_dag-returns g t c =
    let m = c.args.self.now.walk.manifest.now in
    let A = g.R.Recorded.answers c.args.self.now.walk.recorded.now in
    let scopes = c.args.self.now.walk.globals.now in
    let called = calls m A scopes c.args.left in
    dag_done A called c.args.place c.args.scope.now c.args.dag.now c.args.declared.now c.args.plan.now c.in_ok-board.board c.args.room.now c.take.new.self c.tasks.new.room c.in_ok-made.field-0 c.requires.plan c.in_ok-take.ensures.takes c.in_ok-board.ensures c.in_ok-made.ensures

pub task-returns-in_err-take-in-Denied : goal.task-returns-in_err-take-in-Denied
task-returns-in_err-take-in-Denied g t c =
    next_has_no_room g.R.Recorded.answers c.args.self.now c.args.left c.args.place.now c.args.scope.now c.args.dag.now c.args.plan.now c.args.k c.get-i.result.now c.get-task.result.now c.requires.low c.get-i.ensures c.get-task.ensures
    c.args.board.now c.args.room.now c.take.new.self c.in_ok-verdict.field-0 c.in-Denied.branch c.from_residual-in_err-take-in-Denied.result c.in_err-take-in-Denied.field-0.0 c.from_residual-in_err-take-in-Denied.ensures.1
    c.requires.board c.in-Denied.is c.in_ok-verdict.ensures c.in_err-take-in-Denied.ensures.takes

pub task-omit-requires-clause-place : goal.task-omit-requires-clause-place
task-omit-requires-clause-place g t c = is_low c.args.dag.now.tasks c.get-i.result.now c.get-task.result.now c.get-task.ensures

pub task-omit-requires-clause-named : goal.task-omit-requires-clause-named
task-omit-requires-clause-named g t c = named_at c.args.dag.now.tasks c.requires.walkable.named c.get-i.result.now

pub task-freed-requires : goal.task-freed-requires
task-freed-requires g t c κs within =
    let turn = next_turn g.R.Recorded.answers c.args.self.now c.args.left c.args.place.now c.args.scope.now c.args.dag.now c.args.plan.now c.args.k c.get-i.result.now c.get-task.result.now c.requires.low c.get-i.ensures c.get-task.ensures in
    let free = next_free g.R.Recorded.answers c.args.self.now c.args.left c.args.place.now c.args.scope.now c.args.dag.now c.args.plan.now c.args.k c.get-i.result.now c.get-task.result.now c.requires.low c.get-i.ensures c.get-task.ensures c.args.board.now c.in_ok-verdict.field-0 c.requires.board c.in-Holds.is c.in_ok-verdict.ensures in
    let place = is_low c.args.dag.now.tasks c.get-i.result.now c.get-task.result.now c.get-task.ensures in
    (omega arith, (within, (c.requires.resumes, (c.requires.walkable, (c.requires.plan, (turn, (c.requires.board, (free, (place, (omega (arith, c.requires.shallow), c.requires.were))))))))))

pub task-returns-in-Waits : goal.task-returns-in-Waits
task-returns-in-Waits g t c =
    next_waits g.R.Recorded.answers c.args.self.now c.args.left c.args.place.now c.args.scope.now c.args.dag.now c.args.plan.now c.args.k c.get-i.result.now c.get-task.result.now c.requires.low c.get-i.ensures c.get-task.ensures
    c.args.board.now c.args.room.now c.in_ok-verdict.field-0 c.requires.plan c.requires.board c.in-Waits.is c.in_ok-verdict.ensures

pub task-returns-in_ok-omit-in-Denied : goal.task-returns-in_ok-omit-in-Denied
task-returns-in_ok-omit-in-Denied g t c =
    next_omitted g.R.Recorded.answers c.args.self.now c.args.left c.args.place.now c.args.scope.now c.args.dag.now c.args.plan.now c.args.k c.get-i.result.now c.get-task.result.now c.requires.low c.get-i.ensures c.get-task.ensures
    c.args.board.now c.omit.new.self c.args.room.now c.take.new.self c.in_ok-verdict.field-0 c.in-Denied.branch c.requires.board c.in-Denied.is c.in_ok-verdict.ensures c.in_ok-take-in-Denied.ensures.takes c.in_ok-omit-in-Denied.ensures

pub task-returns-in-Holds : goal.task-returns-in-Holds
task-returns-in-Holds g t c =
    next_given g.R.Recorded.answers c.args.self.now c.args.left c.args.place.now c.args.scope.now c.args.dag.now c.args.plan.now c.args.k c.get-i.result.now c.get-task.result.now c.requires.low c.get-i.ensures c.get-task.ensures
    c.freed.new.board c.args.room.now c.freed.new.room c.freed.result c.freed.ensures

pub tasks-loop-k-init : goal.tasks-loop-k-init
tasks-loop-k-init g t c =
    let m = c.args.self.now.walk.manifest.now in
    let A = g.R.Recorded.answers c.args.self.now.walk.recorded.now in
    let scopes = c.args.self.now.walk.globals.now in
    let called = calls m A scopes c.args.left in
    record { shown = c.in_ok-board.ensures A called c.args.place.now c.args.scope.now; room = omega arith }

pub tasks-returns-in_err-task : goal.tasks-returns-in_err-task
tasks-returns-in_err-task g t c =
    let m = c.args.self.now.walk.manifest.now in
    let A = g.R.Recorded.answers c.args.self.now.walk.recorded.now in
    let scopes = c.args.self.now.walk.globals.now in
    let called = calls m A scopes c.args.left in
    let low : c.loop-k.k < length c.args.plan.now.order = search rules in
    by_err (λ r. GivesBoard A called c.args.place.now c.args.scope.now c.args.dag.now c.args.plan.now.order c.args.room.now c.task.new.room r) c.from_residual-in_err-task.result c.in_err-task.field-0.0 c.from_residual-in_err-task.ensures.1
    (tasks_fail A called c.args.place.now c.args.scope.now c.args.dag.now c.args.plan.now c.loop-k.k c.loop-k.room c.args.room.now c.task.new.room (IsBoard A called c.args.place.now c.args.scope.now c.args.dag.now (take (suc c.loop-k.k) c.args.plan.now.order) c.task.new.board) c.in_err-task.field-0.0 low c.loop-k.invariant.room c.in_err-task.ensures)

pub tasks-loop-k-preserved : goal.tasks-loop-k-preserved
tasks-loop-k-preserved g t c =
    let m = c.args.self.now.walk.manifest.now in
    let A = g.R.Recorded.answers c.args.self.now.walk.recorded.now in
    let scopes = c.args.self.now.walk.globals.now in
    let called = calls m A scopes c.args.left in
    let low : c.loop-k.k < length c.args.plan.now.order = search rules in
    let n = stood_count (stands_at A called c.args.place.now c.args.scope.now c.args.dag.now (get_or c.args.plan.now.order c.loop-k.k 0)) in
    let step : suc c.loop-k.k ≡ c.loop-k.k + 1 = omega arith in
    record {
      shown = subst (λ k. IsBoard A called c.args.place.now c.args.scope.now c.args.dag.now (take k c.args.plan.now.order) c.task.new.board) step c.in_ok-task.ensures.0;
      room = subst (λ k. c.task.new.room + count_at (standings A called c.args.place.now c.args.scope.now c.args.dag.now) (take k c.args.plan.now.order) ≡ c.args.room.now) step (tasks_next A called c.args.place.now c.args.scope.now c.args.dag.now c.args.plan.now c.loop-k.k c.loop-k.room c.args.room.now c.task.new.room n low c.loop-k.invariant.room refl c.in_ok-task.ensures.1);
    }

pub freed-returns-in-Some : goal.freed-returns-in-Some
freed-returns-in-Some g t c =
    stayed_shared g.R.Recorded.answers c.args.self.now c.args.left c.args.place.now c.args.scope.now c.args.dag.now c.args.plan.now c.args.k c.args.i c.args.task.now c.requires.turn c.requires.plan c.args.j c.args.were.now c.requires.were c.args.rest.now c.requires.resumes
    c.requires.free c.in-Some.old.now c.in-Some.ensures c.args.board.now c.begin.new.self c.in_ok-same.same c.args.room.now c.shared.new.room c.requires.board c.in_ok-same.ensures c.in_ok-begin.ensures

pub freed-returns-in_err-same : goal.freed-returns-in_err-same
freed-returns-in_err-same g t c =
    stayed_fails g.R.Recorded.answers c.args.self.now c.args.left c.args.place.now c.args.scope.now c.args.dag.now c.args.plan.now c.args.k c.args.i c.args.task.now c.requires.turn c.requires.plan c.args.j c.args.were.now c.requires.were c.args.rest.now c.requires.resumes
    c.requires.free c.in-Some.old.now c.in-Some.ensures c.args.board.now c.args.room.now c.shared.new.room c.from_residual.result c.in_err-same.field-0.0 c.from_residual.ensures.1 c.in_err-same.ensures

pub freed-begun-requires : goal.freed-begun-requires
freed-begun-requires g t c κs within =
    let begun = free_begins g.R.Recorded.answers c.args.self.now c.args.left c.args.place.now c.args.scope.now c.args.dag.now c.args.plan.now c.args.k c.args.i c.args.task.now c.requires.turn c.requires.free c.in_ok-at.at c.in_ok-at.ensures c.begins.result c.begins.ensures c.if-not-begins.false in
    (omega arith, (within, (c.requires.resumes, (c.requires.plan, (c.requires.turn, (c.requires.board, (begun, (c.requires.place, (c.in_ok-at.ensures, (c.requires.shallow, c.requires.were))))))))))

pub freed-returns-then-not-begins : goal.freed-returns-then-not-begins
freed-returns-then-not-begins g t c =
    free_waits g.R.Recorded.answers c.args.self.now c.args.left c.args.place.now c.args.scope.now c.args.dag.now c.args.plan.now c.args.k c.args.i c.args.task.now c.requires.turn c.requires.free c.in_ok-at.at c.in_ok-at.ensures c.begins.result c.begins.ensures
    c.args.board.now c.set_ready.new.self c.args.room.now c.if-not-begins.true c.requires.board c.set_ready.ensures

pub freed-returns-in_err-made : goal.freed-returns-in_err-made
freed-returns-in_err-made g t c =
    free_fails g.R.Recorded.answers c.args.self.now c.args.left c.args.place.now c.args.scope.now c.args.dag.now c.args.plan.now c.args.k c.args.i c.args.task.now c.requires.turn c.requires.free c.in_ok-at.at c.in_ok-at.ensures c.begins.result c.begins.ensures c.if-not-begins.false
    c.args.board.now c.args.room.now c.begun.new.room c.from_residual-in_err-made.result c.in_err-made.field-0.0 c.from_residual-in_err-made.ensures.1 c.in_err-made.ensures

pub freed-returns : goal.freed-returns
freed-returns g t c =
    free_begun g.R.Recorded.answers c.args.self.now c.args.left c.args.place.now c.args.scope.now c.args.dag.now c.args.plan.now c.args.k c.args.i c.args.task.now c.requires.turn c.requires.free c.in_ok-at.at c.in_ok-at.ensures c.begins.result c.begins.ensures c.if-not-begins.false
    c.args.board.now c.begin-2.new.self c.in_ok-made.made c.args.room.now c.begun.new.room c.requires.board c.in_ok-made.ensures c.in_ok-begin-2.ensures

pub begun-inside-requires : goal.begun-inside-requires
begun-inside-requires g t c κs within =
    let m = c.args.self.now.walk.manifest.now in
    let A = g.R.Recorded.answers c.args.self.now.walk.recorded.now in
    let called = calls m A c.args.self.now.walk.globals.now c.args.left in
    let values = c.in_ok-inner.ensures A called c.args.place.now c.args.scope.now c.args.k c.args.task.now c.requires.board c.requires.turn in
    (omega arith, (within, (c.requires.resumes, (c.requires.plan, (c.requires.turn.task, (c.requires.place, (c.requires.at, (values, (c.requires.shallow, c.requires.were)))))))))

pub begun-returns-in_err-state : goal.begun-returns-in_err-state
begun-returns-in_err-state g t c =
    let A = g.R.Recorded.answers c.args.self.now.walk.recorded.now in
    let called = calls_now g.R.Recorded.answers c.args.self.now c.args.left in
    let values = c.in_ok-inner.ensures A called c.args.place.now c.args.scope.now c.args.k c.args.task.now c.requires.board c.requires.turn in
    inner_fails g.R.Recorded.answers c.args.self.now c.args.left c.args.place.now c.args.scope.now c.args.dag.now c.args.plan.now c.args.k c.args.i c.args.task.now c.requires.turn c.requires.plan c.args.j c.args.were.now c.requires.were c.args.rest.now c.requires.resumes
    c.args.at c.requires.at c.in_ok-inner.inner values c.args.room.now c.inside.new.room c.from_residual-in_err-state.result c.in_err-state.field-0.0 c.from_residual-in_err-state.ensures.1 c.in_err-state.ensures

pub begun-returns : goal.begun-returns
begun-returns g t c =
    let A = g.R.Recorded.answers c.args.self.now.walk.recorded.now in
    let called = calls_now g.R.Recorded.answers c.args.self.now c.args.left in
    let values = c.in_ok-inner.ensures A called c.args.place.now c.args.scope.now c.args.k c.args.task.now c.requires.board c.requires.turn in
    inner_gives g.R.Recorded.answers c.args.self.now c.args.left c.args.place.now c.args.scope.now c.args.dag.now c.args.plan.now c.args.k c.args.i c.args.task.now c.requires.turn c.requires.plan c.args.j c.args.were.now c.requires.were c.args.rest.now c.requires.resumes
    c.args.at c.requires.at c.in_ok-inner.inner values c.in_ok-state.state c.in_ok-new.field-0 c.args.room.now c.inside.new.room c.in_ok-new.ensures c.in_ok-state.ensures

pub inside-call-requires-2 : goal.inside-call-requires-2
inside-call-requires-2 g t c κs within =
    let m = c.args.self.now.walk.manifest.now in
    let A = g.R.Recorded.answers c.args.self.now.walk.recorded.now in
    let B = g.R.Recorded.answers c.args.self.now.before.now in
    let scopes = c.args.self.now.walk.globals.now in
    let same = same_inside m A B scopes c.args.left c.args.place.now c.args.scope.now c.args.dag.now c.args.plan.now c.requires.plan c.args.j c.args.were.now c.requires.were c.args.rest.now c.requires.resumes.same c.args.i c.args.task.now c.requires.task c.args.at c.requires.at c.args.inner.now c.requires.values c.in-Some.old.now c.in-Some.ensures in
    let was = c.state-before.ensures ∙ was_inside m A B scopes c.args.left c.args.place.now c.args.scope.now c.args.dag.now c.args.plan.now c.requires.plan c.args.j c.args.were.now c.requires.were c.args.rest.now c.requires.resumes.same c.args.i c.args.task.now c.requires.task c.args.at c.requires.at c.args.inner.now c.requires.values c.in-Some.old.now c.in-Some.ensures in
    let depth : c.args.at.depth ≡ suc c.args.place.now.depth = ap (λ (p : Place). p.depth) c.requires.at in
    (omega arith, (within, (record { ready = c.requires.resumes.ready; same = same }, (omega (arith, depth, c.requires.shallow), was))))
