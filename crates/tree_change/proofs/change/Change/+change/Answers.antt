-- The way up: what changes below changes each node above.
use Rattle.std.proofs.Common.{◌≡◌, ℕ, List, ◌++◌, false, Some, codes, refl, sym, ap, ◌∙◌, subst, arith}
use Rattle.std.specs.Prelude.{is_some, ◌&&◌, slice_get}
use Rattle.tree_types.specs.declared.path.Sel.TheVariants.{Group, Step, Item, Task as task_sel}
use Rattle.tree_types.specs.declared.phase.Phase.{Phase}
use Rattle.wf_manifest.specs.declared.calls.Call.{Call}
use Rattle.wf_manifest.specs.declared.templates.Template.{Template}
use Rattle.meaning.specs.Answers.{Sels}
use Rattle.meaning.specs.Lines.{Made, row_in, all_finished}
use Rattle.meaning.specs.Steps.{member_place, members, group_made, group_place, steps_made}
use Rattle.meaning.specs.Dags.{task_place, dag_made}
use Rattle.meaning.specs.Calls.{template_named, hook_runs, template_made, one_made, calls}
use Rattle.tree_types.specs.Places.{sels_eq}
use Rattle.growth.proofs.RoundsSettle.{rounds_settle}
use Rattle.locality.proofs.OffPath.{apart_on_way}
use Rattle.dag_stays.specs.Unseen.{IsUnseen}
use Rattle.dag_stays.proofs.RunsOn.{dag_was_running, dag_runs_on}
use Rattle.tree_change.specs.Entered.{IsRunning}
use Rattle.tree_change.proofs.Changing.{steps_were, group_changes, steps_change, steps_template_changes, dag_were, dag_template_changes, one_changes, call_changes, loop_changes}
use Rattle.tree_change.proofs.Given.{given_by, given_some, begins, further, some_same}
use Rattle.tree_change.proofs.change.Change.+change.Goals as goal

pub call-returns-in_default : goal.call-returns-in_default
call-returns-in_default g t c B changed g' left prefix place scope same way is =
    let m = c.args.self.now.manifest.now in
    let A = g.R.Recorded.answers c.args.self.now.recorded.now in
    let call = c.args.call.now in
    let Was : Type 0 = (n : ℕ) × (c.args.old.now ≡ one_made m B g' (calls m B g' n) prefix place scope call) in
    given_by c.one.result (λ (i : Was) z. z ≡ one_made m A g' (calls m A g' i.0) prefix place scope call) (λ z. z ≡ calls m A g' left prefix place scope call)
    (λ i. c.one.ensures B changed g' i.0 prefix place scope same way i.1)
    (λ z new. sym (call_changes m A B g' left prefix place scope call c.args.old.now z is (c.if-not-is_running.ensures refl) c.in_default.is (λ n was. sym (new (n, was)))))

pub call-returns : goal.call-returns
call-returns g t c B changed g' left prefix place scope same way is =
    c.item.ensures c.in-Some.field-0 B changed g' left prefix place scope same (begins changed place.sels c.in-Some-split.first (Item c.in-Item.i) c.args.rest.now c.in-Some-split.others.now way c.in-Some-split.ensures c.in-Item.is) c.in-Some.is is (c.if-not-is_running.ensures refl)

pub one-returns : goal.one-returns
one-returns g t c B changed g' left prefix place scope same way is =
    let m = c.args.self.now.manifest.now in
    let A = g.R.Recorded.answers c.args.self.now.recorded.now in
    let call = c.args.call.now in
    let z = c.in-Some-2.new in
    sym (one_changes m A B changed same g' left prefix place scope call c.args.old.now z is (c.if-not-is_running.ensures refl)
    (λ u inner found.
    let same_template : c.in-Some.named.template.now ≡ u = some_same c.in-Some.named.template.now u (template_named m call.template) (sym c.in-Some.ensures.found) found in
    subst (λ (v : Template). c.args.old.now ≡ template_made B (calls m B g' left) place inner v → template_made A (calls m A g' left) place inner v ≡ z) same_template
    (λ was. sym (given_some c.in_ok-new.field-0 z (λ y. y ≡ template_made A (calls m A g' left) place inner c.in-Some.named.template.now) c.in-Some-2.is (c.in_ok-new.ensures B changed g' left place inner same way was))))
    (ap (λ (p : Phase). is_some call.exit && hook_runs p) (sym c.phase.ensures) ∙ sym c.has_hook.ensures ∙ c.if-has_hook.false))

pub template-returns-in-Pod-default : goal.template-returns-in-Pod-default
template-returns-in-Pod-default g t c B changed g' left place inner same way is = c.pod.ensures c.args.rest.now B changed g' left place inner same way is

pub template-returns-in-Steps-default : goal.template-returns-in-Steps-default
template-returns-in-Steps-default g t c B changed g' left place inner same way is =
    let m = c.args.self.now.manifest.now in
    let A = g.R.Recorded.answers c.args.self.now.recorded.now in
    let u = c.args.named.template.now in
    let gs = c.in-Steps-default.groups in
    let old = c.args.old.now in
    let runs = c.requires.runs in
    let were : old ≡ steps_made (calls m B g' left) place inner u.outputs gs = steps_were m A B changed same g' left place inner u gs old is runs c.in-Steps-default.is-0 in
    given_by c.steps.result (λ (i : Unit {0}) z. (z ≡ steps_made (calls m A g' left) place inner u.outputs gs) × IsRunning z × (sels_eq place.sels changed ≡ false)) (λ z. z ≡ template_made A (calls m A g' left) place inner u)
    (λ i. c.steps.ensures B changed g' left place inner u.outputs same way were runs)
    (λ z new. sym (steps_template_changes m A B changed same g' left place inner u gs old z is runs c.in-Steps-default.is-0 (new tt).2 (λ w. ((new tt).0, (new tt).1))))

pub one-template-requires : goal.one-template-requires
one-template-requires g t c κs within =
    (omega arith, (within, (c.requires, (c.in-Some.ensures.walkable, c.if-not-is_running.ensures refl))))

pub template-returns-in-Dag-Some : goal.template-returns-in-Dag-Some
template-returns-in-Dag-Some g t c B changed g' left place inner same way is =
    let m = c.args.self.now.manifest.now in
    let A = g.R.Recorded.answers c.args.self.now.recorded.now in
    let u = c.args.named.template.now in
    let d = c.in-Dag-Some.dag in
    let old = c.args.old.now in
    let runs = c.requires.runs in
    let were : old ≡ dag_made B (calls m B g' left) place inner u.outputs d = dag_were m A B changed same g' left place inner u d old is runs c.in-Dag-Some.is-0 in
    given_by c.dag.result (λ (i : Unit {0}) z. (z ≡ dag_made A (calls m A g' left) place inner u.outputs d) × IsRunning z × (sels_eq place.sels changed ≡ false)) (λ z. z ≡ template_made A (calls m A g' left) place inner u)
    (λ i. c.dag.ensures B changed g' left place inner u.outputs same way were)
    (λ z new. sym (dag_template_changes m A B changed same g' left place inner u d old z is runs c.in-Dag-Some.is-0 (new tt).2 (λ w. ((new tt).0, (new tt).1))))

pub dag-returns : goal.dag-returns
dag-returns g t c B changed g' left place scope declared same way is =
    let m = c.args.self.now.manifest.now in
    let A = g.R.Recorded.answers c.args.self.now.recorded.now in
    let d = c.args.dag.now in
    let j = c.in-Task.j in
    let old = c.args.old.now in
    let others = c.in-Some.others.now in
    let task = c.in-Some-item_at.task.now in
    let at = c.in-Some-call_of_task.at in
    let one = c.in-Some-call_of_task.made.now in
    let z = c.in-Some-2.new in
    let here = begins changed place.sels c.in-Some.first (task_sel j) c.args.rest.now others way c.in-Some.ensures c.in-Task.is in
    let off : one.own.finished ≡ false = sym c.is_finished.ensures ∙ c.if-is_finished.false in
    let unseen : IsUnseen d task z = c.if-not-is_unseen.ensures.0 refl in
    let goes_on = sym (ap (λ (b : Made). all_finished (row_in b.parts)) c.in_ok-state.ensures) ∙ sym c.all_finished.ensures ∙ c.if-all_finished.false in (
      c.in_ok-state.ensures
          ∙ sym (dag_runs_on m A B changed same g' left rounds_settle place scope declared d c.requires.plan.ranked at j others old one z task here is (sym c.in-Some-item_at.ensures)
          c.in-Some-call_of_task.ensures.call c.in-Some-call_of_task.ensures.task off unseen goes_on (sym c.has_begun.ensures ∙ c.if-not-has_begun.false)
          (λ s was. sym (given_some c.in_ok-new.field-0 z (λ y. y ≡ calls m A g' left (codes "tasks.") (task_place place j task) (s ++ scope) task.call) c.in-Some-2.is
          (c.in_ok-new.ensures B changed g' left (codes "tasks.") (task_place place j task) (s ++ scope) same (further changed place.sels (task_sel j) others here) was)))),
      ap (λ (b : Made). b.own.node.phase) c.in_ok-state.ensures
          ∙ dag_was_running m A B changed same g' left rounds_settle place scope declared d c.requires.plan.ranked at j old one is c.in-Some-call_of_task.ensures.call c.in-Some-call_of_task.ensures.task off,
      apart_on_way A B changed same place.sels others (task_sel j) here,
    )

pub steps-returns : goal.steps-returns
steps-returns g t c B changed g' left place scope declared same way is runs =
    let m = c.args.self.now.manifest.now in
    let A = g.R.Recorded.answers c.args.self.now.recorded.now in
    let gs = c.args.groups.now in
    let i = c.in-Group.i in
    let z = c.in-Some-2.new in
    let here = begins changed place.sels c.in-Some.first (Group i) c.args.rest.now c.in-Some.others.now way c.in-Some.ensures c.in-Group.is in
    let there : slice_get gs i ≡ Some c.in-Some-item_at.calls.now = sym c.in-Some-item_at.ensures in
    let q = group_place place i in (
      c.in_ok-with_call.ensures
          ∙ sym (steps_change m A B changed same g' left place scope declared gs i c.in-Some.others.now c.args.old.now c.in-Some-call_at.group.now z here is (sym c.in-Some-call_at.ensures) (c.if-not-is_running.ensures refl) (c.if-not-is_running-2.ensures refl)
          (λ u cs found was.
          let same_calls : c.in-Some-item_at.calls.now ≡ cs = some_same c.in-Some-item_at.calls.now cs (slice_get gs i) there found in
          subst (λ (ds : List Call). c.in-Some-call_at.group.now ≡ group_made q (members (calls m B g' left) q u ds) → group_made q (members (calls m A g' left) q u ds) ≡ z) same_calls
          (λ w. sym (given_some c.in_ok-new.field-0 z (λ y. (y ≡ group_made q (members (calls m A g' left) q u c.in-Some-item_at.calls.now)) × IsRunning y) c.in-Some-2.is (c.in_ok-new.ensures B changed g' left q u same (further changed place.sels (Group i) c.in-Some.others.now here) w)).0) was)),
      ap (λ (b : Made). b.own.node.phase) c.in_ok-with_call.ensures ∙ runs,
      apart_on_way A B changed same place.sels c.in-Some.others.now (Group i) here,
    )

pub group-returns : goal.group-returns
group-returns g t c B changed g' left group scope same way is =
    let m = c.args.self.now.manifest.now in
    let A = g.R.Recorded.answers c.args.self.now.recorded.now in
    let cs = c.args.calls.now in
    let j = c.in-Step.j in
    let z = c.in-Some-2.new in
    let here = begins changed group.sels c.in-Some.first (Step j) c.args.rest.now c.in-Some.others.now way c.in-Some.ensures c.in-Step.is in
    let there : slice_get cs j ≡ Some c.in-Some-item_at.call.now = sym c.in-Some-item_at.ensures in (
      c.in_ok-state.ensures
          ∙ sym (group_changes m A B changed same g' left group scope cs j c.in-Some.others.now c.args.old.now c.in-Some-call_at.member.now z here is c.requires.runs (sym c.in-Some-call_at.ensures)
          (λ d found was.
          let same_call : c.in-Some-item_at.call.now ≡ d = some_same c.in-Some-item_at.call.now d (slice_get cs j) there found in
          subst (λ (e : Call). c.in-Some-call_at.member.now ≡ calls m B g' left (codes "steps.") (member_place group j e) scope e → calls m A g' left (codes "steps.") (member_place group j e) scope e ≡ z) same_call
          (λ w. sym (given_some c.in_ok-new.field-0 z (λ y. y ≡ calls m A g' left (codes "steps.") (member_place group j c.in-Some-item_at.call.now) scope c.in-Some-item_at.call.now) c.in-Some-2.is (c.in_ok-new.ensures B changed g' left (codes "steps.") (member_place group j c.in-Some-item_at.call.now) scope same (further changed group.sels (Step j) c.in-Some.others.now here) w))) was)
          (sym (ap (λ (b : Made). all_finished (row_in b.parts)) c.in_ok-state.ensures) ∙ sym c.all_finished.ensures ∙ c.if-all_finished.false)),
      ap (λ (b : Made). b.own.node.phase) c.in_ok-state.ensures ∙ c.requires.runs,
    )

pub item-returns : goal.item-returns
item-returns g t c l B changed g' left prefix place scope same way looped is runs =
    let m = c.args.self.now.manifest.now in
    let A = g.R.Recorded.answers c.args.self.now.recorded.now in
    let call = c.args.call.now in
    let i = c.args.i in
    let z = c.in-Some-2.new in
    c.in_ok-state.ensures
    ∙ sym (loop_changes m A B g' changed same left prefix place scope call l i c.args.rest.now c.args.old.now c.in-Some.item.now z way is runs looped (sym c.in-Some.ensures) (sym c.is_finished.ensures ∙ c.if-is_finished.false)
    (λ n at inner stands was. sym (given_some c.in_ok-new.field-0 z (λ y. y ≡ one_made m A g' (calls m A g' n) prefix at inner call) c.in-Some-2.is
    (c.in_ok-new.ensures B changed g' n prefix at inner same (further changed place.sels (Item i) c.args.rest.now way ∙ ap (λ (p : Sels). p ++ c.args.rest.now) (sym stands)) was)))
    (sym (ap (λ (b : Made). all_finished (row_in b.parts)) c.in_ok-state.ensures) ∙ sym c.all_finished.ensures ∙ c.if-all_finished.false))
