-- The task was ready and begins now, by the law of tasks that begin unseen.
use Rattle.std.proofs.Common.{◌≡◌, ◌++◌, ◌∷◌, refl, sym, ap, ◌∙◌, not, ◌||◌, true, codes}
use Rattle.tree_types.specs.declared.path.Path.{Path}
use Rattle.tree_types.specs.declared.path.Sel.TheVariants.{Task as task_sel}
use Rattle.meaning.specs.declared.lines.Place.{Place}
use Rattle.meaning.specs.Lines.{Made}
use Rattle.meaning.specs.Dags.{look, parents, tags_before, standings, task_place}
use Rattle.meaning.specs.Calls.{calls}
use Rattle.growth.proofs.RoundsSettle.{rounds_settle}
use Rattle.dag_stays.proofs.Begins.{dag_begins_as}
use Rattle.tree_change.proofs.Given.{given_some}
use Rattle.tree_change.proofs.Unseeing.{makes_same}
use Rattle.tree_change.proofs.again.Again.begun_alone.Goals as goal

pub returns : goal.returns
returns g c declared was =
    let m = c.args.self.now.walk.manifest.now in
    let A = g.R.Recorded.answers c.args.self.now.walk.recorded.now in
    let B = g.R.Recorded.answers c.args.self.now.before.now in
    let scopes = c.args.self.now.walk.globals.now in
    let place = c.args.place.now in
    let d = c.args.dag.now in
    let j = c.args.j in
    let t = c.in-Some.task.now in
    let at = c.in_ok-at.at in
    let z = c.in-Some-2.new in
    let here : at ≡ task_place place j t = c.in_ok-at.ensures in
    let begins : (not d.fail_fast || A.begun (task_place place j t).sels) ≡ true =
    ap (λ (q : Place). not d.fail_fast || A.begun q.sels) (sym here) ∙ sym c.begins.ensures ∙ c.if-not-begins.false in
    let new : z ≡ calls m A scopes c.args.left (codes "tasks.") (task_place place j t) (tags_before (look (standings B (calls m B scopes c.args.left) place c.args.scope.now d)) (parents d.tasks t) ++ c.args.scope.now) t.call =
    given_some c.in_ok-new.field-0 z (λ (y : Made). y ≡ calls m A scopes c.args.left (codes "tasks.") at c.args.scope.now t.call) c.in-Some-2.is c.in_ok-new.ensures
    ∙ ap (λ (q : Place). calls m A scopes c.args.left (codes "tasks.") q c.args.scope.now t.call) here
    ∙ makes_same m A B scopes c.args.left place c.args.scope.now d t (task_place place j t) (c.in_ok-sees_none.ensures c.if-not-sees_none.false) in
    let named : Path = record { sels = c.in_ok-copy.field-0 } in
    sym (dag_begins_as m A B (place.sels ++ task_sel j ∷ c.args.rest.now) c.requires.resumes.same scopes c.args.left rounds_settle place c.args.scope.now declared d c.requires.walkable.ranked j c.args.rest.now
    c.args.old.now z c.in-Some-3.state t named refl was (sym c.in-Some.ensures) (c.in_ok-copy.ensures ∙ ap (λ (q : Place). q.sels) here) begins new (c.if-not-is_unseen.ensures.0 refl)
    (sym c.in_ok-state.ensures ∙ c.in-Some-3.is) (sym c.all_finished.ensures ∙ c.if-all_finished.false))
