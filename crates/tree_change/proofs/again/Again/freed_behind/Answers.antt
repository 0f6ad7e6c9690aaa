-- It begins and runs.
use Rattle.std.proofs.Common.{◌≡◌, not, ◌||◌, true, codes, sym, ap, subst, ◌∙◌}
use Rattle.meaning.specs.declared.lines.Place.{Place}
use Rattle.meaning.specs.Lines.{Made}
use Rattle.meaning.specs.Dags.{task_place}
use Rattle.meaning.specs.Calls.{calls}
use Rattle.tree_state.specs.declared.inserting.Entry.TheVariants.{Begun}
use Rattle.tree_change.specs.Inside.Behind.{EntersSo}
use Rattle.tree_change.proofs.Given.{given_some}
use Rattle.tree_change.proofs.Waiting.{enters_begun}
use Rattle.tree_change.proofs.again.Again.freed_behind.Goals as goal

pub returns : goal.returns
returns g c us tagged freed =
    let m = c.args.self.now.walk.manifest.now in
    let A = g.R.Recorded.answers c.args.self.now.walk.recorded.now in
    let scopes = c.args.self.now.walk.globals.now in
    let left = c.args.left in
    let place = c.args.place.now in
    let scope = c.args.scope.now in
    let d = c.args.dag.now in
    let k = c.args.k in
    let t = c.args.task.now in
    let at = c.in_ok-at.at in
    let z = c.in-Some.new in
    let here : at ≡ task_place place k t = c.in_ok-at.ensures in
    let begins : (not d.fail_fast || A.begun (task_place place k t).sels) ≡ true =
    ap (λ (q : Place). not d.fail_fast || A.begun q.sels) (sym here) ∙ sym c.begins.ensures ∙ c.if-not-begins.false in
    let made : z ≡ calls m A scopes left (codes "tasks.") at scope t.call =
    given_some c.in_ok-new.field-0 z (λ (y : Made). y ≡ calls m A scopes left (codes "tasks.") at scope t.call) c.in-Some.is c.in_ok-new.ensures in
    subst (λ (y : Made). EntersSo A (calls m A scopes left) place scope d us k (Begun y)) (sym c.in_ok-new-2.ensures)
    (enters_begun m A scopes left place scope d us tagged k t c.requires.task freed begins (c.in_ok-sees_none.ensures c.if-not-sees_none.false) at here z made (sym c.is_finished.ensures ∙ c.if-is_finished.false))
