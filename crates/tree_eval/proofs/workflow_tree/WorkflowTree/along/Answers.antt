-- The workflow runs on, with what its entrypoint now makes.
use Rattle.std.proofs.Common.{◌≡◌, ◌∷◌, Option, Ok, sym, ap, ◌∙◌, subst, arith}
use Rattle.tree_types.specs.declared.path.Sel.{Sel}
use Rattle.tree_types.specs.declared.path.Sel.TheVariants.{Main}
use Rattle.meaning.specs.Lines.{Made}
use Rattle.meaning.specs.Trees.{globals_of, root, main_made}
use Rattle.tree_change.specs.Changes.{IfGiven}
use Rattle.tree_eval.specs.Inside.Stages.{Runs}
use Rattle.tree_eval.proofs.After.{runs_on, few_nodes, runs_still, ran, was_main}
use Rattle.tree_eval.proofs.workflow_tree.WorkflowTree.along.Goals as goal

pub returns : goal.returns
returns g c =
    let m = c.args.manifest.now in
    let A = g.R.Recorded.answers c.args.recorded.now in
    let B = g.R.Recorded.answers c.args.before.now in
    let changed = c.args.changed.now in
    let rest = c.in-Some-Main-default.rest.now in
    let way : changed ≡ Main ∷ rest = c.in-Some-Main-default.ensures.0 ∙ ap (λ (s : Sel). s ∷ rest) c.in-Some-Main-default.field-0-0-is in
    let before : Runs m B = ran m B c.args.self.now c.requires.tree c.in-Some-Main-default.ensures.1 in
    let now : Runs m A = runs_still m A B changed rest c.requires.same way before in
    let old : c.self.inside.tops.main ≡ main_made m B = ap (λ w. w.main) c.self.view_is ∙ was_main m B c.args.self.now c.requires.tree before in
    let main = c.in-Some.main in
    let made : main ≡ main_made m A =
    subst (λ (o : Option Made). IfGiven (Ok o) (λ z. z ≡ main_made m A)) c.in-Some.is (c.in_ok-main.ensures B changed (globals_of m) (root m) c.requires.same way (c.state-old.ensures ∙ old)) in
    let unfinished = sym c.is_finished.ensures ∙ c.if-is_finished.false in
    let shared = c.in_ok-main-2.main in
    let same : shared ≡ main = c.in_ok-main-2.ensures in (
      runs_on m A now shared (same ∙ made) (ap (λ (b : Made). b.own.finished) same ∙ unfinished),
      few_nodes m A now main made unfinished (omega (arith, c.count.ensures.all, c.if-count-gt-MOST_NODES.false)),
    )
