-- What both make is the whole.
use Rattle.std.proofs.Common.{refl, ap, ◌∙◌}
use Rattle.tree_types.specs.declared.path.Sel.TheVariants.{Main}
use Rattle.std.proofs.Common.{◌∷◌}
use Rattle.tree_eval.specs.Inside.Stages.{Runs}
use Rattle.tree_eval.proofs.After.{runs_still, ran, was_main}
use Rattle.tree_eval.proofs.Running.{run_fails, run_told}
use Rattle.tree_eval.proofs.workflow_tree.WorkflowTree.again.Goals as goal

pub again-requires-clause-old : goal.again-requires-clause-old
again-requires-clause-old g c =
    let m = c.args.manifest.now in
    let B = g.R.Recorded.answers c.args.before.now in
    ap (λ w. w.main) c.self.view_is ∙ was_main m B c.args.self.now c.requires.tree (ran m B c.args.self.now c.requires.tree c.requires.runs)

pub returns-in_err-tops : goal.returns-in_err-tops
returns-in_err-tops g c =
    let m = c.args.manifest.now in
    let A = g.R.Recorded.answers c.args.recorded.now in
    let B = g.R.Recorded.answers c.args.before.now in
    let runs : Runs m A = runs_still m A B (Main ∷ c.args.rest.now) c.args.rest.now c.requires.same refl (ran m B c.args.self.now c.requires.tree c.requires.runs) in
    run_fails m A runs c.from_residual.result c.in_err-tops.field-0.0 c.from_residual.ensures.1 c.in_err-tops.ensures

pub returns : goal.returns
returns g c =
    let m = c.args.manifest.now in
    let A = g.R.Recorded.answers c.args.recorded.now in
    let B = g.R.Recorded.answers c.args.before.now in
    let runs : Runs m A = runs_still m A B (Main ∷ c.args.rest.now) c.args.rest.now c.requires.same refl (ran m B c.args.self.now c.requires.tree c.requires.runs) in
    run_told m A runs c.phase_is_meant.ensures c.in_ok-tops.tops c.phase-phase.result c.in_ok-tops.ensures c.phase-phase.ensures
