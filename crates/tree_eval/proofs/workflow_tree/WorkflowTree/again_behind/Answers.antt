-- What both make is the whole.
use Rattle.std.proofs.Common.{◌∙◌}
use Rattle.tree_eval.specs.Inside.Stages.{Runs}
use Rattle.tree_eval.proofs.After.{runs_behind, ran, was_both}
use Rattle.tree_eval.proofs.Running.{run_fails, run_told}
use Rattle.tree_eval.proofs.workflow_tree.WorkflowTree.again_behind.Goals as goal

pub again_behind-requires-clause-old : goal.again_behind-requires-clause-old
again_behind-requires-clause-old g c =
    let m = c.args.manifest.now in
    let B = g.R.Recorded.answers c.args.before.now in
    was_both m B c.self.inside.tops c.self.inside.phase (c.self.view_is ∙ c.requires.tree) (ran m B c.args.self.now c.requires.tree c.requires.runs)

pub returns-in_err-tops : goal.returns-in_err-tops
returns-in_err-tops g c =
    let m = c.args.manifest.now in
    let A = g.R.Recorded.answers c.args.recorded.now in
    let B = g.R.Recorded.answers c.args.before.now in
    let runs : Runs m A = runs_behind m A B c.args.rest.now c.requires.same (ran m B c.args.self.now c.requires.tree c.requires.runs) in
    run_fails m A runs c.from_residual.result c.in_err-tops.field-0.0 c.from_residual.ensures.1 c.in_err-tops.ensures

pub returns : goal.returns
returns g c =
    let m = c.args.manifest.now in
    let A = g.R.Recorded.answers c.args.recorded.now in
    let B = g.R.Recorded.answers c.args.before.now in
    let runs : Runs m A = runs_behind m A B c.args.rest.now c.requires.same (ran m B c.args.self.now c.requires.tree c.requires.runs) in
    run_told m A runs c.phase_is_meant.ensures c.in_ok-tops.tops c.phase-phase.result c.in_ok-tops.ensures c.phase-phase.ensures
