-- What both make is the whole.
use Rattle.tree_eval.proofs.Running.{run_fails, run_told}
use Rattle.tree_eval.proofs.stages.running.Goals as goal

pub returns-in_err-tops : goal.returns-in_err-tops
returns-in_err-tops g c =
    run_fails c.args.manifest.now (g.R.Recorded.answers c.args.recorded.now) c.requires.runs c.from_residual.result c.in_err-tops.field-0.0 c.from_residual.ensures.1 c.in_err-tops.ensures

pub returns : goal.returns
returns g c =
    run_told c.args.manifest.now (g.R.Recorded.answers c.args.recorded.now) c.requires.runs c.phase_is_meant.ensures c.in_ok-tops.tops c.phase-phase.result c.in_ok-tops.ensures c.phase-phase.ensures
