-- The exit handler is called in the scope of the entrypoint's phase.
use Rattle.tree_eval.proofs.Calling.{exit_called}
use Rattle.tree_eval.proofs.tops.exit_state.Goals as goal

pub returns : goal.returns
returns g c =
    exit_called c.args.manifest.now (g.R.Recorded.answers c.args.recorded.now) c.args.room.now c.top_state.new.room c.top_state.result c.in_ok-place.place c.args.globals.now c.in_ok-scope.scope c.args.main.now c.phase.result c.args.template.now c.requires.said c.phase.ensures c.in_ok-scope.ensures c.in_ok-place.ensures c.top_state.ensures
