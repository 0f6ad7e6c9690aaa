-- The entrypoint is called in the workflow's scope.
use Rattle.tree_eval.proofs.Calling.{main_called}
use Rattle.tree_eval.proofs.tops.main_state.Goals as goal

pub returns : goal.returns
returns g c =
    main_called c.args.manifest.now (g.R.Recorded.answers c.args.recorded.now) c.args.room.now c.top_state.new.room c.top_state.result c.in_ok-place.place c.args.globals.now c.requires.said c.in_ok-place.ensures c.top_state.ensures
