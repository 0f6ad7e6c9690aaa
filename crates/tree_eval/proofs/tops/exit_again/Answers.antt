-- The exit handler is called again in the scope of the entrypoint's phase.
use Rattle.tree_eval.proofs.Calling.{exit_called, exit_as_called}
use Rattle.tree_eval.proofs.tops.exit_again.Goals as goal

pub made_again-requires-clause-old : goal.made_again-requires-clause-old
made_again-requires-clause-old g c =
    exit_as_called c.args.manifest.now (g.R.Recorded.answers c.args.before.now) c.args.globals.now c.in_ok-scope.scope c.in_ok-place.place c.args.main.now c.args.old.now c.phase.result c.args.template.now c.requires.said c.phase.ensures c.in_ok-scope.ensures c.in_ok-place.ensures c.requires.old

pub returns : goal.returns
returns g c =
    exit_called c.args.manifest.now (g.R.Recorded.answers c.args.recorded.now) c.args.room.now c.made_again.new.room c.made_again.result c.in_ok-place.place c.args.globals.now c.in_ok-scope.scope c.args.main.now c.phase.result c.args.template.now c.requires.said c.phase.ensures c.in_ok-scope.ensures c.in_ok-place.ensures c.made_again.ensures
