-- The entrypoint is called again in the workflow's scope.
use Rattle.tree_eval.proofs.Calling.{main_called, main_as_called}
use Rattle.tree_eval.proofs.tops.main_again.Goals as goal

pub made_again-requires-clause-old : goal.made_again-requires-clause-old
made_again-requires-clause-old g c =
    main_as_called c.args.manifest.now (g.R.Recorded.answers c.args.before.now) c.args.globals.now c.in_ok-place.place c.args.old.now c.requires.said c.in_ok-place.ensures c.requires.old

pub returns : goal.returns
returns g c =
    main_called c.args.manifest.now (g.R.Recorded.answers c.args.recorded.now) c.args.room.now c.made_again.new.room c.made_again.result c.in_ok-place.place c.args.globals.now c.requires.said c.in_ok-place.ensures c.made_again.ensures
