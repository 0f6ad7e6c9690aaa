-- The exit handler runs, and makes what is meant of it.
use Rattle.std.proofs.Common.{sym, ap, ◌∙◌}
use Rattle.meaning.specs.Lines.{Made}
use Rattle.meaning.specs.Trees.{exit_of}
use Rattle.tree_eval.proofs.Behind.{made_before, made_now, fails_now}
use Rattle.tree_eval.proofs.tops.exit_after.Goals as goal

pub exit_again-requires-clause-old : goal.exit_again-requires-clause-old
exit_again-requires-clause-old g c =
    let m = c.args.manifest.now in
    let B = g.R.Recorded.answers c.args.before.now in
    made_before m c.state-main.result.now c.in-Some.template.now c.in-Some.ensures B c.in-Some-exit.old
    (sym c.in-Some-exit.is ∙ c.requires.old ∙ ap (λ (b : Made). exit_of m B b) (sym c.state-main.ensures))

pub returns-in_err-exit-in-Some-exit : goal.returns-in_err-exit-in-Some-exit
returns-in_err-exit-in-Some-exit g c =
    fails_now c.args.manifest.now c.state-main.result.now c.in-Some.template.now c.in-Some.ensures (g.R.Recorded.answers c.args.recorded.now) c.args.tops.now.main c.state-main.ensures c.args.room.now c.exit_again.new.room
    c.from_residual-in_err-exit-in-Some-exit.result c.in_err-exit-in-Some-exit.field-0.0 c.from_residual-in_err-exit-in-Some-exit.ensures.1 c.in_err-exit-in-Some-exit.ensures

pub returns-in_ok-exit-in-Some-exit : goal.returns-in_ok-exit-in-Some-exit
returns-in_ok-exit-in-Some-exit g c =
    made_now c.args.manifest.now c.state-main.result.now c.in-Some.template.now c.in-Some.ensures (g.R.Recorded.answers c.args.recorded.now) c.args.tops.now.main c.state-main.ensures c.args.room.now c.exit_again.new.room
    c.in_ok-exit-in-Some-exit.exit c.in_ok-exit-in-Some-exit.ensures
