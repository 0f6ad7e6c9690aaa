-- The first of the entrypoint, else of the exit handler.
use Rattle.std.proofs.Common.{ap, ◌∙◌}
use Rattle.tree_state.proofs.Readings.{beginning_among, beginnings_then}
use Rattle.tree_eval.proofs.Firsts.{main_has, exit_has}
use Rattle.meaning.specs.Lines.{Made, lines_in}
use Rattle.tree_eval.proofs.tops.Tops.first_beginning.Goals as goal

pub returns-in-Some : goal.returns-in-Some
returns-in-Some c = main_has beginning_among beginnings_then c.args.self.now c.in-Some.path.now (c.in-Some.ensures ∙ ap (λ (b : Made). beginning_among (lines_in b)) c.state.ensures)

pub returns-in-Some-exit : goal.returns-in-Some-exit
returns-in-Some-exit c =
    exit_has beginning_among beginnings_then c.args.self.now _ c.in-Some-exit.exit (c.in_default.ensures ∙ ap (λ (b : Made). beginning_among (lines_in b)) c.state.ensures) c.in-Some-exit.is c.first_beginning-in-Some-exit.ensures
