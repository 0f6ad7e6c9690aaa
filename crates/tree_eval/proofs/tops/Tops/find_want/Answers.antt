-- The first of the entrypoint, else of the exit handler.
use Rattle.std.proofs.Common.{ap, ◌∙◌}
use Rattle.tree_types.specs.declared.want.Want.{Want}
use Rattle.std.specs.Prelude.{Bool}
use Rattle.tree_state.specs.Finding.{passes}
use Rattle.tree_state.proofs.Readings.{want_among, wants_then}
use Rattle.tree_eval.proofs.Firsts.{main_has, exit_has}
use Rattle.meaning.specs.Lines.{Made, lines_in}
use Rattle.tree_eval.proofs.tops.Tops.find_want.Goals as goal

pub returns-in-Some : goal.returns-in-Some
returns-in-Some g c =
    let p : Want → Bool = passes c.args.kind (g.T.WantTest.accepts c.args.test.now) in
    main_has (want_among p) (wants_then p) c.args.self.now c.in-Some.want.now (c.in-Some.ensures ∙ ap (λ (b : Made). want_among p (lines_in b)) c.state.ensures)

pub returns-in-Some-exit : goal.returns-in-Some-exit
returns-in-Some-exit g c =
    let p : Want → Bool = passes c.args.kind (g.T.WantTest.accepts c.args.test.now) in
    exit_has (want_among p) (wants_then p) c.args.self.now _ c.in-Some-exit.exit (c.in_default.ensures ∙ ap (λ (b : Made). want_among p (lines_in b)) c.state.ensures) c.in-Some-exit.is c.find_want-in-Some-exit.ensures
