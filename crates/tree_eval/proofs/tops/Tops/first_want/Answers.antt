-- The first of the entrypoint, else of the exit handler.
use Rattle.std.proofs.Common.{ap, ◌∙◌}
use Rattle.tree_types.specs.declared.want.Want.{Want}
use Rattle.std.specs.Prelude.{Bool}
use Rattle.tree_state.specs.Asking.{is_of}
use Rattle.tree_state.proofs.Readings.{want_among, wants_then}
use Rattle.tree_eval.proofs.Firsts.{main_has, exit_has}
use Rattle.meaning.specs.Lines.{Made, lines_in}
use Rattle.tree_eval.proofs.tops.Tops.first_want.Goals as goal

pub returns-in-Some : goal.returns-in-Some
returns-in-Some c =
    let p : Want → Bool = is_of c.args.kind in
    main_has (want_among p) (wants_then p) c.args.self.now c.in-Some.want.now (c.in-Some.ensures ∙ ap (λ (b : Made). want_among p (lines_in b)) c.state.ensures)

pub returns-in-Some-exit : goal.returns-in-Some-exit
returns-in-Some-exit c =
    let p : Want → Bool = is_of c.args.kind in
    exit_has (want_among p) (wants_then p) c.args.self.now _ c.in-Some-exit.exit (c.in_default.ensures ∙ ap (λ (b : Made). want_among p (lines_in b)) c.state.ensures) c.in-Some-exit.is c.first_want-in-Some-exit.ensures
