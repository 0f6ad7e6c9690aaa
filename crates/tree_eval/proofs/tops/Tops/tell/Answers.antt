-- The lines of the exit handler stand behind those of the entrypoint.
use Rattle.std.proofs.Common.{ap, ◌∙◌}
use Rattle.meaning.specs.Lines.{Made, lines_in}
use Rattle.meaning.specs.Trees.{exit_lines}
use Rattle.tree_state.specs.declared.told.Told.{Told}
use Rattle.tree_state.specs.Telling.{no_lines, told_with}
use Rattle.tree_state.proofs.Tellings.{told_then}
use Rattle.tree_eval.proofs.tops.Tops.tell.Goals as goal

pub returns : goal.returns
returns c =
    let main = lines_in c.args.self.now.main in
    let exit = exit_lines c.args.self.now.exit in
    c.in_ok-tell_exit.ensures
    ∙ ap (λ (t : Told). told_with t exit) (c.in_ok-tell.ensures ∙ ap (λ (b : Made). told_with c.new-told.result (lines_in b)) c.state.ensures ∙ ap (λ (t : Told). told_with t main) c.new-told.ensures)
    ∙ told_then no_lines main exit
