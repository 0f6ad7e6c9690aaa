-- What the exit handler asks for stands behind what the entrypoint does.
use Rattle.std.proofs.Common.{List, ◌++◌, append_assoc, sym, ap, ◌∙◌}
use Rattle.tree_types.specs.declared.want.Want.{Want}
use Rattle.meaning.specs.Lines.{Made, lines_in}
use Rattle.meaning.specs.Trees.{exit_lines}
use Rattle.tree_state.proofs.OfKind.{among, kind_then}
use Rattle.tree_eval.proofs.tops.Tops.add_wants.Goals as goal

pub returns : goal.returns
returns c =
    let k = c.args.kind in
    let was = c.args.wants.now in
    let main = lines_in c.args.self.now.main in
    let exit = exit_lines c.args.self.now.exit in
    c.in_ok-add_of_exit.ensures
    ∙ ap (λ (ws : List Want). ws ++ among k exit) (c.in_ok-add_wants.ensures ∙ ap (λ (b : Made). was ++ among k (lines_in b)) c.state.ensures)
    ∙ append_assoc was (among k main) (among k exit)
    ∙ ap (λ (ws : List Want). was ++ ws) (sym (kind_then k main exit))
