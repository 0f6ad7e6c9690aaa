use Rattle.std.proofs.Common.{◌∙◌, ◌+◌, List, ℕ, Err, drop, ap, sym}
use Rattle.tree_types.specs.declared.node.Note.TheVariants as note
use Rattle.tag_text.specs.Pieces.{part_of}
use Rattle.scopes.specs.Substitution.{said}
use Rattle.scopes.proofs.Said.{onto, says_more, says_not}
use Rattle.scopes.proofs.substituting.subst.Goals as goal

pub returns-in-Err : goal.returns-in-Err
returns-in-Err c =
    let scope = c.args.scope.now in let text = c.args.text.now in
    says_not scope text c.loop-i.i (part_of c.piece.result) c.loop-i.front (note.Unresolved c.in-Err.tag.now) (said scope text) c.piece.ensures c.in-Err.ensures c.loop-i.invariant
    ∙ ap (λ (t : List ℕ). Err (note.Unresolved t)) (sym c.in_ok-from_text-in-Err.ensures)

pub loop-i-preserved : goal.loop-i-preserved
loop-i-preserved c =
    let scope = c.args.scope.now in let text = c.args.text.now in
    ap (λ t. onto t (said scope (drop (c.loop-i.i + 1) text))) c.in_ok-push-in-Ok.ensures.ok
    ∙ says_more scope text c.loop-i.i (part_of c.piece.result) c.loop-i.front c.in-Ok.more.now (said scope text) c.piece.ensures c.in-Ok.ensures c.loop-i.invariant
