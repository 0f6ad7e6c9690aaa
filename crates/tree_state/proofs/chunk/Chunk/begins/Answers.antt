-- No task at all may begin in the chunk.
use Rattle.std.proofs.Common.{sym, ap, ◌∙◌}
use Rattle.meaning.specs.Lines.{Parts}
use Rattle.tree_state.specs.Inside.Kids.{parts_of}
use Rattle.tree_state.specs.Inside.Begun.{begins_in}
use Rattle.tree_state.proofs.Begins.{none_kept}
use Rattle.tree_state.proofs.chunk.Chunk.begins.Goals as goal

pub returns-then-not-self : goal.returns-then-not-self
returns-then-not-self c =
    let path = c.args.path.now in
    sym (none_kept (parts_of c.self.inside.kids.items) path c.self.inside.sum c.self.invariant c.if-not-self.true)
    ∙ ap (λ (p : Parts). begins_in p path) c.self.view_is
