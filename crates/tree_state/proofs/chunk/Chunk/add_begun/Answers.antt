-- The call, and behind it that of the kid.
use Rattle.std.proofs.lemmas.Result.{on_ok_weaker}
use Rattle.tree_state.proofs.Begins.{added_both}
use Rattle.tree_state.proofs.chunk.Chunk.add_begun.Goals as goal

pub returns : goal.returns
returns c =
    on_ok_weaker c.add-2.result (λ next. added_both c.args.self.now c.add.new.self c.add-2.new.self c.in_ok-of.field-0 c.in_ok-without_line.field-0 c.args.call c.args.kid.now.state c.in_ok-of.ensures c.in_ok-without_line.ensures c.in_ok-add.ensures.ok next) c.add-2.ensures.ok
