use Rattle.std.proofs.Common.{Some, sym, ap, ◌∙◌}
use Rattle.tree_types.specs.declared.node.Node.{Node}
use Rattle.row_states.proofs.Turns.{one_output_more}
use Rattle.row_states.proofs.looped.outputs_of.Goals as goal

pub loop-i-preserved : goal.loop-i-preserved
loop-i-preserved c =
    one_output_more c.args.states.now c.loop-i.i c.state.result.now c.loop-i.items.items c.push.new.self.items _ (c.get.ensures ∙ ap Some (sym c.state.ensures)) c.in_ok-push.ensures.items
    (ap (λ (n : Node). n.outputs) c.node.ensures)
    ∙ c.loop-i.invariant
