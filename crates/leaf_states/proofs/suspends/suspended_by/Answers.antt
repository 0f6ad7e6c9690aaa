use Rattle.std.proofs.Common.{Bool, ◌||◌, ap, sym, ◌∙◌, []}
use Rattle.tree_types.specs.declared.node.Node.{Node}
use Rattle.meaning.specs.Lines.{made, nothing}
use Rattle.meaning.specs.Suspends.{suspend_by}
use Rattle.leaf_states.proofs.Suspensions.{is_over, runs, as_running}
use Rattle.leaf_states.proofs.suspends.suspended_by.Goals as goal

pub returns-in_ok-suspended_node-in-Succeeded : goal.returns-in_ok-suspended_node-in-Succeeded
returns-in_ok-suspended_node-in-Succeeded c = λ due resumed is.
    c.silent.ensures
    ∙ ap (λ (n : Node). made n [] nothing) c.in_ok-suspended_node-in-Succeeded.ensures
    ∙ ap (λ (over : Bool). suspend_by c.args.place c.args.declared.now c.args.seconds c.args.armed over)
    (sym (is_over c.args.place due resumed c.args.phase is c.in-Succeeded.is))

pub returns-in_default : goal.returns-in_default
returns-in_default c = λ due resumed is.
    as_running c.args.place c.args.declared.now c.args.seconds c.args.armed (due || resumed) c.still_suspended.result
    (runs c.args.place due resumed c.args.phase is c.in_default.not-Succeeded) c.still_suspended.ensures
