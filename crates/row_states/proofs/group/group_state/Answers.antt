use Rattle.std.proofs.Common.{sym, ap, ap₂, ◌∙◌, [], List}
use Rattle.tree_types.specs.declared.phase.Phase.{Phase}
use Rattle.tree_types.specs.declared.node.Node.{Node}
use Rattle.tree_types.specs.declared.node.Kind.TheVariants as kind
use Rattle.tree_types.specs.declared.node.Note.TheVariants as note
use Rattle.tree_types.specs.declared.want.Want.{Want}
use Rattle.meaning.specs.Lines.{Parts, row_of, node, made, no_outputs}
use Rattle.meaning.specs.Steps.{Member, group_phase}
use Rattle.row_states.proofs.Members.{are_members}
use Rattle.row_states.proofs.group.group_state.Goals as goal

pub returns : goal.returns
returns c = λ ms calls makes.
    let phase = c.in_ok-phase.ensures ∙ ap (λ (z : List Member). group_phase z) (are_members ms c.args.calls.now c.args.states calls makes) in
    let its = c.bare-node.ensures ∙ ap (λ (p : Phase). node c.args.place kind.StepGroup p note.None no_outputs) phase in
    let below = c.in_ok-row.ensures ∙ ap row_of (sym makes) in
    c.new.ensures
    ∙ ap (λ (ws : List Want). made c.bare-node.result ws c.in_ok-row.field-0) c.new-wants.ensures
    ∙ ap₂ (λ (n : Node) (p : Parts). made n [] p) its below
