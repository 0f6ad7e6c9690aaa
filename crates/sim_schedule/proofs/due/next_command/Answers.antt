-- One command more.
use Rattle.std.proofs.Common.{◌∙◌, ap, ◌∷◌, []}
use Rattle.law.specs.Due.{command_tick}
use Rattle.wf_object.specs.Documents.{command_of}
use Rattle.next_step.specs.Ticks.{least_above}
use Rattle.tree_state.specs.Finding.{sooner}
use Rattle.sim_schedule.proofs.Dues.{next_mapped}
use Rattle.sim_schedule.proofs.due.next_command.Goals as goal

pub loop-command-preserved : goal.loop-command-preserved
loop-command-preserved c =
    c.sooner-next.ensures
    ∙ ap (sooner c.loop-command.next) (c.if_above.ensures ∙ ap (λ t. least_above c.args.clock (t ∷ [])) c.command_tick.ensures)
    ∙ next_mapped c.args.clock (λ x. command_tick (command_of x)) c.args.commands.now c.loop-command.command-index c.command-item.result c.loop-command.next c.loop-command-test.true c.command-item.is c.loop-command.invariant
