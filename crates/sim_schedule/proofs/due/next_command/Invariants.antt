-- The next tick of the commands so far.
use Rattle.std.proofs.Common.{◌≡◌, map, take}
use Rattle.law.specs.Due.{command_tick}
use Rattle.next_step.specs.Ticks.{least_above}
use Rattle.wf_object.specs.Documents.{command_of}
use Rattle.sim_schedule.proofs.due.next_command.Given as goal

abbrev pub invariant-loop-command : goal.invariant-loop-command
invariant-loop-command l = l.next ≡ least_above l.clock (map (λ c. command_tick (command_of c)) (take l.command-index l.commands))
