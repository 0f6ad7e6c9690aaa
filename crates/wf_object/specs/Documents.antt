-- The document that was read, as the law has it.
use Rattle.std.specs.Prelude.{map, option_map}
use Rattle.item_reader.specs.declared.outcome.PlannedOutcome as read
use Rattle.item_reader.specs.declared.commands.Command as read_command
use Rattle.item_reader.specs.declared.commands.Command.TheVariants as said
use Rattle.wf_bundle.specs.declared.document.Document as bundle
use Rattle.wf_bundle.specs.Outcomes.{planned_for}
use Rattle.law.specs.Documents.{PlannedOutcome, Command, Resume, Resubmit, Document}

abbrev pub plan_of : read.PlannedOutcome → PlannedOutcome
plan_of p = record {
  phase = p.phase;
  result = p.result;
  params = p.params;
  transient = p.transient;
  seconds = p.seconds;
  ended = p.ended;
}

abbrev pub command_of : read_command.Command → Command
command_of (said.Resume tick workflow) = Resume record { tick = tick; workflow = workflow }
command_of (said.Resubmit tick old name memoized created) =
    Resubmit record { tick = tick; old = old; name = name; memoized = memoized; created = created }

abbrev pub law_of : bundle.Document → Document
law_of D = record {
  workflows = D.workflows;
  limits = D.limits;
  planned = λ w n. option_map plan_of (planned_for D.outcomes w n);
  commands = map command_of D.commands;
}
