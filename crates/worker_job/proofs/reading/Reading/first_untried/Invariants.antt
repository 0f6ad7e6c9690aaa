-- None so far gives a resubmission.
use Rattle.std.proofs.Common.{◌≡◌, None, take, map}
use Rattle.wf_object.specs.Documents.{command_of}
use Rattle.next_step.specs.Views.{first_given}
use Rattle.worker_job.specs.Readings as reads
use Rattle.worker_job.proofs.reading.Reading.first_untried.Given as goal

abbrev pub invariant-loop-command : goal.invariant-loop-command
invariant-loop-command l = first_given (reads.submitting l.self) (map command_of (take l.command-index l.commands)) ≡ None
