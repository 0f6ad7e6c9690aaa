-- None so far is such.
use Rattle.std.proofs.Common.{◌≡◌, false, take, map}
use Rattle.std.specs.List.{list_any}
use Rattle.wf_object.specs.Documents.{command_of}
use Rattle.worker_job.specs.Readings as reads
use Rattle.worker_job.proofs.reading.Reading.any_resumes.Given as goal

abbrev pub invariant-loop-command : goal.invariant-loop-command
invariant-loop-command l = list_any (reads.resumes l.self l.armed) (map command_of (take l.command-index l.commands)) ≡ false
