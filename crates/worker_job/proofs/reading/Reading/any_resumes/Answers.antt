-- One of the commands is such, or none of those that were passed is.
use Rattle.std.proofs.Common.{◌+◌, true, false, sym, ◌∙◌}
use Rattle.wf_object.specs.Documents.{command_of}
use Rattle.worker_job.specs.Readings as reads
use Rattle.worker_job.proofs.Walks.{one_more, is_there, in_none}
use Rattle.worker_job.proofs.reading.Reading.any_resumes.Goals as goal

pub returns-then-resumes : goal.returns-then-resumes
returns-then-resumes c =
    let test = reads.resumes c.args.self.now c.args.armed in
    sym
    (is_there command_of test c.args.commands.now (c.loop-command.command-index + 1)
    (one_more command_of test c.args.commands.now c.loop-command.command-index c.command-item.result true c.loop-command-test.true c.command-item.is c.loop-command.invariant (sym c.resumes.ensures ∙ c.if-resumes.true)))

pub loop-command-preserved : goal.loop-command-preserved
loop-command-preserved c =
    one_more command_of (reads.resumes c.args.self.now c.args.armed) c.args.commands.now c.loop-command.command-index c.command-item.result false c.loop-command-test.true c.command-item.is c.loop-command.invariant (sym c.resumes.ensures ∙ c.if-resumes.false)

pub returns : goal.returns
returns c = sym (in_none command_of (reads.resumes c.args.self.now c.args.armed) c.args.commands.now c.loop-command.command-index c.loop-command-test.false c.loop-command.invariant)
