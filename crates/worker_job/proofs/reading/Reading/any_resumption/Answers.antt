-- One of the commands is such, or none of those that were passed is.
use Rattle.std.proofs.Common.{◌+◌, true, false, sym, ◌∙◌}
use Rattle.wf_object.specs.Documents.{command_of}
use Rattle.worker_job.specs.Readings as reads
use Rattle.worker_job.proofs.Walks.{one_more, is_there, in_none}
use Rattle.worker_job.proofs.reading.Reading.any_resumption.Goals as goal

pub returns-then-is_resumption : goal.returns-then-is_resumption
returns-then-is_resumption c =
    let test = reads.is_resumption (reads.workflow c.args.self.now) in
    sym
    (is_there command_of test c.args.commands.now (c.loop-command.command-index + 1)
    (one_more command_of test c.args.commands.now c.loop-command.command-index c.command-item.result true c.loop-command-test.true c.command-item.is c.loop-command.invariant (sym c.is_resumption.ensures ∙ c.if-is_resumption.true)))

pub loop-command-preserved : goal.loop-command-preserved
loop-command-preserved c =
    one_more command_of (reads.is_resumption (reads.workflow c.args.self.now)) c.args.commands.now c.loop-command.command-index c.command-item.result false c.loop-command-test.true c.command-item.is c.loop-command.invariant (sym c.is_resumption.ensures ∙ c.if-is_resumption.false)

pub returns : goal.returns
returns c = sym (in_none command_of (reads.is_resumption (reads.workflow c.args.self.now)) c.args.commands.now c.loop-command.command-index c.loop-command-test.false c.loop-command.invariant)
