-- A command gives a resubmission, or none of those that were passed does.
use Rattle.std.proofs.Common.{◌+◌, sym, ◌∙◌}
use Rattle.std.specs.Prelude.{None, option_map}
use Rattle.law.specs.Due.{submit}
use Rattle.wf_object.specs.Documents.{command_of}
use Rattle.worker_job.specs.Told.{resubmission_told}
use Rattle.worker_job.specs.Readings as reads
use Rattle.worker_job.proofs.Walks.{given_more, given_there, given_none, told_none, told_some}
use Rattle.worker_job.proofs.reading.Reading.first_untried.Goals as goal

pub returns-then-is_some : goal.returns-then-is_some
returns-then-is_some c =
    let give = reads.submitting c.args.self.now in
    let given = option_map (λ r. submit (resubmission_told r)) c.in_ok-untried.untried in
    sym
    (given_there give command_of c.args.commands.now (c.loop-command.command-index + 1) given
    (told_some (λ r. submit (resubmission_told r)) c.in_ok-untried.untried (sym c.is_some.ensures ∙ c.if-is_some.true))
    (given_more give command_of c.args.commands.now c.loop-command.command-index c.command-item.result given c.loop-command-test.true c.command-item.is c.loop-command.invariant (sym c.in_ok-untried.ensures)))

pub loop-command-preserved : goal.loop-command-preserved
loop-command-preserved c =
    given_more (reads.submitting c.args.self.now) command_of c.args.commands.now c.loop-command.command-index c.command-item.result None c.loop-command-test.true c.command-item.is c.loop-command.invariant
    (sym c.in_ok-untried.ensures
    ∙ told_none (λ r. submit (resubmission_told r)) c.in_ok-untried.untried (sym c.is_some.ensures ∙ c.if-is_some.false))

pub returns : goal.returns
returns c = sym (given_none (reads.submitting c.args.self.now) command_of c.args.commands.now c.loop-command.command-index c.loop-command-test.false c.loop-command.invariant)
