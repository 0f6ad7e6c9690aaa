-- A job that ends without a call leaves the client as it was.
use Rattle.std.proofs.Common.{◌≡◌, ◌∙◌, sym, ap}
use Rattle.std.specs.Prelude.{option_copied}
use Rattle.next_step.specs.Runner.{already_finished, no_outcome, not_due}
use Rattle.wf_object.specs.Documents.{law_of}
use Rattle.wf_object.specs.Kept.{begins, justified}
use Rattle.pod_runner.specs.Inside.{next_told}
use Rattle.pod_runner.proofs.Leaving.{leaves_itself}
use Rattle.pod_runner.proofs.Ending.{end_rested}
use Rattle.pod_runner.proofs.calls.end.Goals as goal

pub finish-requires-clause-next : goal.finish-requires-clause-next
finish-requires-clause-next g c = sym c.in_ok-coming.ensures ∙ ap next_told c.in-Finish.is

pub returns-in_err-coming-clause-leaves : goal.returns-in_err-coming-clause-leaves
returns-in_err-coming-clause-leaves g c = leaves_itself begins justified g.C.Client.seen g.C.Client.law g.C.Client.place g.C.Client.faults c.args.client.now

pub returns-in-AlreadyFinished-clause-leaves : goal.returns-in-AlreadyFinished-clause-leaves
returns-in-AlreadyFinished-clause-leaves g c = leaves_itself begins justified g.C.Client.seen g.C.Client.law g.C.Client.place g.C.Client.faults c.args.client.now

pub returns-in-NoOutcome-clause-leaves : goal.returns-in-NoOutcome-clause-leaves
returns-in-NoOutcome-clause-leaves g c = leaves_itself begins justified g.C.Client.seen g.C.Client.law g.C.Client.place g.C.Client.faults c.args.client.now

pub returns-in-NotDue-clause-leaves : goal.returns-in-NotDue-clause-leaves
returns-in-NotDue-clause-leaves g c = leaves_itself begins justified g.C.Client.seen g.C.Client.law g.C.Client.place g.C.Client.faults c.args.client.now

pub returns-in-AlreadyFinished-clause-made : goal.returns-in-AlreadyFinished-clause-made
returns-in-AlreadyFinished-clause-made g c = λ told.
    end_rested c.args.job.now c.args.seen.now c.in-Some.pod.now (sym c.pod.ensures ∙ ap option_copied c.in-Some.is)
    (law_of c.args.document.now) already_finished (sym (ap next_told c.in-AlreadyFinished.is) ∙ c.in_ok-coming.ensures) tt
    (g.C.Client.seen c.args.client.now) (g.C.Client.others c.args.client.now)

pub returns-in-NoOutcome-clause-made : goal.returns-in-NoOutcome-clause-made
returns-in-NoOutcome-clause-made g c = λ told.
    end_rested c.args.job.now c.args.seen.now c.in-Some.pod.now (sym c.pod.ensures ∙ ap option_copied c.in-Some.is)
    (law_of c.args.document.now) no_outcome (sym (ap next_told c.in-NoOutcome.is) ∙ c.in_ok-coming.ensures) tt
    (g.C.Client.seen c.args.client.now) (g.C.Client.others c.args.client.now)

pub returns-in-NotDue-clause-made : goal.returns-in-NotDue-clause-made
returns-in-NotDue-clause-made g c = λ told.
    end_rested c.args.job.now c.args.seen.now c.in-Some.pod.now (sym c.pod.ensures ∙ ap option_copied c.in-Some.is)
    (law_of c.args.document.now) (not_due c.in-NotDue.due) (sym (ap next_told c.in-NotDue.is) ∙ c.in_ok-coming.ensures) tt
    (g.C.Client.seen c.args.client.now) (g.C.Client.others c.args.client.now)
