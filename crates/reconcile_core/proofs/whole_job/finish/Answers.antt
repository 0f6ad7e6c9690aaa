-- Each step goes on from those before it, and the last one ends the job.
use Rattle.std.proofs.Common.{◌∙◌, Ok, ap, refl, sym}
use Rattle.wf_object.specs.Documents.{law_of}
use Rattle.wf_object.specs.Kept.{begins, justified}
use Rattle.reconcile_core.specs.Reconciled.{returned}
use Rattle.reconcile_core.proofs.WholeJobs.{never_idle, going_first, going_on, told_whole, err_not_called, not_called_ended}
use Rattle.reconcile_core.proofs.whole_job.finish.Goals as goal

pub calls-init : goal.calls-init
calls-init g c =
    going_first begins justified g.C.Client.seen g.C.Client.law g.C.Client.place g.C.Client.faults g.C.Client.lag
    g.C.Client.others (law_of c.args.document.now) c.args.job.now.workflow c.args.client.now c.views_stay.ensures
    c.args.job.now.workflow c.args.job.now refl (ap (λ v. record { workflow = c.args.job.now.workflow; views = v }) c.requires.begun)

pub step-requires-clause-law : goal.step-requires-clause-law
step-requires-clause-law g c = c.calls.invariant.leaves.same_law ∙ c.requires.law

pub unreachable-requires : goal.unreachable-requires
unreachable-requires g c =
    never_idle (law_of c.args.document.now) c.calls.job.workflow (g.C.Client.seen c.calls.client) c.calls.job.views
    c.step.new.job.views (g.C.Client.lag c.calls.client) (g.C.Client.others c.calls.client) (g.C.Client.seen c.step.new.client)
    (g.C.Client.lag c.step.new.client) (g.C.Client.others c.step.new.client) c.step.result
    (c.in-Ok-Idle.is ∙ ap Ok c.in-Ok-Idle.field-0-is) c.step.ensures.made

pub calls-preserved : goal.calls-preserved
calls-preserved g c =
    going_on begins justified g.C.Client.seen g.C.Client.law g.C.Client.place g.C.Client.faults g.C.Client.lag
    g.C.Client.others (law_of c.args.document.now) c.args.job.now.workflow c.args.client.now c.calls.job c.calls.client
    c.calls.invariant c.step.result c.step.new.job c.step.new.client c.step.ensures.leaves c.step.ensures.made
    c.step.ensures.workflow c.step.ensures.views (c.in-Ok-Called.is ∙ ap Ok c.in-Ok-Called.field-0-is)

pub returns-in-Ok-Ended : goal.returns-in-Ok-Ended
returns-in-Ok-Ended g c =
    let told = c.in-Ok-Ended.is ∙ ap Ok c.in-Ok-Ended.field-0-is in
    let all = told_whole begins justified g.C.Client.seen g.C.Client.law g.C.Client.place g.C.Client.faults g.C.Client.lag
    g.C.Client.others (law_of c.args.document.now) c.args.job.now.workflow c.args.client.now c.calls.job c.calls.client
    c.calls.invariant c.step.result c.step.new.job c.step.new.client c.step.ensures.leaves c.step.ensures.made
    (Ok tt) (sym (ap returned told)) (not_called_ended c.step.result told) g.C.Client.rose c.views_stay.ensures
    c.step.ensures.fault in
    record { leaves = all.leaves; made = all.made; alone = all.alone; conflict = all.conflict; large = all.large; fault = all.fault }

pub returns-in-Err : goal.returns-in-Err
returns-in-Err g c =
    let all = told_whole begins justified g.C.Client.seen g.C.Client.law g.C.Client.place g.C.Client.faults g.C.Client.lag
    g.C.Client.others (law_of c.args.document.now) c.args.job.now.workflow c.args.client.now c.calls.job c.calls.client
    c.calls.invariant c.step.result c.step.new.job c.step.new.client c.step.ensures.leaves c.step.ensures.made
    _ (sym (ap returned c.in-Err.is)) (err_not_called c.step.result c.in-Err.fault c.in-Err.is) g.C.Client.rose c.views_stay.ensures
    c.step.ensures.fault in
    record { leaves = all.leaves; made = all.made; alone = all.alone; conflict = all.conflict; large = all.large; fault = all.fault }
