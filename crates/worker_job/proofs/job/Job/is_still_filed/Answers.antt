-- The workflow that was kept is the one that the views show, and nothing was left of it.
use Rattle.std.proofs.Common.{true, refl, sym, subst}
use Rattle.law.specs.Contents.{Flow}
use Rattle.next_step.specs.Replies.{seen}
use Rattle.worker_job.specs.Jobs.{OneJob, HasMore}
use Rattle.worker_job.specs.Inside.Filing.{FilingFits}
use Rattle.worker_job.proofs.Filing.{shown_flow, still_filed, filed_by_nothing}
use Rattle.worker_job.proofs.job.Job.is_still_filed.Goals as goal

pub adds_no_lock-requires : goal.adds_no_lock-requires
adds_no_lock-requires c =
    let s = c.in-Some.flow.now in
    let shows = c.in-Some.ensures in
    let flow = seen s.version shows.flow s.tick in
    subst (λ (f : Flow). HasMore f c.args.object.now) (sym (shown_flow c.args.self.now s shows c.in-Some-workflow.before.now flow c.in-Some-workflow.ensures shows.viewed))
    (c.requires flow shows.viewed)

pub returns-then-is_nothing : goal.returns-then-is_nothing
returns-then-is_nothing c =
    let j = c.args.self.now in
    still_filed j c.in-Some.flow.now c.in-Some.ensures true c.adds_no_lock.result c.in-Some-workflow.before.now c.args.object.now
    (filed_by_nothing j.workflow j.views.flow j.views.book c.self.inside.to_file (c.is_nothing.ensures.0 c.if-is_nothing.true)
    (subst (λ (j : OneJob). FilingFits c.self.inside.to_file j.workflow j.views.flow j.views.book) c.self.view_is c.self.invariant.to_file))
    c.in-Some-workflow.ensures c.adds_no_lock.ensures refl
