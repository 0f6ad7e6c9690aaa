-- The workflow that was kept is the one that the views show, and the marks that were kept are of it.
use Rattle.std.proofs.Common.{◌≡◌, sym, ap, ◌∙◌, subst}
use Rattle.std.specs.Prelude.{Option, Some, option_map, option_and_then}
use Rattle.law.specs.Contents.{Flow, flow_in}
use Rattle.next_step.specs.Replies.{seen}
use Rattle.worker_job.specs.Jobs.{OneJob}
use Rattle.worker_job.specs.Inside.{looks_of, flow_of, flow_seen}
use Rattle.worker_job.specs.Inside.Marks.{MarksFit}
use Rattle.worker_job.proofs.job.Job.marks_at.Goals as goal

pub behind-requires-clause-more : goal.behind-requires-clause-more
behind-requires-clause-more c =
    let s = c.in-Some.flow in
    c.requires (seen s.version c.in-Some-workflow.before.now s.tick)
    (ap (λ (j : OneJob). j.views.flow) (sym c.self.view_is)
    ∙ ap (option_and_then flow_seen) c.in-Some.is
    ∙ ap (option_map (λ (f : Flow). seen s.version f s.tick)) (sym c.in-Some-workflow.ensures))

pub behind-requires-clause-marked : goal.behind-requires-clause-marked
behind-requires-clause-marked c =
    let kept : flow_of c.self.inside ≡ Some c.in-Some-workflow.before.now =
    ap (option_and_then (λ s. flow_in (Some s.content))) c.in-Some.is ∙ sym c.in-Some-workflow.ensures in
    subst (λ (o : Option Flow). MarksFit (looks_of c.self.inside) o c.self.inside.marks) kept c.self.invariant.marked
