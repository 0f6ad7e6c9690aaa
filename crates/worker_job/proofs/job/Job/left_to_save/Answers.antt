-- What was left fits what the views show, and no more is left where there are more saves.
use Rattle.std.proofs.Common.{ap, refl}
use Rattle.tree_state.specs.declared.kinds.WantKind.TheVariants as kind
use Rattle.law.specs.Documents.{Text}
use Rattle.next_step.specs.Replies.{seen}
use Rattle.worker_job.specs.Jobs.{OneJob}
use Rattle.worker_job.specs.Inside.Saving.{is_left}
use Rattle.worker_job.proofs.Filing.{ready, moved_on}
use Rattle.worker_job.proofs.Saving.{left_before}
use Rattle.worker_job.proofs.job.Job.left_to_save.Goals as goal

pub moved-requires : goal.moved-requires
moved-requires c =
    let j = c.args.self.now in
    let shown = c.in-Some-Some.ensures' in
    let now = c.args.saves.now in
    let view = seen c.in-Some-Some.field-0-1.now.version shown.saved c.in-Some-Some.field-0-1.now.tick in
    ready kind.Save (λ (w : Text) a. is_left w now a) j c.self.inside.workflow (ap (λ (j : OneJob). j.workflow) c.self.view_is) c.in-Some-Some.flow.now c.in-Some-Some.ensures
    c.in-Some.object.now c.in-Some.ensures c.state.result.now c.state.ensures (is_left j.workflow) c.args.ahead j.views.saves view shown.viewed
    (left_before j.workflow shown.saved now (c.requires.more view shown.viewed)) c.requires.fits

pub returns-in-Some : goal.returns-in-Some
returns-in-Some c =
    let j = c.args.self.now in
    let now = c.args.saves.now in
    moved_on kind.Save (λ (w : Text) a. is_left w now a) j c.self.inside.workflow (ap (λ (j : OneJob). j.workflow) c.self.view_is) c.in-Some-Some.flow.now c.in-Some-Some.ensures
    c.in-Some.object.now c.in-Some.ensures c.state.result.now c.state.ensures c.moved.result c.moved.ensures
