-- What was left fits what the views show, and no more is left where no request is lost.
use Rattle.std.proofs.Common.{ap, refl}
use Rattle.tree_state.specs.declared.kinds.WantKind.TheVariants as kind
use Rattle.law.specs.Documents.{Text}
use Rattle.next_step.specs.Replies.{seen}
use Rattle.worker_job.specs.Jobs.{OneJob}
use Rattle.worker_job.specs.Inside.Filing.{is_unknown, to_file}
use Rattle.worker_job.proofs.Filing.{ready, moved_on, unknown_before}
use Rattle.worker_job.proofs.job.Job.left_to_file.Goals as goal

pub moved-requires : goal.moved-requires
moved-requires c =
    let j = c.args.self.now in
    let shown = c.in-Some-Some.ensures' in
    let now = c.args.book.now.requests in
    let view = seen c.in-Some-Some.field-0-1.now.version shown.book c.in-Some-Some.field-0-1.now.tick in
    ready kind.Lock (λ (w : Text) a. is_unknown w now a) j c.self.inside.workflow (ap (λ (j : OneJob). j.workflow) c.self.view_is) c.in-Some-Some.flow.now c.in-Some-Some.ensures
    c.in-Some.object.now c.in-Some.ensures c.state.result.now c.state.ensures (to_file j.workflow) c.args.ahead j.views.book view shown.viewed
    (unknown_before j.workflow shown.book.requests now (c.requires.more view shown.viewed)) c.requires.fits

pub returns-in-Some : goal.returns-in-Some
returns-in-Some c =
    let j = c.args.self.now in
    let now = c.args.book.now.requests in
    moved_on kind.Lock (λ (w : Text) a. is_unknown w now a) j c.self.inside.workflow (ap (λ (j : OneJob). j.workflow) c.self.view_is) c.in-Some-Some.flow.now c.in-Some-Some.ensures
    c.in-Some.object.now c.in-Some.ensures c.state.result.now c.state.ensures c.moved.result c.moved.ensures
