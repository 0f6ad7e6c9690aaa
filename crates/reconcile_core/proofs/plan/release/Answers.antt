-- The book was read, it shows the key holding, and with the release it is what the entry leads to.
use Rattle.std.proofs.Common.{◌∙◌, ap}
use Rattle.tree_types.specs.declared.entry.Entry.TheVariants.{Release}
use Rattle.law.specs.Contents.{OfLocks}
use Rattle.next_step.specs.Replies.{seen}
use Rattle.wf_object.specs.Kept.{law_book}
use Rattle.reconcile_core.proofs.Planning.{shown_book, release_has_book, holding_in, release_plan}
use Rattle.reconcile_core.proofs.plan.release.Goals as goal

pub unreachable-requires : goal.unreachable-requires
unreachable-requires c = release_has_book c.args.job.now.workflow c.args.job.now.views c.args.lock.now c.args.key.now c.requires c.in_default.ensures

pub released-requires : goal.released-requires
released-requires c =
    let s = c.in-Some.seen.now in
    let b = law_book c.in-Some-locks.book.now in
    let viewed = shown_book s c.args.job.now.views.book c.in-Some.ensures b c.in-Some-locks.ensures in
    holding_in c.args.job.now.workflow c.args.job.now.views c.args.lock.now c.args.key.now c.requires (seen s.version b s.tick) viewed

pub returns : goal.returns
returns c =
    let s = c.in-Some.seen.now in
    let b = law_book c.in-Some-locks.book.now in
    let viewed = shown_book s c.args.job.now.views.book c.in-Some.ensures b c.in-Some-locks.ensures in
    release_plan c.args.job.now.workflow c.args.job.now.views c.args.lock.now c.args.key.now c.requires (seen s.version b s.tick) viewed
    record { content = c.in_ok-of_locks.field-0; change = Release c.in_ok-copy.field-0 c.in_ok-copy-2.field-0 }
    (ap (λ x. Release x c.in_ok-copy-2.field-0) c.in_ok-copy.ensures ∙ ap (λ x. Release c.args.lock.now x) c.in_ok-copy-2.ensures)
    (c.in_ok-of_locks.ensures ∙ ap (λ x. OfLocks (law_book x)) c.in_ok-next.ensures)
