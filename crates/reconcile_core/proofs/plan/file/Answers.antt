-- The book was read, it does not know the key, and with the request it is what the entry leads to.
use Rattle.std.proofs.Common.{◌∙◌, ap, option_map}
use Rattle.books.specs.declared.Request.{Request}
use Rattle.tree_types.specs.declared.entry.Entry.TheVariants.{File}
use Rattle.law.specs.Contents.{OfLocks}
use Rattle.next_step.specs.Replies.{seen}
use Rattle.wf_object.specs.Kept.{law_book}
use Rattle.reconcile_core.proofs.Planning.{shown_book, file_has_book, unknown_in, file_plan}
use Rattle.reconcile_core.proofs.plan.file.Goals as goal

pub unreachable-requires : goal.unreachable-requires
unreachable-requires c = file_has_book c.args.job.now.workflow c.args.job.now.views c.args.lock.now c.args.key.now c.args.rank.now c.requires c.in_default.ensures

pub filed-requires : goal.filed-requires
filed-requires c =
    let s = c.in-Some.seen.now in
    let b = law_book c.in-Some-locks.book.now in
    let viewed = shown_book s c.args.job.now.views.book c.in-Some.ensures b c.in-Some-locks.ensures in
    ap (option_map (λ (r : Request). r.state)) (unknown_in c.args.job.now.workflow c.args.job.now.views c.args.lock.now c.args.key.now c.args.rank.now c.requires (seen s.version b s.tick) viewed)

pub returns : goal.returns
returns c =
    let s = c.in-Some.seen.now in
    let b = law_book c.in-Some-locks.book.now in
    let viewed = shown_book s c.args.job.now.views.book c.in-Some.ensures b c.in-Some-locks.ensures in
    file_plan c.args.job.now.workflow c.args.job.now.views c.args.lock.now c.args.key.now c.args.rank.now c.requires (seen s.version b s.tick) viewed
    record { content = c.in_ok-of_locks.field-0; change = File c.in_ok-copy.field-0 c.in_ok-copy-2.field-0 c.in_ok-copy-3.field-0 }
    (ap (λ x. File x c.in_ok-copy-2.field-0 c.in_ok-copy-3.field-0) c.in_ok-copy.ensures ∙ ap (λ x. File c.args.lock.now x c.in_ok-copy-3.field-0) c.in_ok-copy-2.ensures ∙ ap (λ x. File c.args.lock.now c.args.key.now x) c.in_ok-copy-3.ensures)
    (c.in_ok-of_locks.ensures ∙ ap (λ x. OfLocks (law_book x)) c.in_ok-next.ensures)
