-- What the book knows is of the workflow that was read, and a content of another kind ends the job.
use Rattle.std.proofs.Common.{◌∙◌, sym, ap, option_map}
use Rattle.wf_object.specs.Kept.{law_book}
use Rattle.worker_job.specs.Inside.{book_seen}
use Rattle.worker_job.proofs.Filing.{filing_by}
use Rattle.worker_job.proofs.OtherKinds.{none_by, no_locks}
use Rattle.worker_job.proofs.job.Job.keep_book.Goals as goal

pub set_book-requires-clause-to_file : goal.set_book-requires-clause-to_file
set_book-requires-clause-to_file c =
    let j = c.args.self.now in
    filing_by c.knows_all-filed.result j.workflow j.views.flow (book_seen c.args.snapshot) c.nothing_if-to_file.result c.nothing_if-to_file.ensures c.knows_all-filed.ensures

pub returns-else-is_some-clause-after : goal.returns-else-is_some-clause-after
returns-else-is_some-clause-after c =
    no_locks c.args.self.now.views c.args.snapshot.key c.args.snapshot.version c.args.snapshot.tick c.args.snapshot.content c.requires
    (sym c.locks.ensures ∙ ap (option_map (λ book. law_book book.now)) (none_by c.locks.result (sym c.is_some.ensures ∙ c.if-is_some.false)))
