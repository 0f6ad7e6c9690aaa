-- What the book tells is told by its view; where there is none, no path holds.
use Rattle.std.proofs.Common.{true≢false, sym, ◌∙◌, ap}
use Rattle.sync_locks.specs.Book.{is_held, key_by}
use Rattle.law.specs.Documents.{Text}
use Rattle.worker_job.specs.Readings as reads
use Rattle.worker_job.specs.declared.held.Standing.TheVariants as standing
use Rattle.worker_job.specs.Inside.Held.{such}
use Rattle.worker_job.proofs.Holding.{first_same, held_in, none_in}
use Rattle.worker_job.proofs.reading.Reading.held_over.Goals as goal

pub returns-in-None : goal.returns-in-None
returns-in-None c = λ p is. absurd (true≢false (sym is ∙ none_in c.args.self.now c.in-None.ensures p))

pub returns-in-Some : goal.returns-in-Some
returns-in-Some c =
    let r = c.args.self.now in
    first_same (λ p. is_held (key_by c.workflow.result.now p) c.in-Some.book.now.requests) (reads.is_held r) (such standing.Over r.object.now)
    (λ p. held_in r c.in-Some.book.now c.in-Some.ensures p ∙ ap (λ (w : Text). is_held (key_by w p) c.in-Some.book.now.requests) (sym c.workflow.ensures))
    c.first_by.result c.first_by.ensures
