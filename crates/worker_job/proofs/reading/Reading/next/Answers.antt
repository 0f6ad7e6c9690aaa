-- The first step that applies, where those before it do not.
use Rattle.std.proofs.Common.{◌≡◌, sym, ◌∙◌, ◌∷◌, subst}
use Rattle.std.specs.Prelude.{IfOk}
use Rattle.next_step.specs.Next.{Next}
use Rattle.worker_job.specs.Told.{next_told}
use Rattle.worker_job.specs.Readings as reads
use Rattle.worker_job.proofs.Chains.{skips, chooses}
use Rattle.worker_job.proofs.reading.Reading.next.Goals as goal

pub returns-in-Some : goal.returns-in-Some
returns-in-Some c =
    let r = c.args.self.now in
    chooses c.in-Some.next c.read_book.result (reads.read_book r) (reads.read_pod r ∷ reads.start r ∷ reads.answering_steps r) c.read_book.ensures c.in-Some.is

pub returns-in-Some-2 : goal.returns-in-Some-2
returns-in-Some-2 c =
    let r = c.args.self.now in
    chooses c.in-Some-2.next c.in_ok-next.field-0 (reads.read_pod r) (reads.start r ∷ reads.answering_steps r) c.in_ok-next.ensures c.in-Some-2.is
    ∙ sym
    (skips c.read_book.result (reads.read_book r) (reads.read_pod r ∷ reads.start r ∷ reads.answering_steps r) c.read_book.ensures c.in_default.is)

pub returns-in-Some-start : goal.returns-in-Some-start
returns-in-Some-start c =
    let r = c.args.self.now in
    chooses c.in-Some-start.next c.start.result (reads.start r) (reads.answering_steps r) c.start.ensures c.in-Some-start.is
    ∙ sym
    (skips c.read_book.result (reads.read_book r) (reads.read_pod r ∷ reads.start r ∷ reads.answering_steps r) c.read_book.ensures c.in_default.is
    ∙ skips c.in_ok-next.field-0 (reads.read_pod r) (reads.start r ∷ reads.answering_steps r) c.in_ok-next.ensures c.in_default-2.is)

pub returns : goal.returns
returns c =
    let r = c.args.self.now in
    subst (λ (first : Next). IfOk c.next_answer.result (λ n. next_told n ≡ first))
    (sym
    (skips c.read_book.result (reads.read_book r) (reads.read_pod r ∷ reads.start r ∷ reads.answering_steps r) c.read_book.ensures c.in_default.is
    ∙ skips c.in_ok-next.field-0 (reads.read_pod r) (reads.start r ∷ reads.answering_steps r) c.in_ok-next.ensures c.in_default-2.is
    ∙ skips c.start.result (reads.start r) (reads.answering_steps r) c.start.ensures c.in_default-start.is))
    c.next_answer.ensures
