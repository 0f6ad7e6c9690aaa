-- The first step that applies, where those before it do not.
use Rattle.std.proofs.Common.{◌≡◌, sym, ◌∙◌, ◌∷◌, subst}
use Rattle.std.specs.Prelude.{IfOk}
use Rattle.std.proofs.lemmas.Result.{IfOk-from_err}
use Rattle.next_step.specs.Next.{Next, first_step}
use Rattle.worker_job.specs.Told.{next_told}
use Rattle.worker_job.specs.Readings as reads
use Rattle.worker_job.proofs.Chains.{skips, chooses}
use Rattle.worker_job.proofs.reading.Reading.next_answer.Goals as goal

pub returns-in-Some : goal.returns-in-Some
returns-in-Some c =
    let r = c.args.self.now in
    chooses c.in-Some.next c.in_ok-next.field-0 (reads.settle r) (reads.grant r ∷ reads.file_one r ∷ reads.waiting_steps r) c.in_ok-next.ensures c.in-Some.is

pub returns-in-Some-2 : goal.returns-in-Some-2
returns-in-Some-2 c =
    let r = c.args.self.now in
    chooses c.in-Some-2.next c.in_ok-next-2.field-0 (reads.grant r) (reads.file_one r ∷ reads.waiting_steps r) c.in_ok-next-2.ensures c.in-Some-2.is
    ∙ sym
    (skips c.in_ok-next.field-0 (reads.settle r) (reads.grant r ∷ reads.file_one r ∷ reads.waiting_steps r) c.in_ok-next.ensures c.in_default.is)

pub returns-in-Some-3 : goal.returns-in-Some-3
returns-in-Some-3 c =
    let r = c.args.self.now in
    chooses c.in-Some-3.next c.in_ok-next-3.field-0 (reads.file_one r) (reads.waiting_steps r) c.in_ok-next-3.ensures c.in-Some-3.is
    ∙ sym
    (skips c.in_ok-next.field-0 (reads.settle r) (reads.grant r ∷ reads.file_one r ∷ reads.waiting_steps r) c.in_ok-next.ensures c.in_default.is
    ∙ skips c.in_ok-next-2.field-0 (reads.grant r) (reads.file_one r ∷ reads.waiting_steps r) c.in_ok-next-2.ensures c.in_default-2.is)

pub returns : goal.returns
returns c =
    let r = c.args.self.now in
    subst (λ (first : Next). IfOk c.next_waiting.result (λ n. next_told n ≡ first))
    (sym
    (skips c.in_ok-next.field-0 (reads.settle r) (reads.grant r ∷ reads.file_one r ∷ reads.waiting_steps r) c.in_ok-next.ensures c.in_default.is
    ∙ skips c.in_ok-next-2.field-0 (reads.grant r) (reads.file_one r ∷ reads.waiting_steps r) c.in_ok-next-2.ensures c.in_default-2.is
    ∙ skips c.in_ok-next-3.field-0 (reads.file_one r) (reads.waiting_steps r) c.in_ok-next-3.ensures c.in_default-3.is))
    c.next_waiting.ensures

pub returns-in_err-next-3 : goal.returns-in_err-next-3
returns-in_err-next-3 c =
    IfOk-from_err c.from_residual-in_err-next-3.result (λ n. next_told n ≡ first_step (reads.answering_steps c.args.self.now))
    c.from_residual-in_err-next-3.ensures.0
