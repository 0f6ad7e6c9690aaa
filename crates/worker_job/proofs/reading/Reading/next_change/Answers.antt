-- The first step that applies, where those before it do not.
use Rattle.std.proofs.Common.{◌≡◌, sym, ◌∙◌, ◌∷◌, subst}
use Rattle.std.specs.Prelude.{IfOk}
use Rattle.next_step.specs.Next.{Next}
use Rattle.worker_job.specs.Told.{next_told}
use Rattle.worker_job.specs.Readings as reads
use Rattle.worker_job.proofs.Chains.{skips, chooses}
use Rattle.worker_job.proofs.reading.Reading.next_change.Goals as goal

pub returns-in-Some : goal.returns-in-Some
returns-in-Some c =
    let r = c.args.self.now in
    chooses c.in-Some.next c.in_ok-next.field-0 (reads.resume r) (reads.create_one r ∷ reads.save_one r ∷ reads.last_steps r) c.in_ok-next.ensures c.in-Some.is

pub returns-in-Some-2 : goal.returns-in-Some-2
returns-in-Some-2 c =
    let r = c.args.self.now in
    chooses c.in-Some-2.next c.in_ok-next-2.field-0 (reads.create_one r) (reads.save_one r ∷ reads.last_steps r) c.in_ok-next-2.ensures c.in-Some-2.is
    ∙ sym
    (skips c.in_ok-next.field-0 (reads.resume r) (reads.create_one r ∷ reads.save_one r ∷ reads.last_steps r) c.in_ok-next.ensures c.in_default.is)

pub returns-in-Some-3 : goal.returns-in-Some-3
returns-in-Some-3 c =
    let r = c.args.self.now in
    chooses c.in-Some-3.next c.in_ok-next-3.field-0 (reads.save_one r) (reads.last_steps r) c.in_ok-next-3.ensures c.in-Some-3.is
    ∙ sym
    (skips c.in_ok-next.field-0 (reads.resume r) (reads.create_one r ∷ reads.save_one r ∷ reads.last_steps r) c.in_ok-next.ensures c.in_default.is
    ∙ skips c.in_ok-next-2.field-0 (reads.create_one r) (reads.save_one r ∷ reads.last_steps r) c.in_ok-next-2.ensures c.in_default-2.is)

pub returns : goal.returns
returns c =
    let r = c.args.self.now in
    subst (λ (first : Next). IfOk c.next_last.result (λ n. next_told n ≡ first))
    (sym
    (skips c.in_ok-next.field-0 (reads.resume r) (reads.create_one r ∷ reads.save_one r ∷ reads.last_steps r) c.in_ok-next.ensures c.in_default.is
    ∙ skips c.in_ok-next-2.field-0 (reads.create_one r) (reads.save_one r ∷ reads.last_steps r) c.in_ok-next-2.ensures c.in_default-2.is
    ∙ skips c.in_ok-next-3.field-0 (reads.save_one r) (reads.last_steps r) c.in_ok-next-3.ensures c.in_default-3.is))
    c.next_last.ensures
