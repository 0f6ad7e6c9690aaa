-- The first step that applies, where those before it do not.
use Rattle.std.proofs.Common.{sym, ◌∙◌, ◌∷◌, []}
use Rattle.worker_job.specs.Readings as reads
use Rattle.worker_job.proofs.Chains.{skips, chooses}
use Rattle.worker_job.proofs.reading.Reading.next_last.Goals as goal

pub returns-in-Some : goal.returns-in-Some
returns-in-Some c =
    let r = c.args.self.now in
    chooses c.in-Some.next c.in_ok-next.field-0 (reads.release_one r) (reads.resubmit r ∷ []) c.in_ok-next.ensures c.in-Some.is

pub returns-in-Some-2 : goal.returns-in-Some-2
returns-in-Some-2 c =
    let r = c.args.self.now in
    chooses c.in-Some-2.next c.in_ok-next-2.field-0 (reads.resubmit r) ([]) c.in_ok-next-2.ensures c.in-Some-2.is
    ∙ sym
    (skips c.in_ok-next.field-0 (reads.release_one r) (reads.resubmit r ∷ []) c.in_ok-next.ensures c.in_default.is)

pub returns : goal.returns
returns c =
    let r = c.args.self.now in
    sym
    (skips c.in_ok-next.field-0 (reads.release_one r) (reads.resubmit r ∷ []) c.in_ok-next.ensures c.in_default.is
    ∙ skips c.in_ok-next-2.field-0 (reads.resubmit r) ([]) c.in_ok-next-2.ensures c.in_default-2.is)
