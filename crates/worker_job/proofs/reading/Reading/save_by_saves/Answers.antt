-- The saves that the view has answer, and what is left is by them.
use Rattle.std.proofs.Common.{◌≡◌, subst}
use Rattle.std.specs.Prelude.{IfOk}
use Rattle.next_step.specs.Next.{Step}
use Rattle.worker_job.specs.Readings as reads
use Rattle.worker_job.specs.Readings.{step_told}
use Rattle.law.specs.Justified.{wants_of}
use Rattle.tree_state.specs.declared.kinds.WantKind.TheVariants as kind
use Rattle.ahead.specs.Left.{AheadOf}
use Rattle.worker_job.specs.Inside.Saving.{is_left}
use Rattle.worker_job.proofs.Saving.{kept_fits}
use Rattle.worker_job.proofs.Wanted.{saves_there}
use Rattle.worker_job.proofs.reading.Reading.save_by_saves.Goals as goal

pub save_into-requires : goal.save_into-requires
save_into-requires c =
    let r = c.args.self.now in
    record {
      to_save = kept_fits (λ ss. AheadOf kind.Save (is_left (reads.workflow r) ss) r.to_save.now (wants_of r.object.now)) (reads.views r).saves c.in-Some.saves.now
          c.in-Some.field-0-1 c.in-Some.ensures (λ k viewed. c.requires.to_save.fits k viewed);
    }

pub returns-in-Some : goal.returns-in-Some
returns-in-Some c =
    let r = c.args.self.now in
    subst (λ (answer : Step). IfOk c.save_into.result (λ step. step_told step ≡ answer))
    (saves_there r (reads.views r).saves c.in-Some.saves.now c.in-Some.field-0-1 (λ ss. reads.asked r (reads.saving r ss)) c.in-Some.ensures)
    c.save_into.ensures
