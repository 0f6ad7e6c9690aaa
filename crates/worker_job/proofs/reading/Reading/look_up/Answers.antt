-- The first want of the kind.
use Rattle.std.proofs.Common.{◌≡◌, subst}
use Rattle.std.specs.Prelude.{Some, None, IfOk}
use Rattle.tree_state.specs.declared.kinds.WantKind.TheVariants as kind
use Rattle.next_step.specs.Next.{Step}
use Rattle.worker_job.specs.Readings as reads
use Rattle.worker_job.specs.Readings.{step_told}
use Rattle.worker_job.proofs.Wanted.{wanted_first, looking_each}
use Rattle.worker_job.proofs.reading.Reading.look_up.Goals as goal

pub returns-in-None : goal.returns-in-None
returns-in-None c =
    let r = c.args.self.now in
    wanted_first r.object.now.manifest r.object.now.journal c.state.result.now kind.LookUp (reads.looking r) None (looking_each r) c.state.ensures c.in-None.ensures

pub returns-in-Some : goal.returns-in-Some
returns-in-Some c =
    let r = c.args.self.now in
    subst (λ (wanted : Step). IfOk c.looking.result (λ step. step_told step ≡ wanted))
    (wanted_first r.object.now.manifest r.object.now.journal c.state.result.now kind.LookUp (reads.looking r) (Some c.in-Some.want.now) (looking_each r) c.state.ensures c.in-Some.ensures)
    c.looking.ensures
