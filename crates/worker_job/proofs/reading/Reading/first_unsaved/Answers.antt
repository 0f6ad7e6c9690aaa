-- What is not saved is among what is left.
use Rattle.std.proofs.Common.{◌∙◌}
use Rattle.std.specs.Prelude.{Some, None}
use Rattle.tree_state.specs.declared.kinds.WantKind.TheVariants as kind
use Rattle.worker_job.specs.Readings as reads
use Rattle.worker_job.proofs.Saving.{saving_among}
use Rattle.worker_job.proofs.Wanted.{wanted, saving_only}
use Rattle.worker_job.proofs.reading.Reading.first_unsaved.Goals as goal

pub first-requires : goal.first-requires
first-requires c = saving_among c.args.self.now c.args.saves.now c.state.result.now c.state.ensures c.requires.to_save

pub returns-in-None : goal.returns-in-None
returns-in-None c =
    let r = c.args.self.now in
    wanted r.object.now.manifest r.object.now.journal c.state.result.now kind.Save (reads.saving r c.args.saves.now) None (saving_only r c.args.saves.now) c.state.ensures c.in-None.ensures

pub returns-in-Some : goal.returns-in-Some
returns-in-Some c =
    let r = c.args.self.now in
    c.unsaved.ensures
    ∙ wanted r.object.now.manifest r.object.now.journal c.state.result.now kind.Save (reads.saving r c.args.saves.now) (Some c.in-Some.want.now) (saving_only r c.args.saves.now) c.state.ensures c.in-Some.ensures
