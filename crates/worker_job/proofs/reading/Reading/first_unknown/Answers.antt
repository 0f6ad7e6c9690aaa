-- What is unknown is among what is left.
use Rattle.std.proofs.Common.{◌∙◌}
use Rattle.std.specs.Prelude.{Some, None}
use Rattle.tree_state.specs.declared.kinds.WantKind.TheVariants as kind
use Rattle.worker_job.specs.Readings as reads
use Rattle.worker_job.proofs.Filing.{filing_among}
use Rattle.worker_job.proofs.Wanted.{wanted, filing_only}
use Rattle.worker_job.proofs.reading.Reading.first_unknown.Goals as goal

pub first-requires : goal.first-requires
first-requires c = filing_among c.args.self.now c.state.result.now c.state.ensures c.requires.to_file

pub returns-in-None : goal.returns-in-None
returns-in-None c =
    let r = c.args.self.now in
    wanted r.object.now.manifest r.object.now.journal c.state.result.now kind.Lock (reads.filing r) None (filing_only r) c.state.ensures c.in-None.ensures

pub returns-in-Some : goal.returns-in-Some
returns-in-Some c =
    let r = c.args.self.now in
    c.unknown.ensures
    ∙ wanted r.object.now.manifest r.object.now.journal c.state.result.now kind.Lock (reads.filing r) (Some c.in-Some.want.now) (filing_only r) c.state.ensures c.in-Some.ensures
