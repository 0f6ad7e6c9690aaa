use Rattle.std.proofs.Common.{◌∙◌, arith}
use Rattle.std.specs.Prelude.{Some, None}
use Rattle.tree_state.specs.declared.kinds.WantKind.TheVariants as kind
use Rattle.worker_job.specs.Readings as reads
use Rattle.worker_job.proofs.Wanted.{wanted, granting_only}
use Rattle.worker_job.proofs.Holding.{none_granted, one_granted}
use Rattle.worker_job.proofs.reading.Reading.first_holding.Goals as goal

pub returns-in-None : goal.returns-in-None
returns-in-None c =
    let r = c.args.self.now in
    wanted r.object.now.manifest r.object.now.journal c.state.result.now kind.Lock (reads.granting r) None (granting_only r) c.state.ensures c.in-None.ensures

pub returns-in-Some : goal.returns-in-Some
returns-in-Some c =
    let r = c.args.self.now in
    c.holding.ensures
    ∙ wanted r.object.now.manifest r.object.now.journal c.state.result.now kind.Lock (reads.granting r) (Some c.in-Some.want.now) (granting_only r) c.state.ensures c.in-Some.ensures

pub returns-in-Nothing : goal.returns-in-Nothing
returns-in-Nothing c = none_granted c.args.self.now c.in-Nothing.ensures

pub returns-then-len-gt1 : goal.returns-then-len-gt1
returns-then-len-gt1 c =
    one_granted c.args.self.now c.in-One.path.now c.in-One.ensures.0 c.in-One.ensures.1 c.in-One.ensures.2
    (omega (arith, c.if-len-gt1.true, c.len.ensures))
