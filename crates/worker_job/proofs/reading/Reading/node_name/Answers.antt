use Rattle.std.specs.Prelude.{Some, None}
use Rattle.worker_job.proofs.Wanted.{named}
use Rattle.worker_job.proofs.reading.Reading.node_name.Goals as goal

pub returns-in-None : goal.returns-in-None
returns-in-None c =
    let f = c.args.self.now.object.now in
    named f.manifest f.journal c.state.result.now c.as_slice.result.now c.args.path.now.sels None c.state.ensures c.as_slice.ensures c.in-None.ensures

pub returns-in-Some : goal.returns-in-Some
returns-in-Some c =
    let f = c.args.self.now.object.now in
    named f.manifest f.journal c.state.result.now c.as_slice.result.now c.args.path.now.sels (Some c.in-Some.node.now) c.state.ensures c.as_slice.ensures c.in-Some.ensures
