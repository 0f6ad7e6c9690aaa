-- The node of the path waits for a lock, or there is none.
use Rattle.std.proofs.Common.{refl, ◌∙◌, ap}
use Rattle.std.specs.Prelude.{Some, None}
use Rattle.worker_job.specs.Inside.Held.{waits, stands}
use Rattle.worker_job.proofs.Wanted.{node_found}
use Rattle.worker_job.proofs.held.Stands.waits.Goals as goal

pub returns-in-None : goal.returns-in-None
returns-in-None c =
    let f = c.args.self.now.object.now in
    ap (stands waits) (node_found f.manifest f.journal c.state.result.now c.args.path.now c.args.path.now None c.state.ensures refl c.in-None.ensures)

pub returns-in-Some : goal.returns-in-Some
returns-in-Some c =
    let f = c.args.self.now.object.now in
    c.waits.ensures
    ∙ ap (stands waits) (node_found f.manifest f.journal c.state.result.now c.args.path.now c.args.path.now (Some c.in-Some.node.now) c.state.ensures refl c.in-Some.ensures)
