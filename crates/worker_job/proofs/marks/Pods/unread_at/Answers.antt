-- A pod that runs is asked for, and no look at its name was found.
use Rattle.std.proofs.Common.{map}
use Rattle.worker_job.specs.Inside.{look_told}
use Rattle.worker_job.proofs.Looking.{unlooked}
use Rattle.worker_job.proofs.Running.{running_unread}
use Rattle.worker_job.proofs.marks.Pods.unread_at.Goals as goal

pub returns-in-None : goal.returns-in-None
returns-in-None c =
    let pods = c.args.self.now in
    let n = c.in_ok-node.node.now in
    running_unread pods.object.now c.state.result.now c.args.path.now n (map look_told pods.looks.now) c.state.ensures c.in_ok-node.ensures c.waits_ask.ensures c.in-Pod.is c.in-Running.is
    (unlooked n.name pods.looks.now c.in-None.ensures)
