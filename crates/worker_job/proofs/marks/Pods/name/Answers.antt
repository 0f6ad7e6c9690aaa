-- The name of the node at the path of the pod.
use Rattle.std.proofs.Common.{sym, ap, ◌∙◌}
use Rattle.std.specs.Prelude.{Some, None}
use Rattle.worker_job.specs.Inside.Marks.{pod_name}
use Rattle.worker_job.proofs.Wanted.{named}
use Rattle.worker_job.proofs.marks.Pods.name.Goals as goal

pub returns-in-None : goal.returns-in-None
returns-in-None c =
    let f = c.args.self.now.object.now in
    named f.manifest f.journal c.state.result.now c.as_slice.result.now c.in-Pod.path.sels None c.state.ensures c.as_slice.ensures c.in-None.ensures
    ∙ sym (ap (pod_name f) c.in-Pod.is)

pub returns-in-Some : goal.returns-in-Some
returns-in-Some c =
    let f = c.args.self.now.object.now in
    named f.manifest f.journal c.state.result.now c.as_slice.result.now c.in-Pod.path.sels (Some c.in-Some.node.now) c.state.ensures c.as_slice.ensures c.in-Some.ensures
    ∙ sym (ap (pod_name f) c.in-Pod.is)
