-- Some steps were made from the job's first on, and the job goes on.
use Rattle.wf_object.specs.Documents.{law_of}
use Rattle.wf_object.specs.Kept.{begins, justified}
use Rattle.reconcile_core.specs.Inside.{Going}
use Rattle.reconcile_core.proofs.whole_job.finish.Given as goal

abbrev pub invariant-calls : goal.invariant-calls
invariant-calls g l =
    Going begins justified g.C.Client.seen g.C.Client.law g.C.Client.place g.C.Client.faults g.C.Client.lag g.C.Client.others
    (law_of l.document) l.fn.job.workflow l.fn.client l.job l.client
