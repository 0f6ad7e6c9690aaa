-- Each workflow of the document is submitted.
use Rattle.std.proofs.Common.{List, sym, subst}
use Rattle.growth.specs.Growth.{Among}
use Rattle.wf_manifest.specs.declared.manifest.Manifest.{Manifest}
use Rattle.sim_schedule.proofs.Submitting.{among_at}
use Rattle.sim_schedule.proofs.submit.submit_all.Goals as goal

pub submit-requires-clause-given : goal.submit-requires-clause-given
submit-requires-clause-given g c =
    subst (λ (ms : List Manifest). Among c.index-workflows-i.result ms) c.as_slice-workflows.ensures
    (subst (λ (m : Manifest). Among m c.as_slice-workflows.result.now) (sym c.index-workflows-i.is)
    (among_at c.as_slice-workflows.result.now c.workflows.i c.index-workflows-i.result c.workflows-test.true))

pub submit-requires-clause-valid : goal.submit-requires-clause-valid
submit-requires-clause-valid g c =
    c.requires.valid c.index-workflows-i.result
    (subst (λ (ms : List Manifest). Among c.index-workflows-i.result ms) c.as_slice-workflows.ensures
    (subst (λ (m : Manifest). Among m c.as_slice-workflows.result.now) (sym c.index-workflows-i.is)
    (among_at c.as_slice-workflows.result.now c.workflows.i c.index-workflows-i.result c.workflows-test.true)))
