-- The steps are those of the view of the workflow.
use Rattle.std.proofs.Common.{◌≡◌, subst}
use Rattle.std.specs.Prelude.{IfOk}
use Rattle.tree_state.specs.declared.kinds.WantKind.TheVariants as kind
use Rattle.wf_object.specs.Documents.{law_of}
use Rattle.next_step.specs.Next.{Next}
use Rattle.worker_job.specs.Told.{next_told}
use Rattle.worker_job.specs.Jobs.{OneJob}
use Rattle.worker_job.specs.Inside.Filing.{to_file, FilingFits}
use Rattle.worker_job.specs.Inside.Saving.{is_left, SavingFits}
use Rattle.worker_job.proofs.Chains.{viewed}
use Rattle.worker_job.proofs.Filing.{left_of}
use Rattle.worker_job.proofs.job.Job.next.Goals as goal

pub next-requires-clause-to_file : goal.next-requires-clause-to_file
next-requires-clause-to_file c =
    let j = c.args.self.now in
    left_of j c.in-Some.snapshot.now c.in-Some.ensures kind.Lock (to_file j.workflow) c.self.inside.to_file j.views.book c.in-Some-workflow.object.now c.in-Some-workflow.ensures
    (subst (λ (j : OneJob). FilingFits c.self.inside.to_file j.workflow j.views.flow j.views.book) c.self.view_is c.self.invariant.to_file)

pub next-requires-clause-to_save : goal.next-requires-clause-to_save
next-requires-clause-to_save c =
    let j = c.args.self.now in
    left_of j c.in-Some.snapshot.now c.in-Some.ensures kind.Save (is_left j.workflow) c.self.inside.to_save j.views.saves c.in-Some-workflow.object.now c.in-Some-workflow.ensures
    (subst (λ (j : OneJob). SavingFits c.self.inside.to_save j.workflow j.views.flow j.views.saves) c.self.view_is c.self.invariant.to_save)

pub returns-in-Some-workflow : goal.returns-in-Some-workflow
returns-in-Some-workflow c =
    let j = c.args.self.now in
    subst (λ (first : Next). IfOk c.next.result (λ n. next_told n ≡ first))
    (viewed (law_of c.args.document.now) j.workflow j.views c.in-Some.snapshot.now c.in-Some-workflow.object.now c.in-Some.ensures c.in-Some-workflow.ensures)
    c.next.ensures
