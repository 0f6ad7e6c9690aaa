-- A workflow that rests, and holds no lock.
use Rattle.std.proofs.Common.{sym, ◌∙◌, subst}
use Rattle.run_laws.specs.Whole.{went, Ran}
use Rattle.rest_laws.specs.Rest.{Rests}
use Rattle.sim_schedule.specs.declared.jobs.Job.{Job}
use Rattle.sim_schedule.specs.Inside.Jobs.{given}
use Rattle.sim_schedule.proofs.resting.Resting.passes.Goals as goal
use Rattle.sim_schedule.proofs.resting.Resting.passes.Goals.{then-contains, else-contains}

pub returns-then-contains-2 : goal.returns-then-contains-2
returns-then-contains-2 g c = λ held D valid lawful known end.
    let rests : Rests D c.args.store.now.history c.in-Workflow.workflow = elim c.if-contains.branch [
      | then-contains w ↦ known.rest c.in-Workflow.workflow valid lawful (sym c.contains.ensures ∙ w.if-contains.true)
      | else-contains w ↦ λ f s. (known.sleep c.in-Workflow.workflow valid lawful (sym w.contains-else-contains.ensures ∙ sym w.value-is ∙ c.if-contains-2.true) f s).rests
    ] in
    subst (λ (j : Job). Ran D c.args.store.now.history (given j) went c.args.store.now.history) (sym c.in-Workflow.is)
    (c.workflows_rest.ensures.idle D c.args.store.now.history c.in-Workflow.workflow valid lawful (c.holds_none.ensures held) rests)
