-- What a step of a worker answers, by what it does.
use Rattle.std.specs.Prelude.{Result, Ok, Err}
use Rattle.tree_state.specs.declared.refused.TreeRefused.{TreeRefused}
use Rattle.tree_state.specs.declared.refused.TreeRefused.TheVariants as refused
use Rattle.next_step.specs.Replies.{Reply, conflict, fault, Job, goes_on, ended}
use Rattle.reconcile_core.specs.declared.answers.Ended.TheVariants.{Absent}
use Rattle.reconcile_core.specs.declared.answers.StepDone.{StepDone}
use Rattle.reconcile_core.specs.declared.answers.StepDone.TheVariants.{Called, Ended}
use Rattle.reconcile_core.specs.declared.answers.ReconcileFault.{ReconcileFault}
use Rattle.reconcile_core.specs.declared.answers.ReconcileFault.TheVariants as faults

abbrev pub fault_of : TreeRefused → ReconcileFault
fault_of refused.TooLarge = faults.TooLarge
fault_of refused.Memory = faults.Memory

-- of the call by which a job ended: it was refused, or what it looked for was not there
abbrev pub of_refusal : Reply → Result StepDone ReconcileFault
of_refusal (conflict expected there) = Err (faults.Conflict expected there)
of_refusal fault = Err faults.Fault
of_refusal _ = Ok (Ended Absent)

-- of a call, by what its answer makes of the job
abbrev pub of_call : Job → Reply → Result StepDone ReconcileFault
of_call (goes_on v) r = Ok Called
of_call (ended e) r = of_refusal r
