-- What an answer makes of a job, and what is told of it.
use Rattle.std.specs.Prelude.{◌≡◌, ◌≢◌, Result, Err}
use Rattle.object_store.specs.declared.snapshot.Snapshot.{Snapshot}
use Rattle.object_store.specs.declared.refused.StoreRefused.{StoreRefused}
use Rattle.object_store.specs.declared.refused.StoreRefused.TheVariants as refused
use Rattle.law.specs.Contents.{Content}
use Rattle.next_step.specs.Views.{Views}
use Rattle.next_step.specs.Replies.{Reply, Job, goes_on, ended}
use Rattle.reconcile_core.specs.declared.answers.StepDone.{StepDone}
use Rattle.reconcile_core.specs.declared.answers.ReconcileFault.{ReconcileFault}
use Rattle.reconcile_core.specs.Answers.{of_call}

-- the views that a job goes on with
abbrev pub GoesOnWith : Job → Views → Type 0
GoesOnWith (goes_on x) u = x ≡ u
GoesOnWith (ended e) u = Unit {0}

pub record Hears
    (j : Job) (answer : Result (Snapshot Content) StoreRefused) (r : Reply) (told : Result StepDone ReconcileFault) (u : Views)
    : Type 0 where
  pub answered : answer ≢ Err refused.Memory
  pub goes : GoesOnWith j u
  pub is_told : told ≡ of_call j r
