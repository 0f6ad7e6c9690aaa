-- What speaks only of private code.
use Rattle.std.specs.Prelude.{◌≡◌, ℕ, List, [], ◌∷◌, Option, Some, None, Result, Ok}
use Rattle.tree_types.specs.declared.entry.Key.{Key}
use Rattle.history.specs.History.{Event}
use Rattle.law.specs.Documents.{Text, Document}
use Rattle.law.specs.Contents.{Content, Story}
use Rattle.next_step.specs.Views.{nothing}
use Rattle.next_step.specs.Changes.{ViewsOf}
use Rattle.reply_laws.specs.Replies.{LeavesClient}
use Rattle.worker_job.specs.Jobs.{OneJob}
use Rattle.reconcile_core.specs.declared.answers.StepDone.{StepDone}
use Rattle.reconcile_core.specs.declared.answers.StepDone.TheVariants.{Called}
use Rattle.reconcile_core.specs.declared.answers.ReconcileFault.{ReconcileFault}
use Rattle.reconcile_core.specs.Reconciled.{Steps}
use Rattle.reconcile_core.specs.Workers.{Working, working, with_next}

abbrev pub working_in : Option OneJob → List Text → Working
working_in None waiting = working waiting nothing
working_in (Some job) waiting = working (job.workflow ∷ waiting) job.views

-- no job waits but behind another
abbrev pub IsBusyFirst : Option OneJob → List Text → Type 0
IsBusyFirst None waiting = waiting ≡ []
IsBusyFirst (Some job) waiting = Unit {0}

-- a job of which a call is told goes on, and any other is over
abbrev pub after_answer : Result StepDone ReconcileFault → Working → Working
after_answer (Ok Called) k = k
after_answer _ k = with_next k

-- some steps of a job, which goes on, by the meanings of the client through which they were made
pub record Going
    {S L P : Type 0} (begins : L → List (Key × Content) → Type 0) (justified : L → Story → Event Content → Type 0)
    (seen : S → Story) (law : S → L) (place : S → P) (faults lag others : S → ℕ) (D : Document) (w : Text) (first : S)
    (job : OneJob) (now : S) : Type 0 where
  pub same : job.workflow ≡ w
  pub viewed : ViewsOf (seen now) job.workflow job.views
  pub leaves : LeavesClient begins justified seen law place faults first now
  pub steps : Steps D w (seen first) (lag first) (others first) (seen now) job.views (lag now) (others now)
