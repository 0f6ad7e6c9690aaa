-- A whole job: its steps, one after the other, and what is told of its end.
use Rattle.std.specs.Prelude.{◌≡◌, ◌≢◌, ℕ, List, Result, Ok, Err, Some}
use Rattle.io_edge.specs.Cause.{Rose}
use Rattle.tree_types.specs.declared.fact.Fact.{Fact}
use Rattle.tree_types.specs.declared.entry.Key.{Key}
use Rattle.meaning.specs.Answers.{Facts}
use Rattle.history.specs.History.{Event}
use Rattle.law.specs.Documents.{Text, Document}
use Rattle.law.specs.Contents.{Flow, Content, Story}
use Rattle.law.specs.Due.{Matter, record_fact, IsTooLarge}
use Rattle.next_step.specs.Views.{Seen, Views, nothing}
use Rattle.next_step.specs.Next.{act, worker_next}
use Rattle.next_step.specs.Changes.{change_of, AddsFor, ViewsOf}
use Rattle.next_step.specs.Replies.{conflict}
use Rattle.next_step.specs.Calls.{Did}
use Rattle.reply_laws.specs.Replies.{LeavesClient}
use Rattle.run_laws.specs.Whole.{Told, went, was_full, failed, was_moved}
use Rattle.reconcile_core.specs.declared.answers.StepDone.{StepDone}
use Rattle.reconcile_core.specs.declared.answers.StepDone.TheVariants.{Called}
use Rattle.reconcile_core.specs.declared.answers.ReconcileFault.{ReconcileFault}
use Rattle.reconcile_core.specs.declared.answers.ReconcileFault.TheVariants as faults
use Rattle.reconcile_core.specs.Steps.{JobStepMade}

-- what the answer tells of the job; want of memory is told of none
abbrev pub told_of : Result Unit ReconcileFault → Told
told_of (Ok x) = went
told_of (Err faults.TooLarge) = was_full
told_of (Err faults.Fault) = failed
told_of (Err (faults.Conflict expected there)) = was_moved expected there
told_of (Err faults.Memory) = failed

-- ---- the steps

-- From a job's first on, with this lag and this number of entries of others, to views of what is seen then: each is the
-- next, and the job goes on.
pub data Steps (D : Document) (w : Text) (start : Story) (lag others : ℕ) : Story → Views → ℕ → ℕ → Type 0 where
  begun : Steps D w start lag others start nothing lag others
  with_step :
      {seen now : Story} {v u : Views} {left left_now came came_now : ℕ} → Steps D w start lag others seen v left came →
      JobStepMade D w seen v left came (Ok Called) now u left_now came_now →
      Steps D w start lag others now u left_now came_now

-- what is returned of the step by which a job ends
abbrev pub returned : Result StepDone ReconcileFault → Result Unit ReconcileFault
returned (Ok d) = Ok tt
returned (Err e) = Err e

-- a whole job: its last step ends it, and that is what is returned
pub record JobMade
    (D : Document) (w : Text) (start : Story) (lag others : ℕ) (r : Result Unit ReconcileFault) (now : Story)
    (lag_now others_now : ℕ) : Type 0 where
  pub seen : Story
  pub views : Views
  pub left : ℕ
  pub came : ℕ
  pub steps : Steps D w start lag others seen views left came
  pub viewed : ViewsOf seen w views
  pub last : Result StepDone ReconcileFault
  pub ends : last ≢ Ok Called
  pub views_now : Views
  pub made : JobStepMade D w seen views left came last now views_now lag_now others_now
  pub is_returned : r ≡ returned last

-- ---- why a job is given up

-- Its next change was of a version, from its view. The object stood at a later one, so nothing was changed.
pub record MovedOn (D : Document) (w : Text) (expected there : ℕ) (now : Story) : Type 0 where
  pub views : Views
  pub viewed : ViewsOf now w views
  pub matter : Matter
  pub flow : Seen Flow
  pub shown : views.flow ≡ Some flow
  pub next : worker_next D w views ≡ act matter
  pub facts : Facts
  pub adds : AddsFor flow facts matter
  pub refused : Did now (change_of w views flow facts matter) (conflict expected there) now

-- its next fact would make too large a tree of the workflow that it has read
pub record WouldBeTooLarge (D : Document) (w : Text) (now : Story) : Type 0 where
  pub views : Views
  pub viewed : ViewsOf now w views
  pub flow : Seen Flow
  pub shown : views.flow ≡ Some flow
  pub fact : Fact
  pub next : worker_next D w views ≡ act (record_fact fact)
  pub large : IsTooLarge flow.content fact

-- A Fault came with the last of some calls, and the faults rose.
pub record FaultCame
    {S L P : Type 0} (begins : L → List (Key × Content) → Type 0) (justified : L → Story → Event Content → Type 0)
    (seen : S → Story) (law : S → L) (place : S → P) (failures : S → ℕ) (rose : S → S → Type 0) (before now : S)
    : Type 0 where
  pub at : S
  pub leaves : LeavesClient begins justified seen law place failures before at
  pub came : rose at now
  pub risen : Rose (failures before) (failures now)
