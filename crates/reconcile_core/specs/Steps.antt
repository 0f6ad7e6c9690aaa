-- A step of a worker through a client: it is a step of a hand, at a history that goes on from what was seen.
use Rattle.std.specs.Prelude.{◌≡◌, ℕ, List, ◌∷◌, Result, Ok, Err, None}
use Rattle.history.specs.History.{Extends}
use Rattle.store_client.specs.Calls.{CountsOthers}
use Rattle.law.specs.Documents.{Text, Document}
use Rattle.law.specs.Contents.{Story}
use Rattle.next_step.specs.Views.{Views}
use Rattle.next_step.specs.Next.{get, act}
use Rattle.next_step.specs.Replies.{after}
use Rattle.next_step.specs.Hands.{Given, for_flow, Hand, fresh_hand, CallNote}
use Rattle.next_step.specs.Plays.{Stepped, has_none, gets, changes, is_full, is_done, gets_pod, finishes, ends}
use Rattle.reconcile_core.specs.declared.answers.Ended.TheVariants.{Done}
use Rattle.reconcile_core.specs.declared.answers.StepDone.{StepDone}
use Rattle.reconcile_core.specs.declared.answers.StepDone.TheVariants.{Idle, Called, Ended}
use Rattle.reconcile_core.specs.declared.answers.ReconcileFault.{ReconcileFault}
use Rattle.reconcile_core.specs.declared.answers.ReconcileFault.TheVariants as faults
use Rattle.reconcile_core.specs.Answers.{of_call}

-- what a step answers; a worker makes no step of a runner
abbrev pub Tells :
    {D : Document} {h : Story} {i : ℕ} {a : Hand} {notes : List CallNote} {g : Story} {b : Hand} →
    Stepped D h i a notes g b → Result StepDone ReconcileFault → Type 0
Tells (has_none e) r = r ≡ Ok Idle
Tells {D} {h} {i} {a} (gets w others k reply e n got) r = r ≡ of_call (after a.views (get k) reply) reply
Tells {D} {h} {i} {a} (changes w others m s facts reply g e n viewed adds did) r =
    r ≡ of_call (after a.views (act m) reply) reply
Tells (is_full w others x s e n viewed large) r = r ≡ Err faults.TooLarge
Tells (is_done w others e n) r = r ≡ Ok (Ended Done)
Tells (gets_pod w name others reply e n got) r = ⊥
Tells (finishes w name others x o reply g e p n did) r = ⊥
Tells (ends w name others x e p n) r = ⊥

-- the step of this hand, told with its number
pub record StepMade
    (D : Document) (i : ℕ) (seen : Story) (a : Hand) (others_before : ℕ) (r : Result StepDone ReconcileFault)
    (now : Story) (b : Hand) (others_now : ℕ) : Type 0 where
  pub at : Story
  pub later : Extends at seen
  pub others : CountsOthers seen at others_before others_now
  pub notes : List CallNote
  pub stepped : Stepped D at i a notes now b
  pub answer : Tells stepped r

-- a worker's hand in a job, with its other jobs
abbrev pub in_job : Text → List Given → Views → ℕ → Hand
in_job w others v lag = record { jobs = for_flow w ∷ others; views = v; pod = None; lag = lag }

-- the hand after a step: the job goes on, or the next begins
abbrev pub after_step : Result StepDone ReconcileFault → Text → List Given → Views → ℕ → Hand
after_step (Ok Called) w others v lag = in_job w others v lag
after_step _ w others v lag = fresh_hand others lag

-- a step of the oldest job, whichever the number and the other jobs of the hand
abbrev pub JobStepMade :
    Document → Text → Story → Views → ℕ → ℕ → Result StepDone ReconcileFault → Story → Views → ℕ → ℕ → Type 0
JobStepMade D w seen v lag others_before r now u lag_now others_now =
    (i : ℕ) (others : List Given) →
    StepMade D i seen (in_job w others v lag) others_before r now (after_step r w others u lag_now) others_now
