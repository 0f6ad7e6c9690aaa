-- A step of a runner through a client: it is a step of a hand, at a history that goes on from what was seen.
use Rattle.std.specs.Prelude.{◌≡◌, ℕ, List, ◌∷◌, Result, Ok, Err, Some, None, Option}
use Rattle.tree_types.specs.declared.entry.Key.TheVariants as of_key
use Rattle.tree_types.specs.declared.outcome.Outcome.{Outcome}
use Rattle.history.specs.History.{Extends, IsVersionOf}
use Rattle.object_store.specs.declared.snapshot.Snapshot.{Snapshot}
use Rattle.object_store.specs.Answers.{IsOf}
use Rattle.store_client.specs.Calls.{CountsOthers}
use Rattle.law.specs.Documents.{Text, Document}
use Rattle.law.specs.Contents.{PodObject, Content, OfPod, apply, Story, pod_in}
use Rattle.next_step.specs.Views.{Seen, nothing}
use Rattle.next_step.specs.Replies.{Reply, found, accepted, conflict, fault}
use Rattle.next_step.specs.Runner.{RunNext, finish, already_finished, no_outcome, not_due, runner_next, finish_change}
use Rattle.next_step.specs.Backward.{GotBack}
use Rattle.next_step.specs.Hands.{Given, Hand, fresh_hand, CallNote}
use Rattle.next_step.specs.Plays.{EndsJob, Stepped, has_none, gets, changes, is_full, is_done, gets_pod, finishes, ends}
use Rattle.reply_laws.specs.Replies.{seen_in, DidBehind}
use Rattle.pod_runner.specs.declared.answers.RunDone.{RunDone}
use Rattle.pod_runner.specs.declared.answers.RunDone.TheVariants.{Idle, Called, Finished, Absent, NoOutcome, NotDue, AlreadyFinished}
use Rattle.pod_runner.specs.declared.answers.RunFault.{RunFault}
use Rattle.pod_runner.specs.declared.answers.RunFault.TheVariants as faults
use Rattle.pod_runner.specs.declared.runner.PodJob.{PodJob}
use Rattle.pod_runner.specs.Running.{given}

-- ---- what a step answers

-- of a call that was refused
abbrev pub of_refusal : Reply → Result RunDone RunFault
of_refusal (conflict expected there) = Err (faults.Conflict expected there)
of_refusal fault = Err faults.Fault
of_refusal _ = Ok Absent

-- of a read, by the pod that was read
abbrev pub of_pod : Option PodObject → Result RunDone RunFault
of_pod None = Ok Absent
of_pod (Some pod) = Ok Called

abbrev pub of_read : Reply → Result RunDone RunFault
of_read (found x) = of_pod (pod_in (Some x.content))
of_read r = of_refusal r

-- of the write of an outcome
abbrev pub of_write : Reply → Result RunDone RunFault
of_write (accepted x) = Ok Finished
of_write r = of_refusal r

-- of a job that ends without a call
abbrev pub of_end : RunNext → Result RunDone RunFault
of_end already_finished = Ok AlreadyFinished
of_end no_outcome = Ok NoOutcome
of_end (not_due tick) = Ok (NotDue tick)
of_end _ = Ok Idle

-- what a step answers; a runner makes no step of a worker
abbrev pub Tells :
    {D : Document} {h : Story} {i : ℕ} {a : Hand} {notes : List CallNote} {g : Story} {b : Hand} →
    Stepped D h i a notes g b → Result RunDone RunFault → Type 0
Tells (has_none e) r = r ≡ Ok Idle
Tells (gets_pod w name others reply e n got) r = r ≡ of_read reply
Tells (finishes w name others x o reply g e p n did) r = r ≡ of_write reply
Tells {D} (ends w name others x e p n) r = r ≡ of_end (runner_next D w name (Some x))
Tells (gets w others k reply e n got) r = ⊥
Tells (changes w others m s facts reply g e n viewed adds did) r = ⊥
Tells (is_full w others x s e n viewed large) r = ⊥
Tells (is_done w others e n) r = ⊥

-- the step of this hand, told with its number
pub record StepMade
    (D : Document) (i : ℕ) (seen : Story) (a : Hand) (others_before : ℕ) (r : Result RunDone RunFault) (now : Story)
    (b : Hand) (others_now : ℕ) : Type 0 where
  pub at : Story
  pub later : Extends at seen
  pub others : CountsOthers seen at others_before others_now
  pub notes : List CallNote
  pub stepped : Stepped D at i a notes now b
  pub answer : Tells stepped r

-- ---- a step of a job

-- a runner's hand in a job, with its other jobs
abbrev pub in_job : PodJob → List Given → Option (Seen PodObject) → ℕ → Hand
in_job job others pod lag = record { jobs = given job ∷ others; views = nothing; pod = pod; lag = lag }

-- the hand after a step: the job goes on, or the next begins
abbrev pub after_step : Result RunDone RunFault → PodJob → List Given → Option (Seen PodObject) → ℕ → Hand
after_step (Ok Called) job others pod lag = in_job job others pod lag
after_step _ job others pod lag = fresh_hand others lag

-- of the oldest job, whichever the number and the other jobs of the hand
abbrev pub JobStepMade :
    Document → PodJob → Story → Option (Seen PodObject) → ℕ → ℕ → Result RunDone RunFault → Story →
    Option (Seen PodObject) → ℕ → ℕ → Type 0
JobStepMade D job seen pod lag others_before r now pod_now lag_now others_now =
    (i : ℕ) (others : List Given) →
    StepMade D i seen (in_job job others pod lag) others_before r now (after_step r job others pod_now lag_now)
    others_now

-- the pod that was read stood so at some moment of what was seen
abbrev pub HasPod : Story → PodJob → Option (Seen PodObject) → Type 0
HasPod seen job o =
    (x : Seen PodObject) → o ≡ Some x →
    IsVersionOf apply seen (of_key.Pod job.workflow job.node) x.number (OfPod x.content) x.tick

-- ---- its two halves

-- a snapshot is of a job's pod
pub record IsOfJob (s : Snapshot Content) (job : PodJob) : Type 0 where
  pub key : s.key ≡ of_key.Pod job.workflow job.node
  pub pod : PodObject
  pub content : s.content ≡ OfPod pod

-- what is told of a read
abbrev pub of_found : Result (Option (Snapshot Content)) RunFault → Result RunDone RunFault
of_found (Ok (Some s)) = Ok Called
of_found (Ok None) = Ok Absent
of_found (Err e) = Err e

-- the pod that was read is the job's, and stands in the history
pub record PodRead (job : PodJob) (now : Story) (reply : Reply) (s : Snapshot Content) : Type 0 where
  pub of : IsOfJob s job
  pub is : reply ≡ found (seen_in s)
  pub shown : IsOf apply s now

abbrev pub IsPodRead : PodJob → Story → Reply → Result (Option (Snapshot Content)) RunFault → Type 0
IsPodRead job now reply (Ok (Some s)) = PodRead job now reply s
IsPodRead job now reply _ = Unit {0}

-- the pod is read, perhaps as it was so many versions before
pub record ReadMade
    (job : PodJob) (seen : Story) (lag others_before : ℕ) (r : Result (Option (Snapshot Content)) RunFault) (now : Story)
    (lag_now others_now : ℕ) : Type 0 where
  pub reply : Reply
  pub later : Extends now seen
  pub others : CountsOthers seen now others_before others_now
  pub back : GotBack now lag (of_key.Pod job.workflow job.node) reply
  pub used_up : lag_now ≡ 0
  pub told : of_found r ≡ of_read reply
  pub pod : IsPodRead job now reply r

-- the job ends on the pod that was read: its outcome is written, or nothing is called
pub data EndMade
    (D : Document) (job : PodJob) (pod : Option (Seen PodObject)) (seen : Story) (others_before : ℕ)
    (r : Result RunDone RunFault) (now : Story) (others_now : ℕ) : Type 0 where
  wrote :
      (x : Seen PodObject) (o : Outcome) (reply : Reply) → pod ≡ Some x →
      runner_next D job.workflow job.node (Some x) ≡ finish o →
      DidBehind seen (finish_change job.workflow job.node x o) reply now others_before others_now →
      r ≡ of_write reply → EndMade D job pod seen others_before r now others_now
  rested :
      (x : Seen PodObject) → pod ≡ Some x → EndsJob (runner_next D job.workflow job.node (Some x)) →
      r ≡ of_end (runner_next D job.workflow job.node (Some x)) → now ≡ seen → others_now ≡ others_before →
      EndMade D job pod seen others_before r now others_now
