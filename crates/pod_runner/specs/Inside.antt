-- What speaks only of private code.
use Rattle.std.specs.Prelude.{◌≡◌, Bool, true, false, List, [], ◌∷◌, Option, Some, None, Result, Ok, Err}
use Rattle.object_store.specs.declared.snapshot.Snapshot.{Snapshot}
use Rattle.object_store.specs.declared.refused.StoreRefused.{StoreRefused}
use Rattle.object_store.specs.declared.refused.StoreRefused.TheVariants as refused
use Rattle.law.specs.Contents.{PodObject, Content, pod_in}
use Rattle.next_step.specs.Views.{Seen}
use Rattle.next_step.specs.Replies.{seen}
use Rattle.next_step.specs.Runner.{RunNext, finish, already_finished, no_outcome, not_due}
use Rattle.pod_runner.specs.declared.answers.RunDone.{RunDone}
use Rattle.pod_runner.specs.declared.answers.RunDone.TheVariants.{Called, Finished, Absent}
use Rattle.pod_runner.specs.declared.answers.RunFault.{RunFault}
use Rattle.pod_runner.specs.declared.answers.RunFault.TheVariants as faults
use Rattle.pod_runner.specs.declared.outcome.Next.{Next}
use Rattle.pod_runner.specs.declared.outcome.Next.TheVariants as next
use Rattle.pod_runner.specs.declared.runner.PodJob.{PodJob}
use Rattle.pod_runner.specs.Running.{Running, running}
use Rattle.pod_runner.specs.Steps.{IsOfJob}

-- ---- the pod that was read

abbrev pub pod_by : Snapshot Content → Option PodObject → Option (Seen PodObject)
pod_by s None = None
pod_by s (Some pod) = Some (seen s.version pod s.tick)

abbrev pub pod_seen : Option (Snapshot Content) → Option (Seen PodObject)
pod_seen None = None
pod_seen (Some s) = pod_by s (pod_in (Some s.content))

-- what is kept of a read
abbrev pub pod_found : Result (Option (Snapshot Content)) RunFault → Option (Snapshot Content)
pod_found (Ok o) = o
pod_found (Err e) = None

abbrev pub OfJob : PodJob → Option (Snapshot Content) → Type 0
OfJob job None = Unit {0}
OfJob job (Some s) = IsOfJob s job

-- ---- a runner

abbrev pub running_in : List PodJob → Option (Snapshot Content) → Running
running_in jobs pod = running jobs (pod_seen pod)

-- the pod is the oldest job's
abbrev pub IsOfFirst : List PodJob → Option (Snapshot Content) → Type 0
IsOfFirst [] pod = pod ≡ None
IsOfFirst (job ∷ jobs) pod = OfJob job pod

-- ---- what comes next

abbrev pub next_told : Next → RunNext
next_told (next.Finish o) = finish o
next_told next.AlreadyFinished = already_finished
next_told next.NoOutcome = no_outcome
next_told (next.NotDue tick) = not_due tick

-- ---- what is told of a call

-- None where what the call looks for is not there
abbrev pub fault_by : StoreRefused → Option RunFault
fault_by (refused.Conflict expected there) = Some (faults.Conflict expected there)
fault_by refused.Fault = Some faults.Fault
fault_by refused.Memory = Some faults.Memory
fault_by _ = None

abbrev pub fault_or : {T : Type 0} → T → Option RunFault → Result T RunFault
fault_or otherwise None = Ok otherwise
fault_or otherwise (Some e) = Err e

-- a snapshot of a pod
abbrev pub if_pod : Snapshot Content → Option PodObject → Option (Snapshot Content)
if_pod s None = None
if_pod s (Some pod) = Some s

abbrev pub heard_by : Result (Snapshot Content) StoreRefused → Result (Option (Snapshot Content)) RunFault
heard_by (Ok s) = Ok (if_pod s (pod_in (Some s.content)))
heard_by (Err r) = fault_or None (fault_by r)

abbrev pub written_by : Result (Snapshot Content) StoreRefused → Result RunDone RunFault
written_by (Ok s) = Ok Finished
written_by (Err r) = fault_or Absent (fault_by r)

-- the job goes on
abbrev pub is_called : Result RunDone RunFault → Bool
is_called (Ok Called) = true
is_called _ = false
