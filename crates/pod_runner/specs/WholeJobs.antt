-- A whole job on a pod: its calls, and what is told of it.
use Rattle.std.specs.Prelude.{◌≡◌, ◌≢◌, ℕ, Option, Some, Result, Ok, Err}
use Rattle.object_store.specs.declared.snapshot.Snapshot.{Snapshot}
use Rattle.law.specs.Documents.{Document}
use Rattle.law.specs.Contents.{Content, Story}
use Rattle.next_step.specs.Replies.{found}
use Rattle.next_step.specs.Rounds.{pod_of_reply}
use Rattle.reply_laws.specs.Replies.{seen_in}
use Rattle.run_laws.specs.Whole.{Told, went, failed, was_moved}
use Rattle.pod_runner.specs.declared.answers.RunDone.{RunDone}
use Rattle.pod_runner.specs.declared.answers.RunDone.TheVariants.{Called}
use Rattle.pod_runner.specs.declared.answers.RunFault.{RunFault}
use Rattle.pod_runner.specs.declared.answers.RunFault.TheVariants as faults
use Rattle.pod_runner.specs.declared.runner.PodJob.{PodJob}
use Rattle.pod_runner.specs.Steps.{of_found, ReadMade, EndMade}

-- The pod is read, and the job ends on what was read; or it ends at the read, which has found no pod or was refused.
pub data JobMade
    (D : Document) (job : PodJob) (seen : Story) (lag others : ℕ) (r : Result RunDone RunFault) (now : Story)
    (others_now : ℕ) : Type 0 where
  at_read :
      (answer : Result (Option (Snapshot Content)) RunFault) (lag_now : ℕ) →
      ReadMade job seen lag others answer now lag_now others_now → r ≢ Ok Called → r ≡ of_found answer →
      JobMade D job seen lag others r now others_now
  at_end :
      (s : Snapshot Content) (at : Story) (lag_then others_then : ℕ) →
      ReadMade job seen lag others (Ok (Some s)) at lag_then others_then →
      EndMade D job (pod_of_reply (found (seen_in s))) at others_then r now others_now → JobMade D job seen lag others r now others_now

-- nothing is asked of it where memory was wanted
abbrev pub told_of : Result RunDone RunFault → Told
told_of (Ok done) = went
told_of (Err faults.Fault) = failed
told_of (Err (faults.Conflict expected there)) = was_moved expected there
told_of (Err faults.Memory) = failed

-- some calls left a client so, and a Fault came behind them
pub record RoseSince
    {S : Type 0} (leaves : S → S → Type 0) (rose : S → S → Type 0) (before after : S) : Type 0 where
  pub at : S
  pub left : leaves before at
  pub rises : rose at after
