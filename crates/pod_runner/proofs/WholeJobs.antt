-- The calls of a whole job.
use Rattle.std.proofs.Common.{◌≡◌, ◌≢◌, ℕ, refl, sym, ap, subst, Option, Some, None, Result, Ok, Err}
use Rattle.object_store.specs.declared.snapshot.Snapshot.{Snapshot}
use Rattle.law.specs.Documents.{Text, Document}
use Rattle.law.specs.Contents.{Content, PodObject, Story}
use Rattle.next_step.specs.Views.{Seen}
use Rattle.pod_runner.specs.declared.answers.RunDone.{RunDone}
use Rattle.pod_runner.specs.declared.answers.RunDone.TheVariants.{Absent}
use Rattle.pod_runner.specs.declared.answers.RunFault.{RunFault}
use Rattle.pod_runner.specs.declared.answers.RunFault.TheVariants as faults
use Rattle.pod_runner.specs.declared.runner.PodJob.{PodJob}
use Rattle.pod_runner.specs.Inside.{pod_seen}
use Rattle.pod_runner.specs.Steps.{ReadMade, EndMade}
use Rattle.pod_runner.specs.WholeJobs.{JobMade, at_read, at_end}
use Rattle.pod_runner.proofs.Alone.{pod_read, same_fault}

abbrev of_names : Text → Text → PodJob
of_names w n = record { workflow = w; node = n }

fault_differs : (f : Result (Option (Snapshot Content)) RunFault) (e : RunFault) → f ≡ Err e → (let r : Result RunDone RunFault = Err e in r) ≢ Err faults.Memory → f ≢ Err faults.Memory
fault_differs f e is free q = free (ap Err (same_fault f e faults.Memory is q))

-- The names of the job were copied from these.
module _ (D : Document) (w n copied_w copied_n : Text) (same_w : copied_w ≡ w) (same_n : copied_n ≡ n) (seen : Story) (lag before : ℕ) (mid : Story) (lag_mid middle : ℕ) (f : Result (Option (Snapshot Content)) RunFault) (made : f ≢ Err faults.Memory → ReadMade (of_names copied_w copied_n) seen lag before f mid lag_mid middle) where
  named : (r : Result RunDone RunFault) (now : Story) (after : ℕ) → JobMade D (of_names copied_w copied_n) seen lag before r now after → JobMade D (of_names w n) seen lag before r now after
  named r now after job =
      subst (λ x. JobMade D (of_names x n) seen lag before r now after) same_w
      (subst (λ y. JobMade D (of_names copied_w y) seen lag before r now after) same_n job)

  made_so : (x : Result (Option (Snapshot Content)) RunFault) → f ≡ x → f ≢ Err faults.Memory → ReadMade (of_names copied_w copied_n) seen lag before x mid lag_mid middle
  made_so x is free = subst (λ (y : Result (Option (Snapshot Content)) RunFault). ReadMade (of_names copied_w copied_n) seen lag before y mid lag_mid middle) is (made free)

  pub made_missed : f ≡ Ok None → JobMade D (of_names w n) seen lag before (Ok Absent) mid middle
  made_missed is =
      named (Ok Absent) mid middle
      (at_read (Ok None) lag_mid (made_so (Ok None) is (λ q. cc)) (λ q. cc) refl)

  pub made_failed : (e : RunFault) → f ≡ Err e → (let r : Result RunDone RunFault = Err e in r) ≢ Err faults.Memory → JobMade D (of_names w n) seen lag before (Err e) mid middle
  made_failed e is free =
      named (Err e) mid middle
      (at_read (Err e) lag_mid (made_so (Err e) is (fault_differs f e is free)) (λ q. cc) refl)

  pub made_ended : (s : Snapshot Content) → f ≡ Ok (Some s) → (r : Result RunDone RunFault) (now : Story) (after : ℕ) → EndMade D (of_names copied_w copied_n) (pod_seen (Some s)) mid middle r now after → JobMade D (of_names w n) seen lag before r now after
  made_ended s is r now after end =
      named r now after
      (at_end s mid lag_mid middle (made_so (Ok (Some s)) is (λ q. cc))
      (subst (λ (p : Option (Seen PodObject)). EndMade D (of_names copied_w copied_n) p mid middle r now after) (sym (pod_read s)) end))
