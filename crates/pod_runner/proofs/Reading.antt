-- Why a read of a pod is what a hand's step has it.
use Rattle.std.proofs.Common.{◌≡◌, ◌≢◌, ℕ, List, refl, sym, ◌∙◌, ap, subst, Option, Some, None, Result, Ok, Err}
use Rattle.std.specs.Prelude.{IfOk}
use Rattle.tree_types.specs.declared.entry.Key.{Key}
use Rattle.tree_types.specs.declared.entry.Key.TheVariants as of_key
use Rattle.history.specs.History.{Extends, IsVersionOf}
use Rattle.history.specs.Versions.{back_of, lag_after}
use Rattle.object_store.specs.declared.snapshot.Snapshot.{Snapshot}
use Rattle.object_store.specs.declared.refused.StoreRefused.{StoreRefused}
use Rattle.object_store.specs.declared.refused.StoreRefused.TheVariants as refused
use Rattle.object_store.specs.Answers.{IsOf}
use Rattle.store_client.specs.Calls.{CountsOthers}
use Rattle.law.specs.Contents.{PodObject, Content, OfWorkflow, OfPod, OfLocks, OfCaches, apply, Story, pod_in}
use Rattle.lawful.proofs.Facts.{some_same, none_some}
use Rattle.next_step.specs.Replies.{Reply, found}
use Rattle.next_step.specs.Backward.{GotBack}
use Rattle.next_laws.specs.Viewing.{Answers}
use Rattle.reply_laws.specs.Replies.{seen_in, refusal, read_reply}
use Rattle.pod_runner.specs.declared.answers.RunFault.{RunFault}
use Rattle.pod_runner.specs.declared.answers.RunFault.TheVariants as faults
use Rattle.pod_runner.specs.declared.runner.PodJob.{PodJob}
use Rattle.pod_runner.specs.Inside.{fault_by, fault_or, if_pod, heard_by}
use Rattle.pod_runner.specs.Steps.{of_pod, of_read, IsOfJob, of_found, PodRead, IsPodRead, ReadMade}

pub pod_is : (c : Content) (pod : PodObject) → pod_in (Some c) ≡ Some pod → c ≡ OfPod pod
pod_is (OfPod p) pod e = ap OfPod (some_same p pod e)
pod_is (OfWorkflow f) pod e = none_some pod e
pod_is (OfLocks b) pod e = none_some pod e
pod_is (OfCaches ss) pod e = none_some pod e

-- ---- what is heard, other than want of memory

record Heard (a : Result (Snapshot Content) StoreRefused) : Type 0 where
  pub answered : a ≢ Err refused.Memory
  pub told : of_found (heard_by a) ≡ of_read (read_reply a)

heard_pod : (s : Snapshot Content) (o : Option PodObject) → of_found (Ok (if_pod s o)) ≡ of_pod o
heard_pod s None = refl
heard_pod s (Some pod) = refl

heard : (a : Result (Snapshot Content) StoreRefused) → heard_by a ≢ Err faults.Memory → Heard a
heard (Ok s) free = record { answered = λ e. cc; told = heard_pod s (pod_in (Some s.content)) }
heard (Err refused.NoObject) free = record { answered = λ e. cc; told = refl }
heard (Err refused.Exists) free = record { answered = λ e. cc; told = refl }
heard (Err (refused.Conflict expected there)) free = record { answered = λ e. cc; told = refl }
heard (Err (refused.Behind clock)) free = record { answered = λ e. cc; told = refl }
heard (Err refused.Fault) free = record { answered = λ e. cc; told = refl }
heard (Err refused.Memory) free = absurd (free refl)

-- a Fault is heard of one alone
pub heard_fault : (a : Result (Snapshot Content) StoreRefused) → heard_by a ≡ Err faults.Fault → a ≡ Err refused.Fault
heard_fault (Ok s) e = absurd cc
heard_fault (Err refused.NoObject) e = absurd cc
heard_fault (Err refused.Exists) e = absurd cc
heard_fault (Err (refused.Conflict expected there)) e = absurd cc
heard_fault (Err (refused.Behind clock)) e = absurd cc
heard_fault (Err refused.Fault) e = refl
heard_fault (Err refused.Memory) e = absurd cc

-- ---- the pod that was read

module _ (job : PodJob) (now : Story) where
  abbrev The_key : Key
  The_key = of_key.Pod job.workflow job.node

  read_pod : (a : Result (Snapshot Content) StoreRefused) → IfOk a (λ s. s.key ≡ The_key) → Answers now The_key (read_reply a) → IsPodRead job now (read_reply a) (heard_by a)
  read_pod (Ok s) key shown = by (pod_in (Some s.content)) refl
    where
      by : (o : Option PodObject) → pod_in (Some s.content) ≡ o → IsPodRead job now (found (seen_in s)) (Ok (if_pod s o))
      by None e = tt
      by (Some pod) e = record {
        of = record { key = key; pod = pod; content = pod_is s.content pod e };
        is = refl;
        shown = subst (λ k. IsVersionOf apply now k s.version s.content s.tick) (sym key) shown;
      }
  read_pod (Err r) key shown = by (fault_by r)
    where
      by : (o : Option RunFault) → IsPodRead job now (refusal r) (fault_or None o)
      by None = tt
      by (Some e) = tt

  module _ (seen : Story) (lag lag_now before after : ℕ) (k : Key) (a : Result (Snapshot Content) StoreRefused) (is : k ≡ The_key) (later : Extends now seen) (others : CountsOthers seen now before after) where
    pub read_made : (a ≢ Err refused.Memory → GotBack now (back_of k lag) k (read_reply a)) → (a ≢ Err refused.Memory → Answers now k (read_reply a)) → IfOk a (λ s. s.key ≡ k) → lag_now ≡ lag_after k lag → (r : Result (Option (Snapshot Content)) RunFault) → r ≡ heard_by a → r ≢ Err faults.Memory → ReadMade job seen lag before r now lag_now after
    read_made back read key used r told free =
        let h = heard a (λ e. free (told ∙ e)) in
        subst (λ (x : Result (Option (Snapshot Content)) RunFault). ReadMade job seen lag before x now lag_now after) (sym told) record {
          reply = read_reply a;
          later = later;
          others = others;
          back = subst (λ j. GotBack now (back_of j lag) j (read_reply a)) is (back h.answered);
          used_up = subst (λ j. lag_now ≡ lag_after j lag) is used;
          told = h.told;
          pod = read_pod a (subst (λ j. IfOk a (λ s. s.key ≡ j)) is key) (subst (λ j. Answers now j (read_reply a)) is (read h.answered));
        }
