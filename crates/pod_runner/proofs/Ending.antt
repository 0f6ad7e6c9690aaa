-- Why a job may end as it does on a pod that was read, and what its end is.
use Rattle.std.proofs.Common.{◌≡◌, ◌≢◌, ℕ, refl, sym, ◌∙◌, ap, subst, Option, Some, None, Result, Ok, Err}
use Rattle.tree_types.specs.declared.outcome.Outcome.{Outcome}
use Rattle.tree_types.specs.declared.entry.Key.TheVariants as of_key
use Rattle.tree_types.specs.declared.entry.Entry.{Entry}
use Rattle.tree_types.specs.declared.entry.Entry.TheVariants.{Finish}
use Rattle.history.specs.History.{event, IsVersionOf}
use Rattle.object_store.specs.declared.snapshot.Snapshot.{Snapshot}
use Rattle.object_store.specs.declared.refused.StoreRefused.{StoreRefused}
use Rattle.object_store.specs.declared.refused.StoreRefused.TheVariants as refused
use Rattle.object_store.specs.Answers.{IsOf}
use Rattle.store_client.specs.Calls.{WillBeJustified}
use Rattle.wf_bundle.specs.declared.document.Document as bundle
use Rattle.law.specs.Documents.{Document}
use Rattle.law.specs.Contents.{PodObject, Content, OfPod, apply, finished, Story, pod_in}
use Rattle.lawful.specs.Still.{Still}
use Rattle.next_step.specs.Views.{Seen}
use Rattle.next_step.specs.Changes.{change}
use Rattle.next_step.specs.Replies.{seen}
use Rattle.next_step.specs.Runner.{RunNext, finish, runner_next, finish_change}
use Rattle.next_step.specs.Plays.{EndsJob}
use Rattle.next_laws.specs.Acts.{FinishesStill}
use Rattle.reply_laws.specs.Replies.{change_reply, DidBehind}
use Rattle.wf_object.specs.Documents.{law_of}
use Rattle.wf_object.specs.Kept.{begins, justified}
use Rattle.pod_runner.specs.declared.answers.RunDone.{RunDone}
use Rattle.pod_runner.specs.declared.answers.RunFault.{RunFault}
use Rattle.pod_runner.specs.declared.answers.RunFault.TheVariants as faults
use Rattle.pod_runner.specs.declared.runner.PodJob.{PodJob}
use Rattle.pod_runner.specs.Inside.{pod_by, pod_seen, written_by}
use Rattle.pod_runner.specs.Steps.{of_write, of_end, IsOfJob, EndMade, wrote, rested}
use Rattle.pod_runner.proofs.Reading.{pod_is}

-- ---- what is told of a write, other than want of memory

record Written (a : Result (Snapshot Content) StoreRefused) : Type 0 where
  pub answered : a ≢ Err refused.Memory
  pub told : written_by a ≡ of_write (change_reply a)

written : (a : Result (Snapshot Content) StoreRefused) → written_by a ≢ Err faults.Memory → Written a
written (Ok s) free = record { answered = λ e. cc; told = refl }
written (Err refused.NoObject) free = record { answered = λ e. cc; told = refl }
written (Err refused.Exists) free = record { answered = λ e. cc; told = refl }
written (Err (refused.Conflict expected there)) free = record { answered = λ e. cc; told = refl }
written (Err (refused.Behind clock)) free = record { answered = λ e. cc; told = refl }
written (Err refused.Fault) free = record { answered = λ e. cc; told = refl }
written (Err refused.Memory) free = absurd (free refl)

-- a Fault is told of one alone
pub written_fault : (a : Result (Snapshot Content) StoreRefused) → written_by a ≡ Err faults.Fault → a ≡ Err refused.Fault
written_fault (Ok s) e = absurd cc
written_fault (Err refused.NoObject) e = absurd cc
written_fault (Err refused.Exists) e = absurd cc
written_fault (Err (refused.Conflict expected there)) e = absurd cc
written_fault (Err (refused.Behind clock)) e = absurd cc
written_fault (Err refused.Fault) e = refl
written_fault (Err refused.Memory) e = absurd cc

-- ---- the outcome

module _ (job : PodJob) (s : Snapshot Content) (of : IsOfJob s job) where
  pub shown : (seen : Story) → IsOf apply s seen → (pod : PodObject) → pod_in (Some s.content) ≡ Some pod → IsVersionOf apply seen (of_key.Pod job.workflow job.node) s.version (OfPod pod) s.tick
  shown seen is pod e =
      subst (λ x. IsVersionOf apply seen (of_key.Pod job.workflow job.node) s.version x s.tick) (pod_is s.content pod e)
      (subst (λ k. IsVersionOf apply seen k s.version s.content s.tick) of.key is)

  module _ (pod : PodObject) (is : pod_in (Some s.content) ≡ Some pod) (D : Document) (o : Outcome) (next : runner_next D job.workflow job.node (Some (seen s.version pod s.tick)) ≡ finish o) (e : Entry) (named : e ≡ Finish job.workflow job.node o) where
    abbrev The_pod : Seen PodObject
    The_pod = seen s.version pod s.tick

    pub still : FinishesStill → (seen : Story) → IsOf apply s seen → Still D seen s.key s.version (event e None)
    still finishes seen of_seen =
        let is_still = finishes D seen job.workflow job.node The_pod o (shown seen of_seen pod is) next in
        subst (λ k. Still D seen k s.version (event e None)) (sym of.key)
        (subst (λ x. Still D seen (of_key.Pod job.workflow job.node) s.version (event x None)) (sym named) is_still)

    pub end_wrote : (seen now : Story) (before after : ℕ) (a : Result (Snapshot Content) StoreRefused) → (a ≢ Err refused.Memory → DidBehind seen (change s.key s.version (event e None)) (change_reply a) now before after) → (r : Result RunDone RunFault) → r ≡ written_by a → r ≢ Err faults.Memory → EndMade D job (pod_seen (Some s)) seen before r now after
    end_wrote seen now before after a did r told free =
        let w = written a (λ q. free (told ∙ q)) in
        wrote The_pod o (change_reply a) (ap (pod_by s) is) next
        (subst (λ k. DidBehind seen (change k s.version (event (Finish job.workflow job.node o) None)) (change_reply a) now before after) of.key
        (subst (λ x. DidBehind seen (change s.key s.version (event x None)) (change_reply a) now before after) named (did w.answered)))
        (told ∙ w.told)

-- where the document is the law, the outcome will be justified
pub will_be : (law D : bundle.Document) → law ≡ D → (seen : Story) (s : Snapshot Content) (e : Entry) → Still (law_of D) seen s.key s.version (event e None) → WillBeJustified begins justified law apply seen s.key s.version (event e None)
will_be law D same seen s e still = subst (λ l. WillBeJustified begins justified l apply seen s.key s.version (event e None)) (sym same) (λ start. still)

-- ---- an end without a call

pub end_rested : (job : PodJob) (s : Snapshot Content) (pod : PodObject) → pod_in (Some s.content) ≡ Some pod → (D : Document) (k : RunNext) → k ≡ runner_next D job.workflow job.node (Some (seen s.version pod s.tick)) → EndsJob k → (now : Story) (before : ℕ) → EndMade D job (pod_seen (Some s)) now before (of_end k) now before
end_rested job s pod is D k next ends now before = rested (seen s.version pod s.tick) (ap (pod_by s) is) (subst EndsJob next ends) (ap of_end next) refl refl
